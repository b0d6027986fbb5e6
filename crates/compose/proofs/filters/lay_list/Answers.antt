-- `compose::filters::lay_list` meets its contract: the domain is laid, and narrowed.
use mathlib.Core.List.{List, foldl}
use mathlib.Core.Path.{◌∙◌, ◌≡◌, ap, sym}
use Prim.Native.Nat.{◌+◌, ◌-◌, ◌≤◌, suc}
use native.Mathlib.Numerals.{add-one}
use native.Mathlib.Omega.{arith}
use lib.IntN.{ℤ}
use lib.ListN.{drop, length, take}
use lib.Seq.{length-take-le, take_at}
use Rattle.lists.specs.Lists.{concat_map}
use Rattle.spec.specs.Code.{as_record}
use Rattle.spec.specs.Domain.{domain}
use Rattle.spec.specs.Record.{constraint_of, field_by, field_of, records_of}
use Rattle.registry.specs.Code.{group_in}
use Rattle.compose.specs.Maps.{allowed, narrow_by}
use Rattle.compose.specs.Code.{constraints_in}
use Rattle.compose.proofs.Laid.{field_allowed, field_room, front_part}
use Rattle.compose.proofs.Positions.{fold_turn}
use Rattle.compose.proofs.filters.lay_list.Goals.{After-len-len}
use Rattle.compose.proofs.filters.lay_list.Goals as goal

-- the domain of the field, and the values that it is made of
abbrev laid : After-len-len → List ℤ
laid c = domain (field_by c.record_at.result.b (as_record c.record_at.result) (records_of c.part.result.now))

values_are : (c : After-len-len) → records_of c.part.result.now ≡ take (c.args.end - suc c.args.head) (drop (suc c.args.head) (records_of c.args.rules.file.now))
values_are c = rw (add-one c.args.head) at c.part.ensures.records

-- for which there is room
room : (c : After-len-len) → c.len-len.result ≤ length c.args.list.now
room c = let r = field_room c.record_at.result c.args.rules.file.now c.part.result.now c.args.head c.args.end c.requires.0 c.record_at.ensures.read (values_are c) (length c.args.list.now) c.requires.1 in omega (arith, c.len-len.ensures)

cut : (c : After-len-len) → length (take c.len-len.result c.args.list.now) ≡ c.len-len.result
cut c = length-take-le c.len-len.result c.args.list.now (room c)

-- narrowed it is the allowed list
narrowed : (c : After-len-len) → foldl (narrow_by c.args.f) (laid c) (constraints_in c.args.rules.file.now c.args.rules.heads.now) ≡ concat_map (λ d. allowed (constraints_in c.args.rules.file.now c.args.rules.heads.now) c.args.f d) (field_of (group_in c.args.rules.file.now c.args.head c.args.end))
narrowed c = field_allowed c.record_at.result c.args.rules.file.now c.part.result.now c.args.head c.args.end c.requires.0 c.record_at.ensures.read (values_are c) (constraints_in c.args.rules.file.now c.args.rules.heads.now) c.args.f

pub slice_bounds-lay-end : goal.slice_bounds-lay-end
slice_bounds-lay-end c = room (goal.at.slice_bounds-lay-end c).After-len-len

pub slice_bounds-lay-end-in_default : goal.slice_bounds-lay-end-in_default
slice_bounds-lay-end-in_default c = sym (cut (goal.at.slice_bounds-lay-end-in_default c).After-len-len)

pub lay-requires : goal.lay-requires
lay-requires c = cut (goal.at.lay-requires c).After-len-len ∙ c.len-len.ensures

pub slice_bounds-lay_narrowed-end : goal.slice_bounds-lay_narrowed-end
slice_bounds-lay_narrowed-end c = room (goal.at.slice_bounds-lay_narrowed-end c).After-len-len

pub slice_bounds-lay_narrowed-end-2 : goal.slice_bounds-lay_narrowed-end-2
slice_bounds-lay_narrowed-end-2 c = sym (cut (goal.at.slice_bounds-lay_narrowed-end-2 c).After-len-len)

pub lay_narrowed-kept-requires-clause-room : goal.lay_narrowed-kept-requires-clause-room
lay_narrowed-kept-requires-clause-room c = cut (goal.at.lay_narrowed-kept-requires-clause-room c).After-len-len ∙ c.len-len.ensures

-- no constraint narrows it
pub returns-in_default : goal.returns-in_default
returns-in_default c =
    let d = (goal.at.returns-in_default c).After-len-len in
    let len = c.len-len.result in
    let e = sym (c.in_default.ensures (laid d)) ∙ narrowed d in
    record {
      count = c.len-len.ensures ∙ ap length e;
      front = take_at c.lay.new.list (drop len c.args.list.now) len (c.lay.auto.list ∙ cut d) ∙ c.lay.ensures ∙ e;
    }

-- the first that does, and those behind it
pub returns : goal.returns
returns c =
    let d = (goal.at.returns c).After-len-len in
    let file = c.args.rules.file.now in
    let heads = c.args.rules.heads.now in
    let k = c.in-Some.k in
    let by = narrow_by c.args.f in
    let first = c.lay_narrowed-kept in
    let rest = c.narrow_from in
    let begun = front_part first.result _ first.new.list (drop c.len-len.result c.args.list.now) first.ensures.count first.ensures.front in
    let e =
    ap (λ (z : List ℤ). foldl by z (constraints_in file (drop (k + 1) heads))) begun
    ∙ sym (fold_turn by constraint_of file heads k (laid d) c.in-Some.ensures.0)
    ∙ sym (c.in-Some.ensures.2 (laid d))
    ∙ narrowed d
    in
    let count = rest.ensures.count ∙ ap length e in
    record { count = count; front = front_part rest.result _ rest.new.list _ count (rest.ensures.front ∙ e) }
