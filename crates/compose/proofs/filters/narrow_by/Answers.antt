-- `compose::filters::narrow_by` meets its contract.
use Rattle.std.proofs.Common.{◌∙◌, ap, sym, refl, add-one, rules, List, ℤ, ◌+◌, get_or, length}
use mathlib.Core.List.{foldl}
use Rattle.lists.specs.Lists.{filter, over}
use Rattle.spec.specs.Code.{as_kind}
use Rattle.spec.specs.Kind.{bitmask, constraint, oneof, range}
use Rattle.spec.specs.Record.{constraint_of, records_of}
use Rattle.registry.specs.Code.{group_in, passes, test_in}
use Rattle.compose.specs.Maps.{narrow_by}
use Rattle.compose.proofs.Narrowing.{Met, is_item, left-none, left-some, narrowed_as}
use Rattle.compose.proofs.filters.narrow_by.Goals.{Joined-kind, in-Bitmask, in-Oneof, in-Range}
use Rattle.compose.proofs.filters.narrow_by.Goals as goal

-- what the constraint keeps
met : (c : Joined-kind) → Met c.args.list.now c.args.list.now c.match-kind.list c.match-kind.met (foldl (narrow_by c.args.f) c.args.list.now (constraint_of (group_in c.args.rules.file.now (get_or c.args.rules.heads.now c.args.k 0) (get_or c.args.rules.heads.now (c.args.k + 1) 0))))
met c =
    let h = c.record_at-h.result in
    let run = c.part-run.result.now in
    let list = c.args.list.now in
    let its = rw (add-one (get_or c.args.rules.heads.now c.args.k 0)) at c.part-run.ensures.records in
    elim c.match-kind.branch [
      | in-Range u ↦ let p = passes (test_in (constraint range) h.p h.q (records_of run)) in record {
        p = p;
        count = u.met-is ∙ u.compact-met.ensures.count p (λ x b f e. search rules);
        front = u.list-is ∙ u.compact-met.ensures.left p (λ x b f e. search rules);
        is = narrowed_as h c.args.rules.file.now (get_or c.args.rules.heads.now c.args.k 0) (get_or c.args.rules.heads.now (c.args.k + 1) 0) c.args.f list (constraint range) (records_of run) c.record_at-h.ensures.read (ap as_kind u.in-Range.is) refl c.if-h-f.false its;
      }
      | in-Oneof u ↦ record {
        p = is_item run;
        count = u.met-is ∙ u.compact_items-met.ensures.count;
        front = u.list-is ∙ u.compact_items-met.ensures.left;
        is = narrowed_as h c.args.rules.file.now (get_or c.args.rules.heads.now c.args.k 0) (get_or c.args.rules.heads.now (c.args.k + 1) 0) c.args.f list (constraint oneof) (records_of run) c.record_at-h.ensures.read (ap as_kind u.in-Oneof.is) refl c.if-h-f.false its;
      }
      | in-Bitmask u ↦ let p = passes (test_in (constraint bitmask) h.p h.q (records_of run)) in record {
        p = p;
        count = u.met-is ∙ u.compact-met-in-Bitmask.ensures.count p (λ x b f e. search rules);
        front = u.list-is ∙ u.compact-met-in-Bitmask.ensures.left p (λ x b f e. search rules);
        is = narrowed_as h c.args.rules.file.now (get_or c.args.rules.heads.now c.args.k 0) (get_or c.args.rules.heads.now (c.args.k + 1) 0) c.args.f list (constraint bitmask) (records_of run) c.record_at-h.ensures.read (ap as_kind u.in-Bitmask.is) refl c.if-h-f.false its;
      }
    ]

pub returns-then-none : goal.returns-then-none
returns-then-none c =
    let m = met (goal.at.returns-then-none c).Joined-kind in
    let list = c.args.list.now in
    let r = left-none (filter m.p list) list c.match-kind.list c.match-kind.met m.count m.front c.if-none.true in
    record { count = r.0 ∙ ap length (sym m.is); left = r.1 ∙ ap (λ (xs : List ℤ). over xs list) (sym m.is) }

pub returns-else-none : goal.returns-else-none
returns-else-none c =
    let m = met (goal.at.returns-else-none c).Joined-kind in
    let list = c.args.list.now in
    let r = left-some (filter m.p list) list c.match-kind.list c.match-kind.met m.count m.front c.if-none.false in
    record { count = r.0 ∙ ap length (sym m.is); left = r.1 ∙ ap (λ (xs : List ℤ). over xs list) (sym m.is) }
