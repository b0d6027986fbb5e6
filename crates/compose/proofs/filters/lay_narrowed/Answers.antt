-- `compose::filters::lay_narrowed` meets its contract.
use Rattle.std.proofs.Common.{◌∙◌, ◌≡◌, add-one, ap, sym, refl, rules, [], List, ℤ, ◌+◌, ◌-◌, suc, drop, get_or, length, take}
use mathlib.Core.List.{foldl}
use lib.Seq.{take-length}
use Rattle.spec.specs.Code.{as_kind}
use Rattle.spec.specs.Kind.{bitmask, constraint, oneof, range}
use Rattle.spec.specs.Record.{Record, records_of}
use Rattle.registry.specs.Code.{passes, test_in}
use Rattle.compose.specs.Code.{constraint_at}
use Rattle.compose.specs.Known.{domain_of}
use Rattle.compose.specs.Maps.{narrow_by}
use Rattle.compose.proofs.Narrowing.{Met, is_item, met-none, met-some, narrowed_as}
use Rattle.compose.proofs.filters.lay_narrowed.Goals.{Joined-kind, in-Bitmask, in-Oneof, in-Range}
use Rattle.compose.proofs.filters.lay_narrowed.Goals as goal

met : (c : Joined-kind) → Met (domain_of c.args.domain) c.args.list.now c.match-kind.list c.match-kind.kept (foldl (narrow_by c.args.f) (domain_of c.args.domain) (constraint_at c.args.rules.file.now c.args.rules.heads.now c.args.k))
met c =
    let h = c.record_at-c.result in
    let file = c.args.rules.file.now in
    let head = get_or c.args.rules.heads.now c.args.k 0 in
    let end = get_or c.args.rules.heads.now (c.args.k + 1) 0 in
    let its = take (end - suc head) (drop (suc head) (records_of file)) in
    let src : List ℤ = domain_of c.args.domain in
    let own : h.a ≡ c.args.f = ap (λ (r : Record). r.a) c.record_at-c.ensures.read ∙ c.requires.constraint.1 in
    elim c.match-kind.branch [
      | in-Range u ↦ let p = passes (test_in (constraint range) h.p h.q []) in record {
        p = p;
        count = u.kept-is ∙ u.lay_passing-kept.ensures.count p (λ x b f e. search rules);
        front = u.list-is ∙ u.lay_passing-kept.ensures.left p (λ x b f e. search rules);
        is = narrowed_as h file head end c.args.f src (constraint range) its c.record_at-c.ensures.read (ap as_kind u.in-Range.is) refl own refl;
      }
      | in-Bitmask u ↦ let p = passes (test_in (constraint bitmask) h.p h.q []) in record {
        p = p;
        count = u.kept-is ∙ u.lay_passing-kept-in-Bitmask.ensures.count p (λ x b f e. search rules);
        front = u.list-is ∙ u.lay_passing-kept-in-Bitmask.ensures.left p (λ x b f e. search rules);
        is = narrowed_as h file head end c.args.f src (constraint bitmask) its c.record_at-c.ensures.read (ap as_kind u.in-Bitmask.is) refl own refl;
      }
      | in-Oneof u ↦ record {
        p = is_item c.part-run.result.now;
        count = u.kept-is ∙ u.lay_among-kept.ensures.count;
        front = u.list-is ∙ u.lay_among-kept.ensures.left;
        is = narrowed_as h file head end c.args.f src (constraint oneof) (records_of c.part-run.result.now) c.record_at-c.ensures.read (ap as_kind u.in-Oneof.is) refl own (rw (add-one head) at c.part-run.ensures.records);
      }
    ]

pub returns-then-none : goal.returns-then-none
returns-then-none c =
    let m = met (goal.at.returns-then-none c).Joined-kind in
    let e = c.lay-then-none.ensures ∙ sym (met-none _ _ _ _ _ m c.if-none.true) in
    record { count = ap length e; front = take-length _ ∙ e }

pub returns : goal.returns
returns c =
    let m = met (goal.at.returns c).Joined-kind in
    let e = met-some _ _ _ _ _ m c.if-none.false in
    record { count = e.0; front = e.1 }
