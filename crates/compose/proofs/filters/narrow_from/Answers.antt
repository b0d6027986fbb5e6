-- `compose::filters::narrow_from` meets its contract.
use Rattle.std.proofs.Common.{◌∙◌, ◌+◌, ◌≤◌, ◌++◌, ap, subst, sym, arith, List, ℤ, drop, get_or, length, take}
use mathlib.Core.List.{foldl}
use lib.Seq.{length-take-le, take-length}
use Rattle.spec.specs.Record.{constraint_of}
use Rattle.registry.specs.Code.{group_in}
use Rattle.compose.specs.Maps.{narrow_by}
use Rattle.compose.specs.Code.{constraints_in}
use Rattle.compose.proofs.Narrowing.{over_front, over_room}
use Rattle.compose.proofs.Positions.{fold_end, fold_turn}
use Rattle.compose.proofs.filters.narrow_from.Goals.{then-is_filter, else-is_filter}
use Rattle.compose.proofs.filters.narrow_from.Goals as goal

pub loop-k-init : goal.loop-k-init
loop-k-init c = (omega arith, ap (λ (z : List ℤ). foldl (narrow_by c.args.f) z (constraints_in c.args.rules.file.now (drop c.args.first c.args.rules.heads.now))) (take-length c.args.list.now))

pub loop-k-preserved : goal.loop-k-preserved
loop-k-preserved c =
    let l = c.loop-k in
    let file = c.args.rules.file.now in
    let heads = c.args.rules.heads.now in
    let by = narrow_by c.args.f in
    let old = take l.len l.list in
    let rest = drop l.len l.list in
    let new = foldl by old (constraint_of (group_in file (get_or heads l.k 0) (get_or heads (l.k + 1) 0))) in
    elim c.if-is_filter.branch [
      | then-is_filter u ↦
          let r = u.narrow_by-len.result in
          let e = u.narrow_by-len.ensures in
          rw (u.len-is, u.list-is) (
            subst (λ (z : List ℤ). r ≤ length (z ++ rest)) (sym e.left) (over_room new old rest r e.count),
            ap (λ (z : List ℤ). foldl by z (constraints_in file (drop (l.k + 1) heads))) (ap (λ (z : List ℤ). take r (z ++ rest)) e.left ∙ over_front new old rest r e.count)
                ∙ sym (fold_turn by constraint_of file heads l.k old (omega arith)) ∙ l.invariant.1,
          )
      | else-is_filter u ↦
          rw (u.len-is, u.list-is) (
            l.invariant.0,
            ap (λ (z : List ℤ). foldl by z (constraints_in file (drop (l.k + 1) heads))) (sym (c.is_filter.ensures.others u.if-is_filter.false old))
                ∙ sym (fold_turn by constraint_of file heads l.k old (omega arith)) ∙ l.invariant.1,
          )
    ]

pub returns : goal.returns
returns c =
    let l = c.loop-k in
    let e = sym (fold_end (narrow_by c.args.f) constraint_of c.args.rules.file.now c.args.rules.heads.now l.k (take l.len l.list) (omega arith)) ∙ l.invariant.1 in
    record { count = sym (length-take-le l.len l.list l.invariant.0) ∙ ap length e; front = e }
