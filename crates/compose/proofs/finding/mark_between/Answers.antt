-- `compose::finding::mark_between` meets its contract.
use Rattle.std.proofs.Common.{◌∙◌, ◌≡◌, ap, add-one, arith, rules, List, ℕ, set, true, false, get_or, pos}
use Rattle.lists.specs.Integers.{eq_z}
use Rattle.compose.proofs.Tabled.{marked_no, marked_yes}
use Rattle.compose.proofs.finding.mark_between.Goals.{then-list-i, else-list-i}
use Rattle.compose.proofs.finding.mark_between.Goals as goal

pub loop-i-preserved : goal.loop-i-preserved
loop-i-preserved c = λ cells e.
    let l = c.loop-i in
    let w = c.args.w.0 in
    let list = c.args.list.now in
    elim c.if-list-i.branch [
      | then-list-i u ↦ let same : eq_z (get_or list l.i (pos 0)) w ≡ true = search rules in rw (u.row-is, add-one l.i) (ap (λ (r : List ℕ). set r l.i 1) (l.invariant cells e) ∙ marked_yes w list cells l.i (omega arith) same)
      | else-list-i u ↦ let same : eq_z (get_or list l.i (pos 0)) w ≡ false = search rules in rw (u.row-is, add-one l.i) (l.invariant cells e ∙ marked_no w list cells l.i (omega arith) same)
    ]
