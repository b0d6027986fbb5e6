-- `compose::finding::mark_all` meets its contract.
use Rattle.std.proofs.Common.{◌∙◌, ◌≡◌, ◌+◌, ◌*◌, ◌≤◌, ap, arith, length, sym, take, ℕ}
use Rattle.lists.proofs.Tests.{or_split}
use Rattle.compose.specs.Code.{marked}
use Rattle.compose.proofs.Tabled.{four_past}
use Rattle.compose.proofs.finding.mark_all.Goals.{then-is_of_four, else-is_of_four}
use Rattle.compose.proofs.finding.mark_all.Goals as goal

pub loop-block-preserved : goal.loop-block-preserved
loop-block-preserved c =
    let l = c.loop-block in
    let w = c.args.w.0 in
    let list = c.args.list.now in
    let row = c.args.row.now in
    let i = l.block * 8 in
    let inside : i + 8 ≤ length list = omega (arith, c.loop-block-test.true) in
    let on : i + 8 ≡ (l.block + 1) * 8 = omega arith in
    let last : i + 4 + 4 ≡ (l.block + 1) * 8 = omega arith in
    elim c.if-is_of_four.branch [
      | then-is_of_four u ↦ rw u.row-is (u.mark_between.ensures row l.invariant ∙ ap (λ (n : ℕ). marked w (take n list) row) on)
      | else-is_of_four u ↦
          let none = or_split c.is_of_four.result c.is_of_four-in-loop-block.result u.if-is_of_four.false in
          rw u.row-is (l.invariant ∙ four_past w list row i (omega arith) (sym c.is_of_four.ensures ∙ none.0) ∙ four_past w list row (i + 4) (omega arith) (sym c.is_of_four-in-loop-block.ensures ∙ none.1) ∙ ap (λ (n : ℕ). marked w (take n list) row) last)
    ]
