-- `compose::filters::compact` meets its contract.
use Rattle.std.proofs.Common.{◌∙◌, ◌≡◌, ap, refl, sym, rules, arith, pos, get_or, w64, to_z, of_z}
use mir.ValLaws.{to_z-of_z}
use Rattle.compose.proofs.Narrowing.{moved_count, moved_end, moved_kept, moved_none, moved_past, moved_read}
use Rattle.compose.proofs.filters.compact.Goals.{then-passes, else-passes}
use Rattle.compose.proofs.filters.compact.Goals as goal

pub loop-i-init : goal.loop-i-init
loop-i-init g c = (omega arith, λ p a. moved_none p c.args.list.now c.args.list.now refl)

pub loop-i-preserved : goal.loop-i-preserved
loop-i-preserved g c =
    let l = c.loop-i in
    let list = c.args.list.now in (
      elim c.if-passes.branch [ then-passes u ↦ omega arith | else-passes u ↦ omega arith ],
      λ p a.
          let m = l.invariant.1 p a in
          let x : to_z w64 (of_z w64 (get_or l.list l.i (pos 0))) ≡ get_or list l.i (pos 0) = to_z-of_z w64 (get_or l.list l.i (pos 0)) (search rules) ∙ moved_read p list l.list l.kept l.i m in
          let t : c.passes.result ≡ p (get_or list l.i (pos 0)) = a _ _ (search rules) c.passes.ensures ∙ ap p x in
          elim c.if-passes.branch [
            | then-passes u ↦ rw (u.list-is, u.kept-is, x) (moved_kept p list list l.list l.kept l.i m c.loop-i-test.true (sym t ∙ u.if-passes.true))
            | else-passes u ↦ rw (u.list-is, u.kept-is) (moved_past p list list l.list l.kept l.i m c.loop-i-test.true (sym t ∙ u.if-passes.false))
          ],
    )

pub returns : goal.returns
returns g c =
    let l = c.loop-i in
    let list = c.args.list.now in
    record {
      count = λ p a. moved_count p list list l.list l.kept l.i (l.invariant.1 p a) (omega arith);
      left = λ p a. moved_end p list list l.list l.kept l.i (l.invariant.1 p a) (omega arith);
    }
