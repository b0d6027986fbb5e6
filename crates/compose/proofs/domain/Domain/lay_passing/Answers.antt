-- `compose::domain::Domain::lay_passing` meets its contract.
use Rattle.std.proofs.Common.{◌∙◌, ◌≡◌, ap, sym, rules, arith, List, ℤ, pos, get_or, w64, to_z, of_z}
use mir.ValLaws.{to_z-of_z}
use Rattle.compose.specs.Known.{domain_of}
use Rattle.compose.proofs.Narrowing.{moved_count, moved_end, moved_kept, moved_none, moved_past}
use Rattle.compose.proofs.domain.Domain.lay_passing.Goals.{then-passes, else-passes}
use Rattle.compose.proofs.domain.Domain.lay_passing.Goals as goal

pub loop-i-init : goal.loop-i-init
loop-i-init g c = (omega arith, λ p a. moved_none p (domain_of c.args.self) c.args.list.now c.requires.room)

pub loop-i-preserved : goal.loop-i-preserved
loop-i-preserved g c =
    let l = c.loop-i in
    let list = c.args.list.now in
    let src : List ℤ = domain_of c.args.self in (
      elim c.if-passes.branch [ then-passes u ↦ omega arith | else-passes u ↦ omega arith ],
      λ p a.
          let m = l.invariant.1 p a in
          let v = c.domain_value-v in
          let x : to_z w64 (of_z w64 v.result.0) ≡ get_or src l.i (pos 0) = to_z-of_z w64 v.result.0 (search rules) ∙ v.ensures in
          let t : c.passes.result ≡ p (get_or src l.i (pos 0)) = a _ _ (search rules) c.passes.ensures ∙ ap p v.ensures in
          elim c.if-passes.branch [
            | then-passes u ↦ rw (u.list-is, u.kept-is, x) (moved_kept p src list l.list l.kept l.i m (omega (arith, c.requires.room)) (sym t ∙ u.if-passes.true))
            | else-passes u ↦ rw (u.list-is, u.kept-is) (moved_past p src list l.list l.kept l.i m (omega (arith, c.requires.room)) (sym t ∙ u.if-passes.false))
          ],
    )

pub returns : goal.returns
returns g c =
    let l = c.loop-i in
    let list = c.args.list.now in
    let src : List ℤ = domain_of c.args.self in
    record {
      count = λ p a. moved_count p src list l.list l.kept l.i (l.invariant.1 p a) (omega (arith, c.requires.room));
      left = λ p a. moved_end p src list l.list l.kept l.i (l.invariant.1 p a) (omega (arith, c.requires.room));
    }
