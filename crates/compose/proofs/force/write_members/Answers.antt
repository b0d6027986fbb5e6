-- `compose::force::write_members` meets its contract. The invariant: the members left, written to the row, give what all of them give.
use mathlib.Core.List.{foldl}
use mathlib.Core.Path.{◌∙◌, ◌≡◌, ap, refl, sym}
use native.Mathlib.Omega.{arith}
use borrow.Author.Rules.{sfits_of}
use lib.ListN.{length}
use mir.Syntax.{w64}
use mir.Val.{of_z, to_z}
use mir.ValLaws.{to_z-of_z}
use Rattle.spec.specs.Record.{record_at}
use Rattle.compose.specs.Force.{write}
use Rattle.compose.proofs.Forcing.{write-below, writes_end, writes_turn}
use Rattle.compose.proofs.force.write_members.Goals as goal

pub loop-i-init : goal.loop-i-init
loop-i-init c = refl

pub bounds-row-f : goal.bounds-row-f
bounds-row-f c = let b = write-below c.args.run.now (length c.args.row.now) c.loop-i.i c.requires (omega arith) in let a = c.a_at-f.ensures.0 in omega arith

pub loop-i-preserved : goal.loop-i-preserved
loop-i-preserved c =
    let l = c.loop-i in
    let p : to_z w64 (of_z w64 c.p_at.result) ≡ (record_at c.args.run.now l.i).p = to_z-of_z w64 c.p_at.result (sfits_of c.p_at.type_inv) ∙ c.p_at.ensures in
    writes_turn c.args.run.now l.row l.i c.a_at-f.result (to_z w64 (of_z w64 c.p_at.result)) (omega arith) c.a_at-f.ensures.0 p ∙ l.invariant

pub returns : goal.returns
returns c =
    let l = c.loop-i in
    ap (foldl write l.row) (sym (writes_end c.args.run.now l.i (omega arith))) ∙ l.invariant
