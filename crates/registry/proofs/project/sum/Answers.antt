-- `registry::project::sum` meets its contract.
use Rattle.std.proofs.Common.{◌∙◌, to_z}
use mir.Syntax.{w64}
use mir.ValLaws.{to_z-of_z}
use Rattle.registry.proofs.Scale.{added_bound, added_fits, sum_more, value_held}
use Rattle.registry.proofs.project.sum.Goals as goal

pub overflow_add-total : goal.overflow_add-total
overflow_add-total c = let l = c.loop-x in added_fits c.args.row.now c.requires.few c.requires.scaled l.x-index c.loop-x-test.true (to_z w64 l.total-bits) l.invariant.0

pub loop-x-preserved : goal.loop-x-preserved
loop-x-preserved c =
    let l = c.loop-x in
    let row = c.args.row.now in
    let total = to_z w64 l.total-bits in
    rw (to_z-of_z w64 _ (added_fits row c.requires.few c.requires.scaled l.x-index c.loop-x-test.true total l.invariant.0)) (
      added_bound row c.requires.few c.requires.scaled l.x-index c.loop-x-test.true total l.invariant.0,
      rw (value_held row c.requires.few c.requires.scaled l.x-index c.loop-x-test.true) (sum_more row total l.x-index c.loop-x-test.true ∙ l.invariant.1),
    )
