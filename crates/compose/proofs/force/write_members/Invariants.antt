-- `compose::force::write_members` meets its contract. The invariant: the members left, written to the row, give what all of them give.
use mathlib.Core.List.{foldl}
use mathlib.Core.Path.{◌≡◌}
use Rattle.compose.specs.Force.{write}
use Rattle.compose.proofs.Forcing.{writes_from}
use Rattle.compose.proofs.force.write_members.Given as goal

abbrev pub invariant-loop-i : goal.invariant-loop-i
invariant-loop-i l = foldl write l.row (writes_from l.run l.i) ≡ foldl write l.initial.row (writes_from l.run 0)
