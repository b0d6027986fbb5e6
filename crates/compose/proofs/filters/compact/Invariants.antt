-- `compose::filters::compact` meets its contract. The invariant: those of the first i values that pass stand in front.
use Rattle.std.proofs.Common.{◌≤◌, ℤ, Bool}
use Rattle.compose.specs.Code.{Answers}
use Rattle.compose.proofs.Narrowing.{Moved}
use Rattle.compose.proofs.filters.compact.Given as goal

abbrev pub invariant-loop-i : goal.invariant-loop-i
invariant-loop-i g l = (l.kept ≤ l.i) × ((p : ℤ → Bool) → Answers (goal.F-post g l.passes) p → Moved p l.initial.list l.initial.list l.list l.kept l.i)
