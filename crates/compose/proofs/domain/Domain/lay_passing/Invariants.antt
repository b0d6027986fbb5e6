-- `compose::domain::Domain::lay_passing` meets its contract. The invariant: those of the first i values of the domain that pass are laid in front.
use Rattle.std.proofs.Common.{◌≤◌, ℤ, Bool}
use Rattle.compose.specs.Code.{Answers}
use Rattle.compose.specs.Known.{domain_of}
use Rattle.compose.proofs.Narrowing.{Moved}
use Rattle.compose.proofs.domain.Domain.lay_passing.Given as goal

abbrev pub invariant-loop-i : goal.invariant-loop-i
invariant-loop-i g l = (l.kept ≤ l.i) × ((p : ℤ → Bool) → Answers (goal.F-post g l.passes) p → Moved p (domain_of l.self) l.initial.list l.list l.kept l.i)
