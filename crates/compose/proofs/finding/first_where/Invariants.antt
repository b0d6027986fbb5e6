-- `compose::finding::first_where` meets its contract. The invariant: the index looked for is the first from i on.
use Rattle.std.proofs.Common.{◌≡◌, ◌-◌, ℤ, Bool, pos, get_or, length}
use Rattle.compose.specs.Code.{Answers}
use Rattle.compose.specs.Walk.{least}
use Rattle.compose.proofs.finding.first_where.Given as goal

abbrev pub invariant-loop-i : goal.invariant-loop-i
invariant-loop-i g l = (p : ℤ → Bool) → Answers (goal.F-post g l.passes) p → least (λ k. p (get_or l.list k (pos 0))) l.i (length l.list - l.i) ≡ least (λ k. p (get_or l.list k (pos 0))) l.initial.i (length l.list - l.initial.i)
