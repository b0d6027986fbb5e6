-- `compose::numbers::choose` meets its contract. The invariant: the numbers below k that are chosen stand behind those before.
use Rattle.std.proofs.Common.{◌≡◌, Bool, ℕ, ◌+◌, ◌++◌, length, take}
use Rattle.lists.specs.Lists.{filter, over, upto}
use Rattle.compose.specs.Code.{Chooses}
use Rattle.compose.proofs.numbers.choose.Given as goal

abbrev pub invariant-loop-k : goal.invariant-loop-k
invariant-loop-k g l = (q : ℕ → Bool) → Chooses (goal.F-post g l.chooses) l.c q → (l.numbers ≡ over (take l.before l.initial.numbers ++ filter q (upto l.k)) l.initial.numbers) × (l.count ≡ l.before + length (filter q (upto l.k)))
