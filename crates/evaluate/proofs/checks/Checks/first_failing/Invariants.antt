-- The first of all that does not hold is the first of those from here on.
use Rattle.std.proofs.Common.{◌≡◌, drop}
use Rattle.evaluate.specs.Code.{first_chosen, holds_at}
use Rattle.evaluate.proofs.checks.Checks.first_failing.Given as goal

abbrev pub invariant-loop-number : goal.invariant-loop-number
invariant-loop-number l =
    let p = holds_at l.self.file.now l.self.heads.now l.row in
    first_chosen p l.self.chosen.now ≡ first_chosen p (drop l.number-index l.self.chosen.now)
