-- `spec::domains::has_p_from` meets its contract. The invariant: the value is in the run from `from` on exactly when it is in what is left of it.
use mathlib.Core.Path.{◌≡◌}
use Rattle.spec.proofs.Runs.{has_from}
use Rattle.spec.proofs.domains.has_p_from.Given as goal

abbrev pub invariant-loop-i : goal.invariant-loop-i
invariant-loop-i l = has_from l.v.0 l.run l.from ≡ has_from l.v.0 l.run l.i
