-- `spec::domains::has_p` meets its contract. The invariant: the value is in the run exactly when it is in what is left of it.
use mathlib.Core.Path.{◌≡◌}
use Prim.Native.Nat.{◌*◌}
use Rattle.spec.proofs.Runs.{has_from}
use Rattle.spec.proofs.domains.has_p.Given as goal

abbrev pub invariant-loop-block : goal.invariant-loop-block
invariant-loop-block l = has_from l.v.0 l.run 0 ≡ has_from l.v.0 l.run (l.block * 8)
