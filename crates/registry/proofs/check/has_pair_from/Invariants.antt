-- `registry::check::has_pair_from` meets its contract. The invariant: the run has the pair from `from` on exactly where what is left of it has.
use Rattle.std.proofs.Common.{◌≡◌}
use Rattle.spec.proofs.Axis.{any_from}
use Rattle.registry.proofs.Cross.{pairs}
use Rattle.registry.proofs.check.has_pair_from.Given as goal

abbrev pub invariant-loop-i : goal.invariant-loop-i
invariant-loop-i l = any_from (pairs l.v.0 l.w.0) l.run l.i ≡ any_from (pairs l.v.0 l.w.0) l.run l.from
