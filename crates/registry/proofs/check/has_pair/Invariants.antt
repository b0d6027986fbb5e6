-- `registry::check::has_pair` meets its contract. The invariant: the run has the pair exactly where what is left of it has.
use Rattle.std.proofs.Common.{◌≡◌, ◌*◌}
use Rattle.spec.proofs.Axis.{any_from}
use Rattle.registry.proofs.Cross.{pairs}
use Rattle.registry.proofs.check.has_pair.Given as goal

abbrev pub invariant-loop-block : goal.invariant-loop-block
invariant-loop-block l = any_from (pairs l.v.0 l.w.0) l.run 0 ≡ any_from (pairs l.v.0 l.w.0) l.run (l.block * 4)
