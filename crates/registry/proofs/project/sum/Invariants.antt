-- `registry::project::sum` meets its contract. The invariant: what is added and what is left make up the whole, and so many values are at most so many times 2^56.
use Rattle.std.proofs.Common.{◌≡◌, ◌*◌, ◌^◌, ◌≤◌, ◌+ℤ◌}
use lib.IntN.{nat_abs}
use Rattle.lists.specs.Integers.{sum_z}
use Rattle.registry.proofs.Scale.{sum_from}
use Rattle.registry.proofs.project.sum.Given as goal

abbrev pub invariant-loop-x : goal.invariant-loop-x
invariant-loop-x l = (nat_abs l.total ≤ l.x-index * 2 ^ 56) × (l.total +ℤ sum_from l.row l.x-index ≡ sum_z l.row)
