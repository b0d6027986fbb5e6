-- `registry::check::meets` meets its contract.
use Rattle.std.proofs.Common.{rules}
use Rattle.registry.proofs.Masks.{masked}
use Rattle.registry.proofs.Constraints.{mask-natural}
use Rattle.registry.proofs.check.meets.Goals as goal

pub returns-in-Bitmask : goal.returns-in-Bitmask
returns-in-Bitmask c = rw c.in-Bitmask.is (masked c.args.v.0 c.args.p c.args.q (search rules) c.ranges.p c.ranges.q (mask-natural c.args.p (rw c.in-Bitmask.is at c.requires)))
