-- `spec::numbers::power` meets its contract: each entry of the table is the power of its place.
use Rattle.spec.proofs.Powers.{power_at}
use Rattle.spec.proofs.numbers.power.Goals as goal

pub returns : goal.returns
returns c = power_at c.args.k c.requires
