-- `spec::domains::part` meets its contract: whole records lie 32 bytes apart.
use mathlib.Core.Path.{refl}
use Rattle.spec.proofs.Runs.{part_records}
use Rattle.spec.proofs.domains.part.Goals as goal

pub returns : goal.returns
returns c = record { bytes = refl; records = part_records c.args.file.now c.args.from c.args.to c.requires.0 c.requires.1 }
