-- `registry::check::crosses` meets its contract.
use Rattle.std.proofs.Common.{◌∙◌, sym}
use Rattle.spec.specs.Record.{records_of}
use Rattle.registry.proofs.Cross.{any_key}
use Rattle.registry.proofs.check.crosses.Goals as goal

pub returns-then-not-has_p : goal.returns-then-not-has_p
returns-then-not-has_p c = rw (any_key c.args.v.0 (records_of c.args.run.now) ∙ sym c.has_p.ensures) (rw c.if-not-has_p.true)

pub returns-else-not-has_p : goal.returns-else-not-has_p
returns-else-not-has_p c = rw (any_key c.args.v.0 (records_of c.args.run.now) ∙ sym c.has_p.ensures) (rw c.if-not-has_p.false c.has_pair.ensures)
