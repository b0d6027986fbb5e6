-- `compose::domain::Domain::len` meets its contract.
use Rattle.std.proofs.Common.{◌∙◌}
use Rattle.compose.proofs.Laid.{domain_long}
use Rattle.compose.proofs.domain.Domain.len.Goals as goal

pub returns : goal.returns
returns c = c.domain_len.ensures ∙ domain_long c.args.self.head c.args.self.values.now
