use Rattle.evaluate.specs.Code.{holds_at}
use Rattle.evaluate.proofs.Chosen.{none_fails}
use Rattle.evaluate.proofs.checks.Checks.hold.Goals as goal

pub returns-else-is_empty : goal.returns-else-is_empty
returns-else-is_empty c = none_fails (holds_at c.args.self.now.file.now c.args.self.now.heads.now c.args.row.now) c.args.self.now.chosen.now c.first_failing.result c.is_none.result c.first_failing.ensures.first c.is_none.ensures
