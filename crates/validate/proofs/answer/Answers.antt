-- What `validate` ensures of its answer is the definition's, and `put_answer` puts its line.
use mathlib.Core.Path.{◌∙◌, ap}
use Rattle.listing.specs.Text.{answer_line}
use Rattle.listing.proofs.Judged.{answer_by_faults}
use Rattle.validate.specs.Printed.{printed}
use Rattle.validate.proofs.answer.Goals as goal

pub returns : goal.returns
unfolding printed
returns c = record { prefix_len = c.put_answer.ensures.prefix_len; text_after = c.put_answer.ensures.text_after ∙ ap answer_line (answer_by_faults c.validate.result ∙ c.validate.ensures) }
