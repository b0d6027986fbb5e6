-- What the code's types stand for.
use Rattle.std.specs.Prelude.{Result, Ok, Err}
use Rattle.spec.specs.Code.{as_shape}
use Rattle.spec.specs.Refusal.{Answer, Refused, accepted, refused}
use Rattle.spec.specs.Shape.{Shape}
use Rattle.spec.specs.declared.validate.Shape as code
use Rattle.listing.specs.Text.{refusal}
use Rattle.listing.specs.declared.text.Numbered as code'

-- The refusal that these numbers stand for.
abbrev pub as_numbered : code'.Numbered → Refused
as_numbered n = refusal n.number n.record

-- What was judged, where a refusal stands for these numbers.
abbrev pub as_answer_by : {R : Type 0} → (R → Refused) → Result code.Shape R → Answer Refused Shape
as_answer_by numbers (Ok s) = accepted (as_shape s)
as_answer_by numbers (Err r) = refused (numbers r)
