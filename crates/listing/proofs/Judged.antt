-- A file judged by its faults is one judged by their numbers.
use Rattle.std.specs.Prelude.{◌≡◌, refl, Err, Ok, Result}
use Rattle.spec.specs.declared.refusal.Refusal.{Refusal}
use Rattle.spec.specs.declared.validate.Shape.{Shape}
use Rattle.spec.specs.Code.{as_answer, as_refused}
use Rattle.listing.specs.Code.{as_answer_by}

pub answer_by_faults : (judged : Result Shape Refusal) → as_answer_by as_refused judged ≡ as_answer judged
answer_by_faults (Ok s) = refl
answer_by_faults (Err r) = refl
