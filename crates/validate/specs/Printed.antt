-- What the program prints.
use Rattle.std.specs.Prelude.{List, ℕ}
use Rattle.spec.specs.Refusal.{answer, file_fault}
use Rattle.spec.specs.Shape.{shape_of}
use Rattle.listing.specs.Text.{answer_line}

-- accepted and the total; or refused, number, record.
unfoldable pub printed : List ℕ → List ℕ
printed file = answer_line (answer (file_fault file) (shape_of file))
