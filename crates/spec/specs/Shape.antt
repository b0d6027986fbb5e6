-- What an accepted file is answered with: what the layers above need of it.
use Rattle.std.specs.Prelude.{cond, List, [], ◌∷◌, ℕ, suc, ltb, length}
use Rattle.spec.specs.Domain.{total}
use Rattle.spec.specs.Kind.{section_of}
use Rattle.spec.specs.Record.{Record, records_of, decoded}

pub record Shape : Type 0 where
  pub fields : ℕ
  pub constraints : ℕ
  pub constraints_at : ℕ  -- the records before the first constraint
  pub projector_at : ℕ  -- the records before the projector
  pub total : ℕ

-- How many records stand before the first of section n or later.
abbrev pub stands_at : ℕ → List Record → ℕ
stands_at n [] = 0
stands_at n (m ∷ ms) = cond (ltb (section_of m.kind) n) (suc (stands_at n ms)) 0

unfoldable pub shape_of : List ℕ → Shape
shape_of file = record {
  fields = length (decoded file).fields;
  constraints = length (decoded file).constraints;
  constraints_at = stands_at 1 (records_of file);
  projector_at = stands_at 2 (records_of file);
  total = total (decoded file);
}
