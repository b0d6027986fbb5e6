-- A specification, as a rules file decodes to it (src/spec/mod.rs). Fields go by their numbers.
use Rattle.std.proofs.Math.Option.{Option}
use Rattle.std.specs.Prelude.{List, ℕ, ℤ}

pub data FieldSpec : Type 0 where
  Free : (step : ℕ) → FieldSpec  -- form 0, no range; a step of 0 is absent
  Ranged : (p q : ℤ) (step : ℕ) → FieldSpec  -- form 1
  Listed : (values : List ℤ) → FieldSpec  -- form 2

-- A test of one value: kinds 10, 11, 14 to 18 and 21.
pub data Test : Type 0 where
  Range : (p q : ℤ) → Test
  Even : Test
  Lt Gt Le Ge : (p : ℤ) → Test
  Oneof : (items : List ℤ) → Test
  Bitmask : (mask : ℕ) (value : ℤ) → Test

-- A member of a cross.
pub data Entry : Type 0 where
  Pair : (p q : ℤ) → Entry
  Key : (p : ℤ) → Entry

-- A write to a field: an assign, or a disable, whose value is 0.
pub data FieldAssignment : Type 0 where
  Assign : (field : ℕ) (value : ℤ) → FieldAssignment

pub data Enabling : Type 0 where
  by_mask by_set : Enabling

pub data ConstraintSpec : Type 0 where
  Check : (field : ℕ) → Test → ConstraintSpec
  Eq Neq : (a b : ℕ) → ConstraintSpec
  Cross : (parent child : ℕ) → List Entry → ConstraintSpec
  Enable : Enabling → (field : ℕ) (trigger : ℤ) → List FieldAssignment → ConstraintSpec

pub data AxisSpec : Type 0 where
  Axis : (width shift radix : ℕ) → AxisSpec  -- a radix of 0 is absent

pub data ProjectorSpec : Type 0 where
  Sum : ProjectorSpec
  Identity Parity : (field : ℕ) → ProjectorSpec
  Decompose : (field : ℕ) (base : ℤ) (offset : Option ℕ) → List AxisSpec → ProjectorSpec

pub record Spec : Type 0 where
  pub fields : List FieldSpec
  pub constraints : List ConstraintSpec
  pub projector : ProjectorSpec
