-- Forcing: when field a holds p, disable writes 0 and assign writes its value.
use Rattle.std.specs.Prelude.{Bool, true, false, set, ℤ}
use mathlib.Core.List.{List, ◌++◌, foldl}
use Rattle.lists.specs.Lists.{filter}
use Rattle.lists.specs.Integers.{eq_z}
use Rattle.spec.specs.Spec.{FieldAssignment, Assign, Enabling, by_mask, by_set, ConstraintSpec, Check, Eq, Neq, Cross, Enable}
use Rattle.registry.specs.Check.{value_at}
use Rattle.compose.specs.Tuples.{Engine, structural, exhaustive}

abbrev pub write : List ℤ → FieldAssignment → List ℤ
write row (Assign f v) = set row f v

abbrev pub write_if : Bool → List FieldAssignment → List ℤ → List ℤ
write_if true writes row = foldl write row writes
write_if false writes row = row

-- An enable record looks at its trigger once, then writes all its members in file order.
abbrev pub force_by : List ℤ → ConstraintSpec → List ℤ
force_by row (Check f t) = row
force_by row (Eq a b) = row
force_by row (Neq a b) = row
force_by row (Cross parent child entries) = row
force_by row (Enable e f trigger writes) = write_if (eq_z (value_at row f) trigger) writes row

abbrev pub same_enabling : Enabling → Enabling → Bool
same_enabling by_mask by_mask = true
same_enabling by_mask by_set = false
same_enabling by_set by_mask = false
same_enabling by_set by_set = true

abbrev pub enables : Enabling → ConstraintSpec → Bool
enables e (Check f t) = false
enables e (Eq a b) = false
enables e (Neq a b) = false
enables e (Cross parent child entries) = false
enables e (Enable e' f trigger writes) = same_enabling e e'

-- Structural takes enable records in file order; exhaustive takes all enable_mask first, then all enable_set.
unfoldable pub forcing_order : Engine → List ConstraintSpec → List ConstraintSpec
forcing_order structural cs = cs
forcing_order exhaustive cs = filter (enables by_mask) cs ++ filter (enables by_set) cs

unfoldable pub force : Engine → List ConstraintSpec → List ℤ → List ℤ
force engine cs row = foldl force_by row (forcing_order engine cs)
