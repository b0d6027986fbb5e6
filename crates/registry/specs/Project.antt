-- The projection of a row (src/verify/registry.rs).
use Rattle.std.specs.Prelude.{cond, List, [], ◌∷◌, ℕ, zero, suc, ◌+◌, ◌*◌, ◌/◌, ◌%◌, ◌^◌, ltb, ℤ, pos, negsuc, ◌-ℤ◌}
use Rattle.std.proofs.Math.Option.{Option, none, some}
use Rattle.lists.specs.Integers.{sum_z, low_bit}
use Rattle.spec.specs.Spec.{AxisSpec, Axis, ProjectorSpec, Sum, Identity, Parity, Decompose}
use Rattle.registry.specs.Check.{value_at}

abbrev pub plus : ℕ → Option ℕ → Option ℕ
plus n none = none
plus n (some m) = some (n + m)

-- The digits of v by radix in axis order, each times 2^shift, added up. An axis without radix takes the whole quotient and divides nothing off; none if that reaches 2^width.
abbrev pub digits : List AxisSpec → ℕ → Option ℕ
digits [] v = some 0
digits (Axis width shift zero ∷ axes) v = cond (ltb v (2 ^ width)) (plus (v * 2 ^ shift) (digits axes v)) none
digits (Axis width shift (suc r) ∷ axes) v = plus (v % suc r * 2 ^ shift) (digits axes (v / suc r))

-- v times 2^offset.
abbrev pub at_offset : Option ℕ → ℕ → ℕ
at_offset none v = 0
at_offset (some k) v = v * 2 ^ k

-- None above 2^63 − 1.
abbrev pub fitting : Option ℕ → Option ℤ
fitting none = none
fitting (some n) = cond (ltb n (2 ^ 63)) (some (pos n)) none

-- None if the value is below the base.
abbrev pub packed : Option ℕ → List AxisSpec → ℤ → Option ℤ
packed offset axes (pos v) = fitting (plus (at_offset offset v) (digits axes v))
packed offset axes (negsuc v) = none

-- The sum; the field; its lowest bit; or its digits.
abbrev pub project : ProjectorSpec → List ℤ → Option ℤ
project Sum row = some (sum_z row)
project (Identity f) row = some (value_at row f)
project (Parity f) row = some (pos (low_bit (value_at row f)))
project (Decompose f base offset axes) row = packed offset axes (value_at row f -ℤ base)
