-- The row of values of a tuple, read and changed at one field.
use mathlib.Core.List.{List, [], ◌∷◌}
use mathlib.Core.Path.{◌≡◌, ap, refl}
use Prim.Native.Nat.{◌<◌, suc, zero, ℕ}
use native.Mathlib.Omega.{arith}
use lib.IntN.{pos, ℤ}
use lib.ListN.{get_or, length, set}
use Rattle.registry.specs.Check.{value_at}
use Rattle.compose.specs.Maps.{list_at}
use Rattle.compose.specs.Tuples.{values}

pub length-values : (lists : List (List ℤ)) (t : List ℕ) → length t ≡ length lists → length (values lists t) ≡ length lists
length-values [] t e = refl
length-values (l ∷ lists) [] e = absurd (omega arith)
length-values (l ∷ lists) (i ∷ t) e = ap suc (length-values lists t (omega arith))

-- The value of field f is the one at its index in its list.
pub at_values : (lists : List (List ℤ)) (t : List ℕ) → length t ≡ length lists → (f : ℕ) → value_at (values lists t) f ≡ get_or (list_at lists f) (get_or t f 0) (pos 0)
at_values [] t e f = refl
at_values (l ∷ lists) [] e f = absurd (omega arith)
at_values (l ∷ lists) (i ∷ t) e zero = refl
at_values (l ∷ lists) (i ∷ t) e (suc f) = at_values lists t (omega arith) f

-- Another index of field g changes the value of no other field.
pub at_values_set : (lists : List (List ℤ)) (t : List ℕ) (g x f : ℕ) → ¬ (f ≡ g) → value_at (values lists (set t g x)) f ≡ value_at (values lists t) f
at_values_set [] t g x f h = refl
at_values_set (l ∷ lists) [] g x f h = refl
at_values_set (l ∷ lists) (i ∷ t) zero x zero h = absurd (h refl)
at_values_set (l ∷ lists) (i ∷ t) zero x (suc f) h = refl
at_values_set (l ∷ lists) (i ∷ t) (suc g) x zero h = refl
at_values_set (l ∷ lists) (i ∷ t) (suc g) x (suc f) h = at_values_set lists t g x f (λ e. h (ap suc e))

-- Another index of field f changes the row at f.
pub values-set : (lists : List (List ℤ)) (t : List ℕ) (f i : ℕ) → length t ≡ length lists → f < length t → values lists (set t f i) ≡ set (values lists t) f (get_or (list_at lists f) i (pos 0))
values-set [] t f i e h = absurd (omega arith)
values-set (l ∷ lists) [] f i e h = absurd (omega arith)
values-set (l ∷ lists) (j ∷ t) zero i e h = refl
values-set (l ∷ lists) (j ∷ t) (suc f) i e h = ap (λ row. get_or l j (pos 0) ∷ row) (values-set lists t f i (omega arith) (omega arith))
