-- Domain, field check, total.
use Rattle.std.specs.Prelude.{Bool, true, ◌&&◌, cond, List, [], ◌∷◌, map, ℕ, zero, suc, ◌+◌, ◌-◌, ◌*◌, ◌/◌, ◌%◌, length, eqb, ltb, ℤ, pos, negsuc, neg_ℤ, nat_abs, ◌+ℤ◌, ◌-ℤ◌}
use Rattle.std.specs.Int.Signed.{le_z}
use Rattle.lists.specs.Lists.{product}
use Rattle.lists.specs.Integers.{elem_z}
use Rattle.spec.specs.Spec.{FieldSpec, Free, Ranged, Listed, Spec}

-- The least multiple of k at or above p.
abbrev pub first_multiple : ℕ → ℤ → ℤ
first_multiple k (pos a) = pos ((a + (k - 1)) / k * k)
first_multiple k (negsuc a) = neg_ℤ (pos (suc a / k * k))

-- How many of a, a + k, .. are at or below q.
abbrev pub how_many : ℕ → ℤ → ℤ → ℕ
how_many k a q = cond (le_z a q) (suc (nat_abs (q -ℤ a) / k)) 0

-- n values from a on, k apart.
abbrev pub progression : ℕ → ℤ → ℕ → List ℤ
progression k a zero = []
progression k a (suc n) = a ∷ progression k (a +ℤ pos k) n

-- The multiples of k in p..q, rising.
abbrev pub multiples : ℕ → ℤ → ℤ → List ℤ
multiples k p q = progression k (first_multiple k p) (how_many k (first_multiple k p) q)

-- An absent step is 1.
abbrev pub step_of : ℕ → ℕ
step_of zero = 1
step_of (suc k) = suc k

-- Listed values in file order, repeats kept; else the multiples of the step in the range, rising, no range meaning 0..255.
abbrev pub domain : FieldSpec → List ℤ
domain (Free step) = multiples (step_of step) (pos 0) (pos 255)
domain (Ranged p q step) = multiples (step_of step) p q
domain (Listed values) = values

abbrev pub on_step : ℕ → ℤ → Bool
on_step zero v = true
on_step (suc k) v = eqb (nat_abs v % suc k) 0

-- The field check: listed, or within the range if there is one and a multiple of the step if there is one.
abbrev pub allows : FieldSpec → ℤ → Bool
allows (Free step) v = on_step step v
allows (Ranged p q step) v = le_z p v && le_z v q && on_step step v
allows (Listed values) v = elem_z v values

unfoldable pub domains : Spec → List (List ℤ)
domains s = map domain s.fields

abbrev pub zero_without : List FieldSpec → ℕ → ℕ
zero_without [] k = 0
zero_without (f ∷ fs) k = k

-- The product of the domain lengths; 0 with no fields.
unfoldable pub total : Spec → ℕ
total s = zero_without s.fields (product (map (λ f. length (domain f)) s.fields))

-- 10: the total is above 1,000,000,000.
unfoldable pub too_many : Spec → Bool
too_many s = ltb 1000000000 (total s)
