-- Laws of first_false.
use mathlib.Core.Bool.{Bool, false, true}
use mathlib.Core.List.{List, [], ◌++◌, ◌∷◌}
use mathlib.Core.Path.{◌∙◌, ◌≡◌, ap, refl, sym}
use Prim.Native.Nat.{◌+◌, ◌<◌, ◌≤◌, suc, zero, zero-le, ℕ}
use native.Mathlib.Nat.{add-suc, zero-add}
use native.Mathlib.Omega.{arith}
use lib.Dec.{eqb, eqb-suc-zero}
use lib.ListN.{get_or, length}
use Rattle.lists.specs.Lists.{all, first_false, further}

-- a place moved on by n; 0, no place, stays
abbrev pub shift : ℕ → ℕ → ℕ
shift n zero = zero
shift n (suc k) = n + suc k

-- the first place, or else the second moved on by n
abbrev pub or_shift : ℕ → ℕ → ℕ → ℕ
or_shift zero n q = shift n q
or_shift (suc i) n q = suc i

further_or_shift : (p n q : ℕ) → further (or_shift p n q) ≡ or_shift (further p) (suc n) q
further_or_shift zero n zero = refl
further_or_shift zero n (suc k) = rw (add-suc n k) (omega arith)
further_or_shift (suc i) n q = refl

pub first_false_append : (a b : List Bool) → first_false (a ++ b) ≡ or_shift (first_false a) (length a) (first_false b)
first_false_append [] b = go (first_false b)
  where
    go : (q : ℕ) → q ≡ shift 0 q
    go zero = refl
    go (suc k) = sym (zero-add (suc k))
first_false_append (true ∷ a) b = ap further (first_false_append a b) ∙ further_or_shift (first_false a) (length a) (first_false b)
first_false_append (false ∷ a) b = refl

pub first_false_le : (a : List Bool) → first_false a ≤ length a
first_false_le [] = zero-le
first_false_le (true ∷ a) = go (first_false a) (first_false_le a)
  where
    go : (k : ℕ) → k ≤ length a → further k ≤ suc (length a)
    go zero h = zero-le
    go (suc k) h = omega arith
first_false_le (false ∷ a) = omega arith

-- it is the place of a test that is false, where all before it are true
pub first_false_at : (bs : List Bool) (i : ℕ) → i < length bs → ((j : ℕ) → j < i → get_or bs j true ≡ true) → get_or bs i true ≡ false → first_false bs ≡ suc i
first_false_at [] i h before e = absurd (omega arith)
first_false_at (b ∷ bs) zero h before e = rw e
first_false_at (b ∷ bs) (suc i) h before e = rw (before 0 (omega arith)) (ap further (first_false_at bs i (omega arith) (λ j k. before (suc j) (omega arith)) e))

-- and 0 exactly where all are true
pub first_false-none : (bs : List Bool) → eqb (first_false bs) 0 ≡ all (λ b. b) bs
first_false-none [] = refl
first_false-none (true ∷ bs) = go (first_false bs) ∙ first_false-none bs
  where
    go : (k : ℕ) → eqb (further k) 0 ≡ eqb k 0
    go zero = refl
    go (suc k) = eqb-suc-zero (suc k) ∙ sym (eqb-suc-zero k)
first_false-none (false ∷ bs) = refl
