-- A relation holds between each element of a list and each that comes after it.
use mathlib.Core.Bool.{Bool, false, true}
use mathlib.Core.List.{List, [], ◌++◌, ◌∷◌}
use mathlib.Core.Path.{◌≡◌}
use Prim.Native.Nat.{◌<◌, suc, zero, ℕ}
use native.Mathlib.Omega.{arith}
use lib.ListN.{get_or, length}
use Rattle.lists.specs.Lists.{cons_if, filter, span}
use Rattle.lists.proofs.All.{All, All_append, All_at, All-filter, []ᴬ, ◌∷ᴬ◌}

abbrev pub Pairwise : {A : Type 0} → (A → A → Type 0) → List A → Type 0
Pairwise R [] = Unit {0}
Pairwise R (x ∷ xs) = All (R x) xs × Pairwise R xs

abbrev pub Fresh : ℕ → List ℕ → Type 0
Fresh x xs = All (λ y. ¬ (x ≡ y)) xs

-- No number stands twice.
abbrev pub Distinct : List ℕ → Type 0
Distinct xs = Pairwise (λ x y. ¬ (x ≡ y)) xs

module _ {A : Type 0} (R : A → A → Type 0) where
  pub Pairwise_append : (xs ys : List A) → Pairwise R xs → Pairwise R ys → All (λ x. All (R x) ys) xs → Pairwise R (xs ++ ys)
  Pairwise_append [] ys p q c = q
  Pairwise_append (x ∷ xs) ys p q (h ∷ᴬ t) = (All_append p.0 h, Pairwise_append xs ys p.1 q t)

  pub Pairwise-filter : (t : A → Bool) (xs : List A) → Pairwise R xs → Pairwise R (filter t xs)
  Pairwise-filter t [] p = tt
  Pairwise-filter t (x ∷ xs) p = go (t x) (Pairwise-filter t xs p.1)
    where
      go : (b : Bool) → Pairwise R (filter t xs) → Pairwise R (cons_if b x (filter t xs))
      go true k = (All-filter t p.0, k)
      go false k = k

  -- by positions
  pub Pairwise_at : (d : A) (xs : List A) → Pairwise R xs → (i j : ℕ) → i < j → j < length xs → R (get_or xs i d) (get_or xs j d)
  Pairwise_at d [] p i j h k = absurd (omega arith)
  Pairwise_at d (x ∷ xs) p i zero h k = absurd (omega arith)
  Pairwise_at d (x ∷ xs) p zero (suc j) h k = All_at d xs p.0 j (omega arith)
  Pairwise_at d (x ∷ xs) p (suc i) (suc j) h k = Pairwise_at d xs p.1 i j (omega arith) (omega arith)

span-above : (x a n : ℕ) → x < a → Fresh x (span a n)
span-above x a zero h = []ᴬ
span-above x a (suc n) h = let ne : ¬ (x ≡ a) = omega arith in ne ∷ᴬ span-above x (suc a) n (omega arith)

pub span_distinct : (a n : ℕ) → Distinct (span a n)
span_distinct a zero = tt
span_distinct a (suc n) = (span-above a (suc a) n (omega arith), span_distinct (suc a) n)
