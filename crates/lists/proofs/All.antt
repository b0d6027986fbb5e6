-- Every element of a list has a property.
use mathlib.Core.Bool.{Bool, ◌||◌, false, false≢true, true}
use mathlib.Core.List.{List, [], ◌++◌, ◌∷◌, map}
use mathlib.Core.Path.{◌≡◌, refl}
use Prim.Native.Nat.{◌+◌, ◌<◌, suc, zero, ℕ}
use native.Mathlib.Nat.{add-suc, add-zero, suc-add, zero-add}
use native.Mathlib.Omega.{arith}
use lib.ListN.{get_or, length}
use Rattle.lists.specs.Lists.{all, any, concat_map, cons_if, filter, span, upto}
use Rattle.lists.proofs.Tests.{and-join, and_split, or_split}

infixr 5 ◌∷ᴬ◌
pub data All {A : Type 0} (P : A → Type 0) : List A → Type 0 where
  []ᴬ : All P []
  ◌∷ᴬ◌ : {x : A} {xs : List A} → P x → All P xs → All P (x ∷ xs)

module _ {A : Type 0} where
  pub All_append : {P : A → Type 0} {xs ys : List A} → All P xs → All P ys → All P (xs ++ ys)
  All_append []ᴬ k = k
  All_append (h ∷ᴬ t) k = h ∷ᴬ All_append t k

  pub All_imp : {P Q : A → Type 0} {xs : List A} → ((x : A) → P x → Q x) → All P xs → All Q xs
  All_imp f []ᴬ = []ᴬ
  All_imp f (◌∷ᴬ◌ {x = x} h t) = f x h ∷ᴬ All_imp f t

  pub All_of : {P : A → Type 0} → ((x : A) → P x) → (xs : List A) → All P xs
  All_of f [] = []ᴬ
  All_of f (x ∷ xs) = f x ∷ᴬ All_of f xs

  All-cons_if : {P : A → Type 0} (b : Bool) (x : A) {xs : List A} → P x → All P xs → All P (cons_if b x xs)
  All-cons_if true x h k = h ∷ᴬ k
  All-cons_if false x h k = k

  pub All-filter : {P : A → Type 0} (p : A → Bool) {xs : List A} → All P xs → All P (filter p xs)
  All-filter p []ᴬ = []ᴬ
  All-filter p (◌∷ᴬ◌ {x = x} h t) = All-cons_if (p x) x h (All-filter p t)

  pub All_zip : {P Q S : A → Type 0} {xs : List A} → ((x : A) → P x → Q x → S x) → All P xs → All Q xs → All S xs
  All_zip f []ᴬ []ᴬ = []ᴬ
  All_zip f (◌∷ᴬ◌ {x = x} h t) (k ∷ᴬ u) = f x h k ∷ᴬ All_zip f t u

  -- by positions
  pub All_at : {P : A → Type 0} (d : A) (xs : List A) → All P xs → (i : ℕ) → i < length xs → P (get_or xs i d)
  All_at d [] h i k = absurd (omega arith)
  All_at d (x ∷ xs) (h ∷ᴬ t) zero k = h
  All_at d (x ∷ xs) (h ∷ᴬ t) (suc i) k = All_at d xs t i (omega arith)

  pub any_none : (p : A → Bool) {xs : List A} → All (λ x. p x ≡ false) xs → any p xs ≡ false
  any_none p []ᴬ = refl
  any_none p (h ∷ᴬ t) = rw (h, any_none p t)

  pub none_any : (p : A → Bool) (xs : List A) → any p xs ≡ false → All (λ x. p x ≡ false) xs
  none_any p [] h = []ᴬ
  none_any p (x ∷ xs) h = let k = or_split (p x) (any p xs) h in k.0 ∷ᴬ none_any p xs k.1

  pub all-All : (p : A → Bool) (xs : List A) → all p xs ≡ true → All (λ x. p x ≡ true) xs
  all-All p [] e = []ᴬ
  all-All p (x ∷ xs) e = let k = and_split (p x) (all p xs) e in k.0 ∷ᴬ all-All p xs k.1

  pub All-all : (p : A → Bool) {xs : List A} → All (λ x. p x ≡ true) xs → all p xs ≡ true
  All-all p []ᴬ = refl
  All-all p (h ∷ᴬ t) = and-join h (All-all p t)

  -- what a filter keeps passes its test
  pub filter-all : (p : A → Bool) (xs : List A) → All (λ x. p x ≡ true) (filter p xs)
  filter-all p [] = []ᴬ
  filter-all p (x ∷ xs) = go (p x) refl (filter-all p xs)
    where
      go : (b : Bool) → p x ≡ b → All (λ y. p y ≡ true) (filter p xs) → All (λ y. p y ≡ true) (cons_if b x (filter p xs))
      go true e t = e ∷ᴬ t
      go false e t = t

  -- an element that passes, where there is one
  pub any_some : {Q : A → Type 0} (p : A → Bool) {xs : List A} → All Q xs → any p xs ≡ true → (x : A) × (p x ≡ true) × Q x
  any_some p []ᴬ e = absurd (false≢true e)
  any_some {Q} p (◌∷ᴬ◌ {x = x} {xs = xs} q t) e = go (p x) refl e (any_some p t)
    where
      go : (b : Bool) → p x ≡ b → (b || any p xs) ≡ true → (any p xs ≡ true → (y : A) × (p y ≡ true) × Q y) → (y : A) × (p y ≡ true) × Q y
      go true h e ih = (x, h, q)
      go false h e ih = ih e

module _ {A B : Type 0} where
  pub All-mapped : {P : B → Type 0} (f : A → B) {xs : List A} → All (λ x. P (f x)) xs → All P (map f xs)
  All-mapped f []ᴬ = []ᴬ
  All-mapped f (h ∷ᴬ t) = h ∷ᴬ All-mapped f t

  pub All-concat_map : {P : B → Type 0} {f : A → List B} {xs : List A} → All (λ x. All P (f x)) xs → All P (concat_map f xs)
  All-concat_map []ᴬ = []ᴬ
  All-concat_map (h ∷ᴬ t) = All_append h (All-concat_map t)

-- of the numbers below n
pub span_below : (a n : ℕ) → All (λ f. f < a + n) (span a n)
span_below a zero = []ᴬ
span_below a (suc n) = let h : a < a + suc n = omega arith in h ∷ᴬ All_imp (λ f (h : f < suc a + n). omega arith) (span_below (suc a) n)

pub upto-below : (n : ℕ) → All (λ f. f < n) (upto n)
upto-below n = rw zero-add at (span_below 0 n)

All-span : {P : ℕ → Type 0} (a n : ℕ) → All P (span a n) → (f : ℕ) → f < n → P (a + f)
All-span a zero h f k = absurd (omega arith)
All-span {P} a (suc n) (h ∷ᴬ t) zero k = rw (add-zero a) h
All-span {P} a (suc n) (h ∷ᴬ t) (suc f) k = rw (add-suc a f, ← suc-add a f) (All-span (suc a) n t f (omega arith))

pub All-upto : {P : ℕ → Type 0} (n : ℕ) → All P (upto n) → (f : ℕ) → f < n → P f
All-upto {P} n h f k = rw zero-add at (All-span 0 n h f k)

pub upto-All : {P : ℕ → Type 0} (n : ℕ) → ((f : ℕ) → f < n → P f) → All P (upto n)
upto-All n h = All_imp h (upto-below n)
