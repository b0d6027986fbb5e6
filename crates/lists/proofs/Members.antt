-- Laws of membership.
use mathlib.Core.Bool.{Bool, ◌||◌, false, false≢true, true}
use mathlib.Core.List.Memᴰ
use mathlib.Core.List.{List, Memᴰ, [], ◌∷◌}
use mathlib.Core.Logic.{⊎_elim}
use mathlib.Core.Path.{◌∙◌, ◌≡◌, ap, refl, subst, sym}
use Prim.Native.Nat.{◌+◌, ◌<◌, suc, zero, ℕ}
use native.Mathlib.Nat.{add-suc, add-zero, suc-add, zero-add}
use native.Mathlib.Omega.{arith}
use lib.Dec.{eqb}
use Rattle.lists.specs.Lists.{any, concat_map, cons_if, elem, filter, span, upto}
use Rattle.lists.proofs.All.{All, []ᴬ, ◌∷ᴬ◌}
use Rattle.lists.proofs.Tests.{or_true, yes_eq}

module _ {A : Type 0} where
  pub All-mem : {P : A → Type 0} {x : A} {xs : List A} → All P xs → Memᴰ x xs → P x
  All-mem {P} (h ∷ᴬ t) (Memᴰ.head e) = subst P (sym e) h
  All-mem (h ∷ᴬ t) (Memᴰ.tail m) = All-mem t m
  All-mem []ᴬ x4 = elim x4 [ ]

  pub mem-any : (p : A → Bool) {x : A} {xs : List A} → Memᴰ x xs → p x ≡ true → any p xs ≡ true
  mem-any p (Memᴰ.head {x = y} {xs = xs} e) h = rw (ap p (sym e) ∙ h)
  mem-any p (Memᴰ.tail {x = y} {xs = xs} k) h = rw (mem-any p k h) (or_true (p y))

  pub mem-filter : (p : A → Bool) {x : A} {xs : List A} → Memᴰ x xs → p x ≡ true → Memᴰ x (filter p xs)
  mem-filter p {x} (Memᴰ.head {x = y} {xs = xs} e) h = rw (ap p (sym e) ∙ h) (Memᴰ.head e)
  mem-filter p {x} (Memᴰ.tail {x = y} {xs = xs} m) h = go (p y) (mem-filter p m h)
    where
      go : (b : Bool) → Memᴰ x (filter p xs) → Memᴰ x (cons_if b y (filter p xs))
      go true k = Memᴰ.tail k
      go false k = k

  pub filter-mem : (p : A → Bool) {x : A} (xs : List A) → Memᴰ x (filter p xs) → Memᴰ x xs
  filter-mem p [] m = absurd (Memᴰ.not-nil m)
  filter-mem p {x} (y ∷ xs) m = go (p y) m (filter-mem p xs)
    where
      go : (b : Bool) → Memᴰ x (cons_if b y (filter p xs)) → (Memᴰ x (filter p xs) → Memᴰ x xs) → Memᴰ x (y ∷ xs)
      go true k ih = ⊎_elim (λ e. Memᴰ.head e) (λ l. Memᴰ.tail (ih l)) (Memᴰ.cases_cons k)
      go false k ih = Memᴰ.tail (ih k)

pub mem-concat_map : {A B : Type 0} {a : A} {b : B} (f : A → List B) {xs : List A} → Memᴰ a xs → Memᴰ b (f a) → Memᴰ b (concat_map f xs)
mem-concat_map {b} f (Memᴰ.head {x = x} {xs = xs} e) k = Memᴰ.append_left (concat_map f xs) (subst (λ y. Memᴰ b (f y)) e k)
mem-concat_map f (Memᴰ.tail {x = x} h) k = Memᴰ.append_right (f x) (mem-concat_map f h k)

mem-span : (a n i : ℕ) → i < n → Memᴰ (a + i) (span a n)
mem-span a zero i h = absurd (omega arith)
mem-span a (suc n) zero h = Memᴰ.head (add-zero a)
mem-span a (suc n) (suc i) h = Memᴰ.tail (Memᴰ.cast (add-suc a i ∙ sym (suc-add a i)) (mem-span (suc a) n i (omega arith)))

pub mem-upto : (n i : ℕ) → i < n → Memᴰ i (upto n)
mem-upto n i h = Memᴰ.cast (sym (zero-add i)) (mem-span 0 n i h)

-- a number is an element where the test says so
pub elem_mem : (x : ℕ) (xs : List ℕ) → elem x xs ≡ true → Memᴰ x xs
elem_mem x [] e = absurd (false≢true e)
elem_mem x (y ∷ xs) e = go (eqb x y) refl e (elem_mem x xs)
  where
    go : (b : Bool) → eqb x y ≡ b → (b || elem x xs) ≡ true → (elem x xs ≡ true → Memᴰ x xs) → Memᴰ x (y ∷ xs)
    go true q h ih = Memᴰ.head (yes_eq x y q)
    go false q h ih = Memᴰ.tail (ih h)
