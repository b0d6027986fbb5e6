-- Laws of pair_up.
use mathlib.Core.Bool.{Bool, ◌&&◌, false, true}
use mathlib.Core.List.{List, [], ◌++◌, ◌∷◌, map}
use mathlib.Core.Path.{◌∙◌, ◌≡◌, ap, ap₂, refl, sym}
use Prim.Native.Nat.{◌*◌, ◌+◌, ◌<◌, suc, zero, ℕ}
use native.Mathlib.Nat.{zero-mul}
use native.Mathlib.Omega.{arith}
use lib.ListN.{get_or, length, length-append, length-map}
use Rattle.lists.specs.Lists.{cons_if, count_if, filter, pair_up, suc_if}
use Rattle.lists.proofs.All.{All, All-mapped, All_of, []ᴬ, ◌∷ᴬ◌}
use Rattle.lists.proofs.Lists.{count_if_append, filter_append, filter_none, get_d_left, get_d_right, map_append}

module _ {A B C : Type 0} where
  -- a filter of the pairs that is a filter of each half
  module _ (f : A → B → C) (p : C → Bool) (p₁ : A → Bool) (p₂ : B → Bool) where
    keep_row : (b : Bool) (x : A) (ys : List B) (r : List A) → ((y : B) → p (f x y) ≡ (b && p₂ y))
        → filter p (map (f x) ys) ++ pair_up f r (filter p₂ ys) ≡ pair_up f (cons_if b x r) (filter p₂ ys)
    keep_row true x ys r h = ap (λ l. l ++ pair_up f r (filter p₂ ys)) (go ys)
      where
        go_cons_if : (b : Bool) (y : B) (l : List B) → cons_if b (f x y) (map (f x) l) ≡ map (f x) (cons_if b y l)
        go_cons_if true y l = refl
        go_cons_if false y l = refl

        go : (l : List B) → filter p (map (f x) l) ≡ map (f x) (filter p₂ l)
        go [] = refl
        go (y ∷ l) = rw (h y) (ap (cons_if (p₂ y) (f x y)) (go l) ∙ go_cons_if (p₂ y) y (filter p₂ l))
    keep_row false x ys r h = ap (λ l. l ++ pair_up f r (filter p₂ ys)) (filter_none p (All-mapped (f x) (All_of h ys)))

    pub filter-pair_up : {xs : List A} (ys : List B) → All (λ x. (y : B) → p (f x y) ≡ (p₁ x && p₂ y)) xs → filter p (pair_up f xs ys) ≡ pair_up f (filter p₁ xs) (filter p₂ ys)
    filter-pair_up ys []ᴬ = refl
    filter-pair_up ys (◌∷ᴬ◌ {x = x} {xs = xs} h t) =
        filter_append p (map (f x) ys) (pair_up f xs ys) ∙ ap (λ l. filter p (map (f x) ys) ++ l) (filter-pair_up ys t) ∙ keep_row (p₁ x) x ys (filter p₁ xs) h

module _ {A A' B B' C C' : Type 0} where
  pub map-pair_up : (g : C → C') (f : A → B → C) (h : A' → B' → C') (k : A → A') (l : B → B') {xs : List A} (ys : List B)
      → All (λ x. (y : B) → g (f x y) ≡ h (k x) (l y)) xs → map g (pair_up f xs ys) ≡ pair_up h (map k xs) (map l ys)
  map-pair_up g f h k l ys []ᴬ = refl
  map-pair_up g f h k l ys (◌∷ᴬ◌ {x = x} {xs = xs} q t) = map_append g (map (f x) ys) (pair_up f xs ys) ∙ ap₂ ◌++◌ (go ys) (map-pair_up g f h k l ys t)
    where
      go : (m : List B) → map g (map (f x) m) ≡ map (h (k x)) (map l m)
      go [] = refl
      go (y ∷ m) = ap₂ ◌∷◌ (q y) (go m)

get_d_mapped : {A B : Type 0} (g : A → B) (d : B) (db : A) (ys : List A) (j : ℕ) → j < length ys → get_or (map g ys) j d ≡ g (get_or ys j db)
get_d_mapped g d db [] j h = absurd (omega arith)
get_d_mapped g d db (y ∷ ys) zero h = refl
get_d_mapped g d db (y ∷ ys) (suc j) h = get_d_mapped g d db ys j (omega arith)

module _ {A B C : Type 0} (f : A → B → C) where
  pub length-pair_up : (xs : List A) (ys : List B) → length (pair_up f xs ys) ≡ length xs * length ys
  length-pair_up [] ys = sym (zero-mul (length ys))
  length-pair_up (x ∷ xs) ys = length-append (map (f x) ys) (pair_up f xs ys) ∙ ap₂ ◌+◌ (length-map ys (f x)) (length-pair_up xs ys) ∙ omega arith

  -- verdict i × k + j
  pub get_d_pair_up : (da : A) (db : B) (d : C) (xs : List A) (ys : List B) (i j : ℕ) → i < length xs → j < length ys
      → get_or (pair_up f xs ys) (i * length ys + j) d ≡ f (get_or xs i da) (get_or ys j db)
  get_d_pair_up da db d [] ys i j h k = absurd (omega arith)
  get_d_pair_up da db d (x ∷ xs) ys zero j h k = ap (λ (a : ℕ). get_or (map (f x) ys ++ pair_up f xs ys) a d) (omega arith)
      ∙ get_d_left (map (f x) ys) (pair_up f xs ys) d j (length-map ys (f x)) k ∙ get_d_mapped (f x) d db ys j k
  get_d_pair_up da db d (x ∷ xs) ys (suc i) j h k = ap (λ (a : ℕ). get_or (map (f x) ys ++ pair_up f xs ys) a d) split
      ∙ get_d_right (map (f x) ys) (pair_up f xs ys) d (i * length ys + j) (length-map ys (f x)) ∙ get_d_pair_up da db d xs ys i j (omega arith) k
    where
      split : suc i * length ys + j ≡ length ys + (i * length ys + j)
      split = omega arith

  module _ (p : C → Bool) (p₁ : A → Bool) (p₂ : B → Bool) (h : (x : A) (y : B) → p (f x y) ≡ (p₁ x && p₂ y)) where
    count_if-row : (b : Bool) (x : A) → p₁ x ≡ b → (ys : List B) → count_if p (map (f x) ys) ≡ suc_if b 0 * count_if p₂ ys
    count_if-row b x e [] = omega arith
    count_if-row b x e (y ∷ ys) = ap₂ suc_if (h x y ∙ ap (λ c. c && p₂ y) e) (count_if-row b x e ys) ∙ go b (p₂ y) (count_if p₂ ys)
      where
        go : (b z : Bool) (c : ℕ) → suc_if (b && z) (suc_if b 0 * c) ≡ suc_if b 0 * suc_if z c
        go true true c = omega arith
        go true false c = omega arith
        go false true c = omega arith
        go false false c = omega arith

    pub count_if-pair_up : (xs : List A) (ys : List B) → count_if p (pair_up f xs ys) ≡ count_if p₁ xs * count_if p₂ ys
    count_if-pair_up [] ys = sym (zero-mul (count_if p₂ ys))
    count_if-pair_up (x ∷ xs) ys = count_if_append p (map (f x) ys) (pair_up f xs ys) ∙ ap₂ ◌+◌ (count_if-row (p₁ x) x refl ys) (count_if-pair_up xs ys) ∙ go (p₁ x)
      where
        go : (b : Bool) → suc_if b 0 * count_if p₂ ys + count_if p₁ xs * count_if p₂ ys ≡ suc_if b (count_if p₁ xs) * count_if p₂ ys
        go true = omega arith
        go false = omega arith
