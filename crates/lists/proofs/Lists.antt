-- Laws of filter, any, all, count_if, concat_map and map_from, and of lists cut at a seam.
use mathlib.Core.Bool.{Bool, ◌&&◌, ◌||◌, and_assoc, and-false, false, not, true, true≢false}
use mathlib.Core.List.{List, [], ◌++◌, ◌∷◌, append_assoc, map}
use mathlib.Core.Path.{◌∙◌, ◌≡◌, ap, ap₂, refl, sym}
use Prim.Native.Nat.{◌+◌, ◌<◌, ◌≤◌, suc, zero, ℕ}
use native.Mathlib.Nat.{add-suc, add-zero, le_refl, suc-add, zero-add}
use native.Mathlib.Omega.{arith}
use lib.ListN.{get_or-append, get_or, length, replicate, set}
use lib.Seq.{get_or-append-add, set-append_left}
use Rattle.lists.specs.Lists.{all, any, concat_map, cons_if, count_if, filter, is_empty, map_from, suc_if}
use Rattle.lists.proofs.All.{All, []ᴬ, ◌∷ᴬ◌}
use Rattle.lists.proofs.Tests.{or_assoc}

suc_if_append : (b : Bool) (m n : ℕ) → suc_if b (m + n) ≡ suc_if b m + n
suc_if_append true m n = sym (suc-add m n)
suc_if_append false m n = refl

module _ {A : Type 0} where
  cons_if_append : (b : Bool) (x : A) (xs ys : List A) → cons_if b x (xs ++ ys) ≡ cons_if b x xs ++ ys
  cons_if_append true x xs ys = refl
  cons_if_append false x xs ys = refl

  pub filter_append : (p : A → Bool) (xs ys : List A) → filter p (xs ++ ys) ≡ filter p xs ++ filter p ys
  filter_append p [] ys = refl
  filter_append p (x ∷ xs) ys = ap (cons_if (p x) x) (filter_append p xs ys) ∙ cons_if_append (p x) x (filter p xs) (filter p ys)

  pub filter_none : (p : A → Bool) {xs : List A} → All (λ x. p x ≡ false) xs → filter p xs ≡ []
  filter_none p []ᴬ = refl
  filter_none p (h ∷ᴬ t) = rw h (filter_none p t)

  pub all_append : (p : A → Bool) (xs ys : List A) → all p (xs ++ ys) ≡ (all p xs && all p ys)
  all_append p [] ys = refl
  all_append p (x ∷ xs) ys = ap (λ b. p x && b) (all_append p xs ys) ∙ sym (and_assoc (p x) (all p xs) (all p ys))

  pub any_append : (p : A → Bool) (xs ys : List A) → any p (xs ++ ys) ≡ (any p xs || any p ys)
  any_append p [] ys = refl
  any_append p (x ∷ xs) ys = ap (λ b. p x || b) (any_append p xs ys) ∙ or_assoc (p x) (any p xs) (any p ys)

  pub all_ext : {p q : A → Bool} {xs : List A} → All (λ x. p x ≡ q x) xs → all p xs ≡ all q xs
  all_ext []ᴬ = refl
  all_ext (h ∷ᴬ t) = ap₂ ◌&&◌ h (all_ext t)

  pub any_ext : {p q : A → Bool} {xs : List A} → All (λ x. p x ≡ q x) xs → any p xs ≡ any q xs
  any_ext []ᴬ = refl
  any_ext (h ∷ᴬ t) = ap₂ ◌||◌ h (any_ext t)

  pub count_if_append : (p : A → Bool) (xs ys : List A) → count_if p (xs ++ ys) ≡ count_if p xs + count_if p ys
  count_if_append p [] ys = sym (zero-add _)
  count_if_append p (x ∷ xs) ys = ap (suc_if (p x)) (count_if_append p xs ys) ∙ suc_if_append (p x) (count_if p xs) (count_if p ys)

  -- a list cut at a seam whose place is known by an equation
  pub get_d_left : (xs ys : List A) (d : A) {n : ℕ} (f : ℕ) → length xs ≡ n → f < n → get_or (xs ++ ys) f d ≡ get_or xs f d
  get_d_left xs ys d f e h = get_or-append xs ys d f (rw e h)

  pub get_d_right : (xs ys : List A) (d : A) {n : ℕ} (f : ℕ) → length xs ≡ n → get_or (xs ++ ys) (n + f) d ≡ get_or ys f d
  get_d_right xs ys d f e = rw (← e) (get_or-append-add xs ys f d)

  pub set-left : (xs ys : List A) (a : A) {n : ℕ} (f : ℕ) → length xs ≡ n → f < n → set (xs ++ ys) f a ≡ set xs f a ++ ys
  set-left xs ys a f e h = set-append_left xs ys f a (rw e h)

  set_add : (xs ys : List A) (f : ℕ) (a : A) → set (xs ++ ys) (length xs + f) a ≡ xs ++ set ys f a
  set_add [] ys f a = rw zero-add
  set_add (x ∷ xs) ys f a = rw (suc-add (length xs) f) (ap (λ l. x ∷ l) (set_add xs ys f a))

  pub set_right : (xs ys : List A) (a : A) {n : ℕ} (f : ℕ) → length xs ≡ n → set (xs ++ ys) (n + f) a ≡ xs ++ set ys f a
  set_right xs ys a f e = rw (← e) (set_add xs ys f a)

  pub replicate_add : (n m : ℕ) (a : A) → replicate (n + m) a ≡ replicate n a ++ replicate m a
  replicate_add zero m a = rw zero-add
  replicate_add (suc n) m a = rw suc-add (ap (λ l. a ∷ l) (replicate_add n m a))

  pub filter_le : (p : A → Bool) (xs : List A) → length (filter p xs) ≤ length xs
  filter_le p [] = le_refl _
  filter_le p (x ∷ xs) = go (p x) (filter_le p xs)
    where
      go : (b : Bool) → length (filter p xs) ≤ length xs → length (cons_if b x (filter p xs)) ≤ suc (length xs)
      go true h = omega arith
      go false h = omega arith

  pub count_if_le : (p : A → Bool) (xs : List A) → count_if p xs ≤ length xs
  count_if_le p [] = le_refl _
  count_if_le p (x ∷ xs) = go (p x) (count_if_le p xs)
    where
      go : (b : Bool) → count_if p xs ≤ length xs → suc_if b (count_if p xs) ≤ suc (length xs)
      go true h = omega arith
      go false h = omega arith

  -- of two tests that no element passes both
  pub count_if_or : (p q : A → Bool) → ((x : A) → p x ≡ true → q x ≡ false) → (xs : List A) → count_if (λ x. p x || q x) xs ≡ count_if p xs + count_if q xs
  count_if_or p q h [] = refl
  count_if_or p q h (x ∷ xs) = go (p x) (q x) (h x) (count_if_or p q h xs)
    where
      go : (a b : Bool) → (a ≡ true → b ≡ false) → count_if (λ y. p y || q y) xs ≡ count_if p xs + count_if q xs → suc_if (a || b) (count_if (λ y. p y || q y) xs) ≡ suc_if a (count_if p xs) + suc_if b (count_if q xs)
      go true true h e = absurd (true≢false (h refl))
      go true false h e = omega arith
      go false true h e = omega arith
      go false false h e = e

  pub length-pos : (xs : List A) → is_empty xs ≡ false → 0 < length xs
  length-pos [] e = absurd (true≢false e)
  length-pos (x ∷ xs) e = omega arith

  pub filter_ext : (p q : A → Bool) → ((x : A) → p x ≡ q x) → (xs : List A) → filter p xs ≡ filter q xs
  filter_ext p q h [] = refl
  filter_ext p q h (x ∷ xs) = ap₂ (λ (b : Bool) l. cons_if b x l) (h x) (filter_ext p q h xs)

  -- a list parted by a test
  pub all_parted : (p q : A → Bool) (xs : List A) → all p xs ≡ (all p (filter (λ x. not (q x)) xs) && all p (filter q xs))
  all_parted p q [] = refl
  all_parted p q (x ∷ xs) = ap (λ b. p x && b) (all_parted p q xs) ∙ go (q x)
    where
      swap : (a b c : Bool) → (a && (b && c)) ≡ (b && (a && c))
      swap true b c = refl
      swap false b c = sym (and-false b)

      no : List A
      no = filter (λ y. not (q y)) xs

      go : (t : Bool) → (p x && (all p no && all p (filter q xs))) ≡ (all p (cons_if (not t) x no) && all p (cons_if t x (filter q xs)))
      go true = swap (p x) (all p no) (all p (filter q xs))
      go false = sym (and_assoc (p x) (all p no) (all p (filter q xs)))

  pub filter_every : (p : A → Bool) {xs : List A} → All (λ x. p x ≡ true) xs → filter p xs ≡ xs
  filter_every p []ᴬ = refl
  filter_every p (◌∷ᴬ◌ {x = x} h t) = rw h (ap (λ l. x ∷ l) (filter_every p t))

module _ {A B : Type 0} where
  pub map_append : (f : A → B) (xs ys : List A) → map f (xs ++ ys) ≡ map f xs ++ map f ys
  map_append f [] ys = refl
  map_append f (x ∷ xs) ys = ap (λ l. f x ∷ l) (map_append f xs ys)

  pub map_ext : {f g : A → B} {xs : List A} → All (λ x. f x ≡ g x) xs → map f xs ≡ map g xs
  map_ext []ᴬ = refl
  map_ext (h ∷ᴬ t) = ap₂ ◌∷◌ h (map_ext t)

  pub concat_map_ext : {f g : A → List B} {xs : List A} → All (λ x. f x ≡ g x) xs → concat_map f xs ≡ concat_map g xs
  concat_map_ext []ᴬ = refl
  concat_map_ext (h ∷ᴬ t) = ap₂ ◌++◌ h (concat_map_ext t)

  pub concat_map_append : (f : A → List B) (xs ys : List A) → concat_map f (xs ++ ys) ≡ concat_map f xs ++ concat_map f ys
  concat_map_append f [] ys = refl
  concat_map_append f (x ∷ xs) ys = ap (λ l. f x ++ l) (concat_map_append f xs ys) ∙ sym (append_assoc (f x) (concat_map f xs) (concat_map f ys))

  pub map_from_append : (f : ℕ → A → B) (a : ℕ) (xs ys : List A) → map_from f a (xs ++ ys) ≡ map_from f a xs ++ map_from f (a + length xs) ys
  map_from_append f a [] ys = rw add-zero
  map_from_append f a (x ∷ xs) ys = ap (λ l. f a x ∷ l) (map_from_append f (suc a) xs ys ∙ rw (suc-add, add-suc))

  pub length-map_from : (f : ℕ → A → B) (a : ℕ) (xs : List A) → length (map_from f a xs) ≡ length xs
  length-map_from f a [] = refl
  length-map_from f a (x ∷ xs) = ap suc (length-map_from f (suc a) xs)

  pub any-map : (p : B → Bool) (f : A → B) (xs : List A) → any p (map f xs) ≡ any (λ x. p (f x)) xs
  any-map p f [] = refl
  any-map p f (x ∷ xs) = ap (λ b. p (f x) || b) (any-map p f xs)

  pub all_map : (p : B → Bool) (f : A → B) (xs : List A) → all p (map f xs) ≡ all (λ x. p (f x)) xs
  all_map p f [] = refl
  all_map p f (x ∷ xs) = ap (λ b. p (f x) && b) (all_map p f xs)

  -- elements that give nothing may be left out
  pub concat_map-filter : (f : A → List B) (p : A → Bool) → ((x : A) → p x ≡ false → f x ≡ []) → (xs : List A) → concat_map f (filter p xs) ≡ concat_map f xs
  concat_map-filter f p h [] = refl
  concat_map-filter f p h (x ∷ xs) = go (p x) refl (concat_map-filter f p h xs)
    where
      go : (b : Bool) → p x ≡ b → concat_map f (filter p xs) ≡ concat_map f xs → concat_map f (cons_if b x (filter p xs)) ≡ f x ++ concat_map f xs
      go true e ih = ap (λ l. f x ++ l) ih
      go false e ih = ih ∙ ap (λ l. l ++ concat_map f xs) (sym (h x e))

  pub concat_map_nil : (f : A → List B) {xs : List A} → All (λ x. f x ≡ []) xs → concat_map f xs ≡ []
  concat_map_nil f []ᴬ = refl
  concat_map_nil f (◌∷ᴬ◌ h t) = ap₂ ◌++◌ h (concat_map_nil f t)

  pub filter_map : (p : B → Bool) (f : A → B) (xs : List A) → filter p (map f xs) ≡ map f (filter (λ x. p (f x)) xs)
  filter_map p f [] = refl
  filter_map p f (x ∷ xs) = ap (cons_if (p (f x)) (f x)) (filter_map p f xs) ∙ go (p (f x))
    where
      go : (b : Bool) → cons_if b (f x) (map f (filter (λ y. p (f y)) xs)) ≡ map f (cons_if b x (filter (λ y. p (f y)) xs))
      go true = refl
      go false = refl

module _ {A B C : Type 0} where
  pub map-concat_map : (g : B → C) (f : A → List B) (xs : List A) → map g (concat_map f xs) ≡ concat_map (λ x. map g (f x)) xs
  map-concat_map g f [] = refl
  map-concat_map g f (x ∷ xs) = map_append g (f x) (concat_map f xs) ∙ ap (λ l. map g (f x) ++ l) (map-concat_map g f xs)

  pub concat_map-concat_map : (f : A → List B) (g : B → List C) (xs : List A) → concat_map g (concat_map f xs) ≡ concat_map (λ x. concat_map g (f x)) xs
  concat_map-concat_map f g [] = refl
  concat_map-concat_map f g (x ∷ xs) = concat_map_append g (f x) (concat_map f xs) ∙ ap (λ l. concat_map g (f x) ++ l) (concat_map-concat_map f g xs)

  pub map-map : (f : B → C) (g : A → B) (xs : List A) → map f (map g xs) ≡ map (λ x. f (g x)) xs
  map-map f g [] = refl
  map-map f g (x ∷ xs) = ap (λ l. f (g x) ∷ l) (map-map f g xs)
