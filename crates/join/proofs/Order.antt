-- The field order of a joined specification: the first's, then the second's.
use mathlib.Core.Bool.{Bool, ◌||◌, false, not, true}
use mathlib.Core.List.{List, [], ◌++◌, ◌∷◌, map}
use mathlib.Core.Option
use mathlib.Core.Option.{Option, none, some}
use mathlib.Core.Path.{◌∙◌, ◌≡◌, ap, ap₂, refl}
use Prim.Native.Nat.{◌+◌, ◌<◌, suc, zero, ℕ}
use native.Mathlib.Nat.{suc-add, zero-add}
use native.Mathlib.Omega.{arith}
use lib.Dec.{eqb}
use lib.ListN.{length}
use Rattle.lists.specs.Lists.{elem}
use Rattle.lists.proofs.All.{All, All_imp, All_of, []ᴬ, ◌∷ᴬ◌}
use Rattle.lists.proofs.Lists.{any_append}
use Rattle.lists.proofs.Numbers.{eqb_add, eqb_apart}
use Rattle.lists.proofs.Tests.{eqb_yes, or_false}
use Rattle.compose.specs.Maps.{Choice, climb, first_ready, is_placed, pass_over, place_fields, place_next, stuck, take_if, took, up}
use Rattle.compose.proofs.Order.{Found, Taken, first_ready_taken, unstuck}
use Rattle.compose.proofs.Parents.{ParentBelow}

-- ---- picking from two parts
abbrev extend : List ℕ → Choice → Choice
extend ys stuck = stuck
extend ys (took g gs) = took g (gs ++ ys)

abbrev or_choice : Choice → Choice → Choice
or_choice stuck q = q
or_choice (took g gs) q = took g gs

abbrev behinds : List ℕ → Choice → Choice
behinds [] q = q
behinds (x ∷ xs) q = pass_over x (behinds xs q)

first_ready_append : (r : ℕ → Bool) (xs ys : List ℕ) → first_ready r (xs ++ ys) ≡ or_choice (extend ys (first_ready r xs)) (behinds xs (first_ready r ys))
first_ready_append r [] ys = refl
first_ready_append r (x ∷ xs) ys = ap (take_if (r x) x (xs ++ ys)) (first_ready_append r xs ys) ∙ go (r x) (first_ready r xs) (behinds xs (first_ready r ys))
  where
    go : (b : Bool) (p q : Choice) → take_if b x (xs ++ ys) (or_choice (extend ys p) q) ≡ or_choice (extend ys (take_if b x xs p)) (pass_over x q)
    go true p q = refl
    go false stuck q = refl
    go false (took g gs) q = refl

first_ready_ext : {r r' : ℕ → Bool} {xs : List ℕ} → All (λ x. r x ≡ r' x) xs → first_ready r xs ≡ first_ready r' xs
first_ready_ext []ᴬ = refl
first_ready_ext (◌∷ᴬ◌ {x = x} {xs = xs} h t) = ap₂ (λ (b : Bool) (p : Choice). take_if b x xs p) h (first_ready_ext t)

abbrev move_choice : ℕ → Choice → Choice
move_choice n stuck = stuck
move_choice n (took g gs) = took (n + g) (map (λ f. n + f) gs)

first_ready-map : (r : ℕ → Bool) (n : ℕ) (xs : List ℕ) → first_ready r (map (λ f. n + f) xs) ≡ move_choice n (first_ready (λ f. r (n + f)) xs)
first_ready-map r n [] = refl
first_ready-map r n (x ∷ xs) = ap (take_if (r (n + x)) (n + x) (map (λ f. n + f) xs)) (first_ready-map r n xs) ∙ go (r (n + x)) (first_ready (λ f. r (n + f)) xs)
  where
    go : (b : Bool) (p : Choice) → take_if b (n + x) (map (λ f. n + f) xs) (move_choice n p) ≡ move_choice n (take_if b x xs p)
    go true p = refl
    go false stuck = refl
    go false (took g gs) = refl

module _ (n : ℕ) (par₁ par₂ par : ℕ → Option ℕ)
    (same₁ : (f : ℕ) → f < n → par f ≡ par₁ f) (same₂ : (f : ℕ) → par (n + f) ≡ Option.map (λ p. n + p) (par₂ f))
    (inside : (f : ℕ) → f < n → ParentBelow n (par₁ f)) where
  has_moved : (p : ℕ) → p < n → (ys : List ℕ) → elem p (map (λ f. n + f) ys) ≡ false
  has_moved p h [] = refl
  has_moved p h (y ∷ ys) = rw (eqb_apart n p y h) (has_moved p h ys)

  has_move : (p : ℕ) (ys : List ℕ) → elem (n + p) (map (λ f. n + f) ys) ≡ elem p ys
  has_move p [] = refl
  has_move p (y ∷ ys) = ap₂ ◌||◌ (eqb_add n p y) (has_move p ys)

  placed₁ : (xs ys : List ℕ) (f : ℕ) → f < n → is_placed (xs ++ map (λ g. n + g) ys) (par f) ≡ is_placed xs (par₁ f)
  placed₁ xs ys f h = rw (same₁ f h) (go (par₁ f) (inside f h))
    where
      go : (o : Option ℕ) → ParentBelow n o → is_placed (xs ++ map (λ g. n + g) ys) o ≡ is_placed xs o
      go none k = refl
      go (some p) k = ap not (any_append (eqb p) xs (map (λ g. n + g) ys) ∙ ap (λ b. elem p xs || b) (has_moved p k ys) ∙ or_false (elem p xs))

  placed₂ : (ys : List ℕ) (f : ℕ) → is_placed (map (λ g. n + g) ys) (par (n + f)) ≡ is_placed ys (par₂ f)
  placed₂ ys f = rw (same₂ f) (go (par₂ f))
    where
      go : (o : Option ℕ) → is_placed (map (λ g. n + g) ys) (Option.map (λ p. n + p) o) ≡ is_placed ys o
      go none = refl
      go (some p) = ap not (has_move p ys)

  place₂ : (m : ℕ) (rest : List ℕ) → place_fields par m (map (λ f. n + f) rest) ≡ map (λ f. n + f) (place_fields par₂ m rest)
  place₂ zero rest = refl
  place₂ (suc m) rest =
      ap (λ (p : Choice). place_next p (λ fs. place_fields par m fs)) (first_ready-map (λ f. is_placed (map (λ g. n + g) rest) (par f)) n rest ∙ ap (move_choice n) (first_ready_ext (All_of (placed₂ rest) rest)))
      ∙ go (first_ready (λ f. is_placed rest (par₂ f)) rest) (place₂ m)
    where
      go : (p : Choice) → ((fs : List ℕ) → place_fields par m (map (λ f. n + f) fs) ≡ map (λ f. n + f) (place_fields par₂ m fs))
          → place_next (move_choice n p) (λ fs. place_fields par m fs) ≡ map (λ f. n + f) (place_next p (λ fs. place_fields par₂ m fs))
      go stuck ih = refl
      go (took g gs) ih = ap (λ l. (n + g) ∷ l) (ih gs)

  first_ready-join : (ys : List ℕ) {xs : List ℕ} → All (λ f. f < n) xs → Found (first_ready (λ f. is_placed xs (par₁ f)) xs)
      → first_ready (λ f. is_placed (xs ++ map (λ g. n + g) ys) (par f)) (xs ++ map (λ g. n + g) ys) ≡ extend (map (λ g. n + g) ys) (first_ready (λ f. is_placed xs (par₁ f)) xs)
  first_ready-join ys {xs} h k =
      let r : ℕ → Bool = λ f. is_placed (xs ++ map (λ g. n + g) ys) (par f) in
      let ys' = map (λ g. n + g) ys in
      first_ready_append r xs ys' ∙ ap (λ (p : Choice). or_choice (extend ys' p) (behinds xs (first_ready r ys'))) (first_ready_ext (All_imp (placed₁ xs ys) h))
      ∙ go (first_ready (λ f. is_placed xs (par₁ f)) xs) (behinds xs (first_ready r ys')) k
    where
      go : (p q : Choice) → Found p → or_choice (extend (map (λ g. n + g) ys) p) q ≡ extend (map (λ g. n + g) ys) p
      go stuck q k = absurd k
      go (took g gs) q k = refl

  module _ (ends : (f : ℕ) → f < n → climb par₁ n (some f) ≡ none) where
    pub place_fields-join : (m₁ m₂ : ℕ) (rest₂ : List ℕ) {rest₁ : List ℕ} → All (λ f. f < n) rest₁ → length rest₁ ≡ m₁
        → place_fields par (m₁ + m₂) (rest₁ ++ map (λ f. n + f) rest₂) ≡ place_fields par₁ m₁ rest₁ ++ map (λ f. n + f) (place_fields par₂ m₂ rest₂)
    place_fields-join zero m₂ rest₂ []ᴬ e = rw (zero-add m₂) (place₂ m₂ rest₂)
    place_fields-join zero m₂ rest₂ (h ∷ᴬ t) e = absurd (omega arith)
    place_fields-join (suc m₁) m₂ rest₂ []ᴬ e = absurd (omega arith)
    place_fields-join (suc m₁) m₂ rest₂ (◌∷ᴬ◌ {x = f} {xs = fs} h t) e =
        let r : ℕ → Bool = λ g. is_placed (f ∷ fs) (par₁ g) in
        let k = unstuck par₁ (f ∷ fs) n f (ends f h) (true_or f fs) in
        rw (suc-add m₁ m₂)
        (ap (λ (p : Choice). place_next p (λ gs. place_fields par (m₁ + m₂) gs)) (first_ready-join rest₂ (h ∷ᴬ t) k)
        ∙ go (first_ready r (f ∷ fs)) k (first_ready_taken r (h ∷ᴬ t)) (λ gs hs q. place_fields-join m₁ m₂ rest₂ {rest₁ = gs} hs q))
      where
        true_or : (f : ℕ) (fs : List ℕ) → elem f (f ∷ fs) ≡ true
        true_or f fs = rw (eqb_yes f f refl)

        go : (p : Choice) → Found p → Taken (λ g. g < n) (suc (length fs)) p
            → ((gs : List ℕ) → All (λ g. g < n) gs → length gs ≡ m₁
            → place_fields par (m₁ + m₂) (gs ++ map (λ g. n + g) rest₂) ≡ place_fields par₁ m₁ gs ++ map (λ g. n + g) (place_fields par₂ m₂ rest₂))
            → place_next (extend (map (λ g. n + g) rest₂) p) (λ gs. place_fields par (m₁ + m₂) gs)
            ≡ place_next p (λ gs. place_fields par₁ m₁ gs) ++ map (λ g. n + g) (place_fields par₂ m₂ rest₂)
        go stuck k q ih = absurd k
        go (took g gs) k q ih = ap (λ l. g ∷ l) (ih gs q.1 (omega arith))

  -- ---- climbing
  up₂ : (o : Option ℕ) → up par (Option.map (λ p. n + p) o) ≡ Option.map (λ p. n + p) (up par₂ o)
  up₂ none = refl
  up₂ (some f) = same₂ f

  pub climb₂ : (k : ℕ) (o : Option ℕ) → climb par k (Option.map (λ p. n + p) o) ≡ Option.map (λ p. n + p) (climb par₂ k o)
  climb₂ zero o = refl
  climb₂ (suc k) o = ap (climb par k) (up₂ o) ∙ climb₂ k (up par₂ o)

  up₁ : (o : Option ℕ) → ParentBelow n o → up par o ≡ up par₁ o
  up₁ none h = refl
  up₁ (some f) h = same₁ f h

  up_in : (o : Option ℕ) → ParentBelow n o → ParentBelow n (up par₁ o)
  up_in none h = tt
  up_in (some f) h = inside f h

  pub climb₁ : (k : ℕ) (o : Option ℕ) → ParentBelow n o → climb par k o ≡ climb par₁ k o
  climb₁ zero o h = refl
  climb₁ (suc k) o h = ap (climb par k) (up₁ o h) ∙ climb₁ k (up par₁ o) (up_in o h)
