-- Functions on lists that the kit lacks. A test is a Bool, and a choice by a test is a helper that takes the Bool: a proof then goes by its cases.
use Rattle.std.specs.Prelude.{Bool, true, false, ◌&&◌, ◌||◌, List, [], ◌∷◌, ◌++◌, map, ℕ, zero, suc, ◌+◌, ◌*◌, eqb, drop, length}

module _ {A : Type 0} where
  -- x in front of xs, where the test is true
  abbrev pub cons_if : Bool → A → List A → List A
  cons_if true x xs = x ∷ xs
  cons_if false x xs = xs

  abbrev pub filter : (A → Bool) → List A → List A
  filter p [] = []
  filter p (x ∷ xs) = cons_if (p x) x (filter p xs)

  abbrev pub all : (A → Bool) → List A → Bool
  all p [] = true
  all p (x ∷ xs) = p x && all p xs

  abbrev pub any : (A → Bool) → List A → Bool
  any p [] = false
  any p (x ∷ xs) = p x || any p xs

  abbrev pub is_empty : List A → Bool
  is_empty [] = true
  is_empty (x ∷ xs) = false

  -- A list as it stands after its first elements were replaced by new ones.
  abbrev pub over : List A → List A → List A
  over new old = new ++ drop (length new) old

  -- ys, unless it is empty
  abbrev pub or_else : List A → List A → List A
  or_else [] xs = xs
  or_else (y ∷ ys) xs = y ∷ ys

abbrev pub suc_if : Bool → ℕ → ℕ
suc_if true n = suc n
suc_if false n = n

-- how many pass the test
abbrev pub count_if : {A : Type 0} → (A → Bool) → List A → ℕ
count_if p [] = zero
count_if p (x ∷ xs) = suc_if (p x) (count_if p xs)

module _ {A B : Type 0} where
  abbrev pub concat_map : (A → List B) → List A → List B
  concat_map f [] = []
  concat_map f (x ∷ xs) = f x ++ concat_map f xs

  -- each element with its number, counted from a
  abbrev pub map_from : (ℕ → A → B) → ℕ → List A → List B
  map_from f a [] = []
  map_from f a (x ∷ xs) = f a x ∷ map_from f (suc a) xs

-- for each of xs in order, each of ys in order
abbrev pub pair_up : {A B C : Type 0} → (A → B → C) → List A → List B → List C
pair_up f xs ys = concat_map (λ x. map (f x) ys) xs

-- n numbers from a on
abbrev pub span : ℕ → ℕ → List ℕ
span a zero = []
span a (suc n) = a ∷ span (suc a) n

-- 0, 1, .. n − 1
abbrev pub upto : ℕ → List ℕ
upto n = span 0 n

abbrev pub elem : ℕ → List ℕ → Bool
elem x xs = any (eqb x) xs

abbrev pub eq_list : List ℕ → List ℕ → Bool
eq_list [] [] = true
eq_list [] (y ∷ ys) = false
eq_list (x ∷ xs) [] = false
eq_list (x ∷ xs) (y ∷ ys) = eqb x y && eq_list xs ys

abbrev pub sum_n : List ℕ → ℕ
sum_n [] = 0
sum_n (x ∷ xs) = x + sum_n xs

abbrev pub product : List ℕ → ℕ
product [] = 1
product (x ∷ xs) = x * product xs

abbrev pub further : ℕ → ℕ
further zero = zero
further (suc k) = suc (suc k)

abbrev pub place_at : Bool → ℕ → ℕ
place_at true k = further k
place_at false k = 1

-- 0 where every test is true, else the number of the first that is false, counted from 1
abbrev pub first_false : List Bool → ℕ
first_false [] = zero
first_false (b ∷ bs) = place_at b (first_false bs)
