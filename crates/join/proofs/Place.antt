-- The place of a joined verdict.
use mathlib.Core.Bool.{Bool, ◌&&◌, cond, false, false≢true, true}
use mathlib.Core.List.{List, ◌++◌}
use mathlib.Core.Path.{◌∙◌, ◌≡◌, ap, refl, sym}
use Prim.Native.Nat.{◌+◌, ◌<◌, ◌≤◌, suc, zero, ℕ}
use native.Mathlib.Omega.{arith}
use lib.Dec.{eqb, eqb-suc-zero, leb, ltb}
use lib.ListN.{length, length-append}
use Rattle.lists.specs.Lists.{first_false}
use Rattle.lists.proofs.First.{first_false_append, first_false_le, or_shift, shift}
use Rattle.lists.proofs.Tests.{leb_no, leb_yes, no_ge, yes_le, yes_lt}
use Rattle.join.specs.Join.{among, join_place}

among_yes : {s n : ℕ} → 0 < s → s ≤ n → among s n ≡ true
among_yes {s} {n} h k = rw (leb_yes 1 s h, leb_yes s n k)

among-above : {s n : ℕ} → n < s → among s n ≡ false
among-above {s} {n} h = rw (leb_no s n h) (go (leb 1 s))
  where
    go : (b : Bool) → (b && false) ≡ false
    go true = refl
    go false = refl

among-shift : (n q : ℕ) → among (shift n q) n ≡ false
among-shift n zero = refl
among-shift n (suc k) = among-above {s = n + suc k} {n = n} (omega arith)

not_both : (s t : ℕ) → 0 < s + t → (eqb s 0 && eqb t 0) ≡ false
not_both zero zero h = absurd (omega arith)
not_both zero (suc t) h = eqb-suc-zero t
not_both (suc s) t h = rw (eqb-suc-zero s)

at_second_field : (n m c s t : ℕ) → 0 < t → t ≤ m → among s n ≡ false → join_place n m c s t ≡ t + n
unfolding join_place
at_second_field n m c s t h k e = rw (not_both s t (omega arith), e, among_yes h k)

at_first_constraint : (n m c s t : ℕ) → n < s → among t m ≡ false → join_place n m c s t ≡ s + m
unfolding join_place
at_first_constraint n m c s t h e = rw (not_both s t (omega arith), among-above h, e, leb_yes (suc n) s h)

at_second_constraint : (n m c t : ℕ) → m < t → join_place n m c 0 t ≡ t + n + c
unfolding join_place
at_second_constraint n m c t h = rw (not_both 0 t (omega arith), among-above h, leb_no (suc n) 0 (omega arith))

or_shift_pos : (p n q : ℕ) → 0 < p → or_shift p n q ≡ p
or_shift_pos zero n q h = absurd (omega arith)
or_shift_pos (suc p) n q h = refl

shift-pos : (n q : ℕ) → 0 < q → shift n q ≡ n + q
shift-pos n zero h = absurd (omega arith)
shift-pos n (suc q) h = refl

-- pa, pb, px, py: where the parts first fail
place_cases : (n m c pa pb px py : ℕ) → pa ≤ n → pb ≤ m
    → or_shift (or_shift pa n pb) (n + m) (or_shift px c py) ≡ join_place n m c (or_shift pa n px) (or_shift pb m py)
unfolding join_place
place_cases n m c zero zero zero zero h k = refl
place_cases n m c zero zero zero (suc l) h k = shift-pos (n + m) (c + suc l) (omega arith) ∙ omega arith ∙ sym (at_second_constraint n m c (m + suc l) (omega arith))
place_cases n m c zero zero (suc x) py h k = omega arith ∙ sym (at_first_constraint n m c (n + suc x) (shift m py) (omega arith) (among-shift m py))
place_cases n m c zero (suc j) px py h k = or_shift_pos (n + suc j) (n + m) (or_shift px c py) (omega arith) ∙ omega arith ∙ sym (at_second_field n m c (shift n px) (suc j) (omega arith) k (among-shift n px))
place_cases n m c (suc i) pb px py h k = rw (eqb-suc-zero i) (rw (among_yes {s = suc i} {n = n} (omega arith) h) refl)

pub place_join : (a b x y : List Bool)
    → first_false ((a ++ b) ++ (x ++ y)) ≡ join_place (length a) (length b) (length x) (first_false (a ++ x)) (first_false (b ++ y))
place_join a b x y = first_false_append (a ++ b) (x ++ y)
    ∙ rw (first_false_append a b, first_false_append x y, first_false_append a x, first_false_append b y, length-append a b)
    (place_cases (length a) (length b) (length x) (first_false a) (first_false b) (first_false x) (first_false y) (first_false_le a) (first_false_le b))

-- a joined verdict passes only if both do
pub join_place-pos : (n m c s t : ℕ) → 0 < s + t → 0 < join_place n m c s t
unfolding join_place
join_place-pos n m c s t h = rw (not_both s t h) (go (among s n) refl (among t m) refl (ltb n s) refl)
  where
    among-pos : (a b : ℕ) → among a b ≡ true → 0 < a
    among-pos zero b e = absurd (false≢true e)
    among-pos (suc a) b e = omega arith

    go : (x : Bool) → among s n ≡ x → (y : Bool) → among t m ≡ y → (z : Bool) → ltb n s ≡ z → 0 < cond x s (cond y (t + n) (cond z (s + m) (t + n + c)))
    go true e y e' z e'' = among-pos s n e
    go false e true e' z e'' = let k = among-pos t m e' in omega arith
    go false e false e' true e'' = let k = yes_lt n s e'' in omega arith
    go false e false e' false e'' = let k = no_ge n s e'' in omega arith

-- ---- the formula, case by case
abbrev pub Among : ℕ → ℕ → Type 0
Among s n = (1 ≤ s) × (s ≤ n)

-- The place p of a joined verdict, from the places s and t of its halves: n fields and c constraints in the first file, m fields in the second.
pub record PlaceFormula (n m c s t p : ℕ) : Type 0 where
  pub passed : s ≡ 0 → t ≡ 0 → p ≡ 0
  pub first_field : Among s n → p ≡ s
  pub second_field : ¬ Among s n → Among t m → p ≡ t + n
  pub first_constraint : n < s → ¬ Among t m → p ≡ s + m
  pub second_constraint : s ≡ 0 → m < t → p ≡ t + n + c

not-among : (s n : ℕ) → ¬ Among s n → among s n ≡ false
not-among s n h = go (leb 1 s) refl (leb s n) refl
  where
    go : (a : Bool) → leb 1 s ≡ a → (b : Bool) → leb s n ≡ b → (a && b) ≡ false
    go true e true e' = absurd (h (yes_le 1 s e, yes_le s n e'))
    go true e false e' = refl
    go false e b e' = refl

pub join_place_formula : (n m c s t : ℕ) → PlaceFormula n m c s t (join_place n m c s t)
join_place_formula n m c s t = record {
  passed = λ a b. unfold join_place in rw (a, b);
  first_field = λ a. unfold join_place in rw (not_both s t (let h = a.0 in omega arith), among_yes a.0 a.1);
  second_field = λ a b. at_second_field n m c s t b.0 b.1 (not-among s n a);
  first_constraint = λ a b. at_first_constraint n m c s t a (not-among t m b);
  second_constraint = λ a b. ap (λ (s : ℕ). join_place n m c s t) a ∙ at_second_constraint n m c t b;
}
