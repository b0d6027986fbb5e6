-- A list written from the front.
use mathlib.Core.List.{List, [], ◌++◌, ◌∷◌}
use mathlib.Core.Path.{◌∙◌, ◌≡◌, ap, ap₂, sym}
use Prim.Native.Nat.{◌+◌, ◌<◌, ◌≤◌, suc, ℕ}
use native.Mathlib.Numerals.{add-one}
use native.Mathlib.Omega.{arith}
use lib.ListN.{drop, get_or, length, length-append, length-drop, set, take}
use lib.Seq.{append_snoc, drop-cons, set-append_seam, take_all, take-suc, take-suc-set}
use Rattle.lists.specs.Lists.{over}

-- ---- until it is d
-- The first i are those of d; `other` is what lies outside.
module _ {A : Type 0} (other : A) (d l : List A) (i : ℕ) (e : length l ≡ length d) (t : take i l ≡ take i d) where
  pub fill_turn : (x : A) → i < length d → x ≡ get_or d i other → take (i + 1) (set l i x) ≡ take (i + 1) d
  fill_turn x h v = rw (add-one i) (take-suc-set l i x (omega arith) ∙ ap₂ (λ (a : List A) (b : A). a ++ (b ∷ [])) t v ∙ sym (take-suc d i other h))

  pub fill_end : length d ≤ i → l ≡ d
  fill_end h = sym (take_all i l (omega arith)) ∙ t ∙ take_all i d h

-- ---- with new ones over the first of old
module _ {A : Type 0} (new old : List A) where
  pub over-long : length new ≤ length old → length (over new old) ≡ length old
  over-long h = omega (arith, length-append new (drop (length new) old), length-drop (length new) old)

  pub over_more : (x : A) → length new < length old → set (over new old) (length new) x ≡ over (new ++ (x ∷ [])) old
  over_more x h =
      let one : suc (length new) ≡ length (new ++ (x ∷ [])) = omega (arith, length-append new (x ∷ [])) in
      ap (λ (l : List A). set (new ++ l) (length new) x) (drop-cons old (length new) x h)
      ∙ set-append_seam new (get_or old (length new) x) (drop (suc (length new)) old) x
      ∙ sym (append_snoc new x (drop (suc (length new)) old))
      ∙ ap (λ (n : ℕ). new ++ (x ∷ []) ++ drop n old) one
