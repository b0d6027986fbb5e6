-- Values on the scale: their sums and differences stay within 64 bits.
use mathlib.Core.Bool.{false, true, true≢false}
use mathlib.Core.List.{List}
use mathlib.Core.Path.{◌∙◌, ◌≡◌, ap, sym}
use Prim.Native.Nat.{◌*◌, ◌+◌, ◌<◌, ◌^◌, ◌≤◌, suc, zero, ℕ}
use native.Mathlib.Numerals.{add-one}
use native.Mathlib.Omega.{arith}
use lib.Dec.{T}
use lib.IntN.{+ℤ_assoc, ◌+ℤ◌, nat_abs, negsuc, pos, ℤ}
use lib.ListN.{drop, get_or, length}
use lib.Seq.{drop-cons}
use lib.Signed.{non_neg}
use mir.Syntax.{w64}
use mir.Val.{Fits, SFits}
use mir.ValLaws.{to_z-of_z}
use Rattle.lists.proofs.All.{All, All_at}
use Rattle.spec.proofs.Multiples.{held, scale_bound}
use Rattle.spec.specs.Refusal.{on_scale}
use Rattle.lists.specs.Integers.{sum_z}
use Rattle.lists.proofs.Signed.{apart_bound}
use Rattle.spec.specs.Refusal.{negative}

pub small_fits : (v : ℤ) → nat_abs v < 2 ^ 63 → SFits w64 v
small_fits (pos n) h = record { sfits = omega arith }
small_fits (negsuc n) h = record { sfits = omega arith }

pub natural_fits : (v : ℤ) → negative v ≡ false → SFits w64 v → T (non_neg v) × Fits w64 (nat_abs v)
natural_fits (pos n) e f = (tt, omega arith)
natural_fits (negsuc n) e f = absurd (true≢false e)

-- ---- the sum
pub sum_bound : (v w : ℤ) → nat_abs (v +ℤ w) ≤ nat_abs v + nat_abs w
sum_bound v (pos zero) = apart_bound v (pos zero)
sum_bound v (pos (suc n)) = apart_bound v (negsuc n)
sum_bound v (negsuc n) = apart_bound v (pos (suc n))

module _ (row : List ℤ) where
  -- What is left to add, from field f on.
  abbrev pub sum_from : ℕ → ℤ
  sum_from f = sum_z (drop f row)

  pub sum_more : (total : ℤ) (f : ℕ) → f < length row → total +ℤ get_or row f (pos 0) +ℤ sum_from (f + 1) ≡ total +ℤ sum_from f
  sum_more total f h = rw (add-one f) (+ℤ_assoc total (get_or row f (pos 0)) (sum_from (suc f)) ∙ ap (λ l. total +ℤ sum_z l) (sym (drop-cons row f (pos 0) h)))

-- ---- a turn of the sum: the value of field i added to those before it
module _ (row : List ℤ) (few : length row ≤ 32) (scaled : All (λ v. on_scale v ≡ true) row) (i : ℕ) (inside : i < length row) where
  value_bound : nat_abs (get_or row i (pos 0)) ≤ 2 ^ 56
  value_bound = scale_bound (get_or row i (pos 0)) (All_at (pos 0) row scaled i inside)

  pub value_held : held (get_or row i (pos 0)) ≡ get_or row i (pos 0)
  value_held = to_z-of_z w64 (get_or row i (pos 0)) (small_fits (get_or row i (pos 0)) (omega (arith, value_bound)))

  module _ (total : ℤ) (bound : nat_abs total ≤ i * 2 ^ 56) where
    pub added_bound : nat_abs (total +ℤ held (get_or row i (pos 0))) ≤ (i + 1) * 2 ^ 56
    added_bound = rw value_held (omega (arith, sum_bound total (get_or row i (pos 0)), value_bound, bound))

    pub added_fits : SFits w64 (total +ℤ held (get_or row i (pos 0)))
    added_fits = small_fits (total +ℤ held (get_or row i (pos 0))) (omega (arith, added_bound, few))
