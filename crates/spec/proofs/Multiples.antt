-- The code's arithmetic on steps and ranges.
use mathlib.Core.Bool.{Bool, false, true, true≢false}
use mathlib.Core.Path.{◌≡◌, refl}
use Prim.Native.Nat.{◌*◌, ◌+◌, ◌-◌, ◌/◌, ◌<◌, ◌^◌, ◌≤◌, suc, zero, ℕ}
use native.Mathlib.Nat.{div-le_self, div-mul-le_self}
use native.Mathlib.Numerals.{add-one}
use native.Mathlib.Omega.{arith}
use lib.Dec.{T, ltb}
use lib.IntN.{◌-ℤ◌, nat_abs, negsuc, pos, ℤ}
use lib.Signed.{le_z, lt_z, non_neg, quot_z}
use mir.Syntax.{w64}
use mir.Val.{Fits, SFits, of_z, sel, to_z}
use mir.ValLaws.{to_z-of_z, to_z_pos}
use Rattle.std.specs.Int.{int_max}
use Rattle.lists.proofs.Signed.{apart_bound, lt_nle, natural_apart, neg_abs, nlt_le}
use Rattle.lists.proofs.Tests.{ltb_yes, yes_le}
use Rattle.spec.specs.Code.{InScale}
use Rattle.spec.specs.Domain.{first_multiple, how_many, step_of}
use Rattle.spec.specs.Refusal.{negative, on_scale}

-- A signed local holds bits: what is read back.
abbrev pub held : ℤ → ℤ
held z = to_z w64 (of_z w64 z)

-- ---- how many multiples there are
-- How many steps there are from the first to q.
abbrev pub strides : ℕ → ℤ → ℤ → ℤ
strides step first q = quot_z (held (held q -ℤ held first)) (pos step)

-- What the code does where the first multiple is within the range.
pub record Counted (step : ℕ) (first q : ℤ) : Type 0 where
  pub cast : T (non_neg (held (strides step first q))) × Fits w64 (nat_abs (held (strides step first q)))
  pub is : nat_abs (held (strides step first q)) + 1 ≡ how_many step first q

pub counted : (step : ℕ) (first q : ℤ) → SFits w64 first → SFits w64 q → 0 < step → step ≤ 2 ^ 56 → nat_abs first ≤ 2 ^ 57 → nat_abs q ≤ 2 ^ 56 → le_z first q ≡ true → Counted step first q
counted step first q ff fq s t a b e =
    let d = nat_abs (q -ℤ first) in
    let small : d ≤ 2 ^ 58 = omega (arith, apart_bound q first) in
    let apart-is : held q -ℤ held first ≡ pos d = rw (to_z-of_z w64 q fq, to_z-of_z w64 first ff) (natural_apart q first e) in
    let less = div-le_self d step in
    let strides-is : strides step first q ≡ pos (d / step) = rw apart-is (rw (to_z_pos w64 d (omega arith))) in
    let strides-held : held (strides step first q) ≡ pos (d / step) = rw strides-is (to_z_pos w64 (d / step) (omega arith)) in
    record {
      cast = rw strides-held (tt, record { fits = omega arith });
      is = rw (strides-held, e) (add-one (d / step));
    }

-- There are none where the first is above the range.
pub count_none : (step : ℕ) (first q : ℤ) → lt_z q first ≡ true → 0 ≡ how_many step first q
count_none step first q e = rw (lt_nle q first e)

-- ---- bounds
pub scale_bound : (v : ℤ) → on_scale v ≡ true → nat_abs v ≤ 2 ^ 56
scale_bound (pos a) e = yes_le a (2 ^ 56) e
scale_bound (negsuc a) e = yes_le (suc a) (2 ^ 56) e

pub first_bound : (step : ℕ) (p : ℤ) → step ≤ 2 ^ 56 → nat_abs p ≤ 2 ^ 56 → nat_abs (first_multiple step p) ≤ 2 ^ 57
first_bound step (pos a) s h = omega (arith, div-mul-le_self (a + (step - 1)) step)
first_bound step (negsuc a) s h = omega (arith, neg_abs (suc a / step * step), div-mul-le_self (suc a) step)

-- ---- the step of a record, as the code takes it
pub step_max : (r : ℤ) → negative r ≡ false → int_max r (pos 1) ≡ pos (step_of (nat_abs r))
step_max (pos zero) n = refl
step_max (pos (suc zero)) n = refl
step_max (pos (suc (suc k))) n = rw (ltb_yes 1 (suc (suc k)) (omega arith))
step_max (negsuc k) n = absurd (true≢false n)

pub step_positive : (n : ℕ) → 0 < step_of n
step_positive zero = omega arith
step_positive (suc n) = omega arith

pub step_small : (n : ℕ) → n ≤ 2 ^ 56 → step_of n ≤ 2 ^ 56
step_small zero h = omega arith
step_small (suc n) h = h

-- The same for a record on the scale, whose first multiple is within the range.
pub counted_in : (p q r first : ℤ) → InScale p q r → SFits w64 first → SFits w64 q → first ≡ first_multiple (step_of (nat_abs r)) p → lt_z q first ≡ false → Counted (step_of (nat_abs r)) first q
counted_in p q r first h ff fq is e =
    let small = step_small (nat_abs r) (scale_bound r h.r_in) in
    counted (step_of (nat_abs r)) first q ff fq (step_positive (nat_abs r)) small (rw is (first_bound (step_of (nat_abs r)) p small (scale_bound p h.p_in))) (scale_bound q h.q_in) (nlt_le q first e)

-- ---- bits
-- what bits are that are read as a number not below 0
pub bits_are : (n s : ℕ) → to_z w64 n ≡ pos s → n ≡ s
bits_are n s e = go (ltb n (2 ^ 63)) e
  where
    go : (b : Bool) → sel b (pos n) (negsuc (2 ^ 64 - suc n)) ≡ pos s → n ≡ s
    go true h = cc
    go false h = cc

pub bits_of : (n : ℕ) (r : ℤ) → negative r ≡ false → to_z w64 n ≡ r → n ≡ of_z w64 r
bits_of n (pos m) natural e = bits_are n m e
bits_of n (negsuc m) natural e = absurd (true≢false natural)
