-- Laws of signed numbers: the tests of order, and the machine's division of 64-bit numbers, which rounds towards 0.
use mathlib.Core.Bool.{Bool, cond, false, false≢true, true, true≢false}
use mathlib.Core.Path.{◌∙◌, ◌≡◌, refl, sym}
use Prim.Native.Nat.{◌%◌, ◌*◌, ◌+◌, ◌-◌, ◌/◌, ◌<◌, ◌^◌, ◌≤◌, suc, zero, ℕ}
use native.Mathlib.Nat.{div-le_self, mod-le, zero-mul}
use native.Mathlib.Omega.{arith}
use lib.Dec.{eqb, ltb}
use lib.IntN.{◌*ℤ◌, ◌-ℤ◌, nat_abs, negsuc, neg_ℤ, pos, sub_ℕ, ℤ}
use lib.Signed.{le_z, lt_z, mag, quot_z, rem_z}
use mir.Syntax.{w64}
use mir.Val.{SFits, of_z}
use Rattle.lists.proofs.Tests.{eqb_no, leb_no, leb_yes, ltb_no, no_ge, yes_le, yes_lt}

-- `<` is the other test, the other way round
pub lt_nle : (v w : ℤ) → lt_z v w ≡ true → le_z w v ≡ false
lt_nle (pos a) (pos b) e = leb_no b a (yes_lt a b e)
lt_nle (pos a) (negsuc b) e = absurd (false≢true e)
lt_nle (negsuc a) (pos b) e = refl
lt_nle (negsuc a) (negsuc b) e = leb_no a b (yes_lt b a e)

pub nlt_le : (v w : ℤ) → lt_z v w ≡ false → le_z w v ≡ true
nlt_le (pos a) (pos b) e = leb_yes b a (no_ge a b e)
nlt_le (pos a) (negsuc b) e = refl
nlt_le (negsuc a) (pos b) e = absurd (true≢false e)
nlt_le (negsuc a) (negsuc b) e = leb_yes a b (no_ge b a e)

-- ---- differences
natural-sub : (a b : ℕ) → b ≤ a → sub_ℕ a b ≡ pos (nat_abs (sub_ℕ a b))
natural-sub a b h = rw (ltb_no a b h)

-- The difference from a number that is no larger is natural.
pub natural_apart : (v w : ℤ) → le_z w v ≡ true → v -ℤ w ≡ pos (nat_abs (v -ℤ w))
natural_apart (pos a) (pos zero) e = refl
natural_apart (pos a) (pos (suc b)) e = natural-sub a (suc b) (yes_le (suc b) a e)
natural_apart (pos a) (negsuc b) e = refl
natural_apart (negsuc a) (pos b) e = absurd (false≢true e)
natural_apart (negsuc a) (negsuc b) e = natural-sub (suc b) (suc a) (let h = yes_le a b e in omega arith)

sub_bound : (a b : ℕ) → nat_abs (sub_ℕ a b) ≤ a + b
sub_bound a b = go (ltb a b) refl
  where
    go : (t : Bool) → ltb a b ≡ t → nat_abs (cond t (negsuc (b - suc a)) (pos (a - b))) ≤ a + b
    go true e = let h = yes_lt a b e in omega arith
    go false e = omega arith

pub apart_bound : (v w : ℤ) → nat_abs (v -ℤ w) ≤ nat_abs v + nat_abs w
apart_bound (pos a) (pos zero) = omega arith
apart_bound (pos a) (pos (suc b)) = sub_bound a (suc b)
apart_bound (pos a) (negsuc b) = omega arith
apart_bound (negsuc a) (pos zero) = omega (arith, sub_bound 0 (suc a))
apart_bound (negsuc a) (pos (suc b)) = omega arith
apart_bound (negsuc a) (negsuc b) = omega (arith, sub_bound (suc b) (suc a))

-- ---- division
pub neg_mag : (m a : ℕ) → m ≤ suc a → mag (neg_ℤ (pos m)) ≤ a
neg_mag zero a h = omega arith
neg_mag (suc m) a h = omega arith

pub neg_abs : (m : ℕ) → nat_abs (neg_ℤ (pos m)) ≡ m
neg_abs zero = refl
neg_abs (suc m) = refl

pub neg_mul : (m k : ℕ) → neg_ℤ (pos m) *ℤ pos k ≡ neg_ℤ (pos (m * k))
neg_mul zero k = rw (zero-mul k)
neg_mul (suc m) k = refl

pub quot_fits : (v : ℤ) (k : ℕ) → SFits w64 v → SFits w64 (quot_z v (pos k))
quot_fits (pos a) k f = record { sfits = omega (arith, div-le_self a k) }
quot_fits (negsuc a) k f = record { sfits = omega (arith, neg_mag (suc a / k) a (div-le_self (suc a) k)) }

-- No remainder is left.
pub rem_none : (v d : ℤ) → SFits w64 v → eqb (of_z w64 (rem_z v d)) 0 ≡ eqb (nat_abs v % nat_abs d) 0
rem_none (pos a) d f = refl
rem_none (negsuc a) d f = neg_none (suc a % nat_abs d) a (mod-le (suc a) (nat_abs d)) f.sfits
  where
    neg_none : (m a : ℕ) → m ≤ suc a → a < 2 ^ 63 → eqb (of_z w64 (neg_ℤ (pos m))) 0 ≡ eqb m 0
    neg_none zero a h k = refl
    neg_none (suc m) a h k = eqb_no (2 ^ 64 - suc m) 0 (λ e. omega arith) ∙ sym (eqb_no (suc m) 0 (λ e. omega arith))
