-- Valid axes of a decompose (document 01, `validate`), and the bits of a word that they hold.
use mathlib.Core.Bool.{Bool, ◌&&◌, ◌||◌, false, not, true, true≢false}
use mathlib.Core.List.{List, [], ◌∷◌}
use mathlib.Core.Option.{Option, none, some}
use mathlib.Core.Path.{◌∙◌, ◌≡◌, ap, ap₂, refl, subst, sym}
use Prim.Native.Nat.{◌*◌, ◌+◌, ◌-◌, ◌<◌, ◌^◌, ◌≤◌, max, min, suc, zero, ℕ}
use native.Mathlib.Nat.{le_trans}
use native.Mathlib.Omega.{arith}
use lib.Bits.{bit_or, or_lt}
use lib.Dec.{eqb, leb, ltb}
use lib.Pow.{pow_mono, shl_lt}
use Rattle.lists.specs.Lists.{all, any, count_if, span, suc_if, upto}
use Rattle.lists.proofs.All.{All_imp, all-All, any_none}
use Rattle.lists.proofs.Bits.{bit, bit_below, bit_high, bit_or_lem, bit_shifted, bit_zero, or_sum}
use Rattle.lists.proofs.Lists.{count_if_le, count_if_or}
use Rattle.lists.proofs.Numbers.{length-span}
use Rattle.lists.proofs.Tests.{and-false, and_split, leb_no, ltb_no, no_ge, no_gt, yes_le, yes_lt}
use Rattle.spec.specs.Spec.{Axis, AxisSpec}

abbrev pub width_of : AxisSpec → ℕ
width_of (Axis width shift radix) = width

abbrev pub shift_of : AxisSpec → ℕ
shift_of (Axis width shift radix) = shift

abbrev pub radix_of : AxisSpec → ℕ
radix_of (Axis width shift radix) = radix

-- The bit after its last.
abbrev pub end_of : AxisSpec → ℕ
end_of a = shift_of a + width_of a

-- Absent, or 2 or more with radix − 1 < 2^width.
abbrev pub radix_valid : ℕ → ℕ → Bool
radix_valid width zero = true
radix_valid width (suc r) = not (eqb r 0) && ltb r (2 ^ width)

abbrev pub axis_valid : AxisSpec → Bool
axis_valid a = ltb 0 (width_of a) && leb (end_of a) 63 && radix_valid (width_of a) (radix_of a)

abbrev pub apart : AxisSpec → AxisSpec → Bool
apart a b = leb (end_of a) (shift_of b) || leb (end_of b) (shift_of a)

-- Each axis is valid, and no two overlap. That there is one is asked too, but no law needs it.
abbrev pub axes_valid : List AxisSpec → Bool
axes_valid [] = true
axes_valid (a ∷ axes) = axis_valid a && all (apart a) axes && axes_valid axes

abbrev pub ends_by : ℕ → AxisSpec → Bool
ends_by k a = leb (end_of a) k

-- Absent, or at most 63 and not below the end of an axis.
abbrev pub offset_valid : Option ℕ → List AxisSpec → Bool
offset_valid none axes = true
offset_valid (some k) axes = leb k 63 && all (ends_by k) axes

-- What is known of the first of valid axes.
pub record FirstValid (a : AxisSpec) (axes : List AxisSpec) : Type 0 where
  pub ends : end_of a ≤ 63
  pub radix_fits : radix_of a ≤ 2 ^ width_of a
  pub others : all (apart a) axes ≡ true
  pub rest : axes_valid axes ≡ true

radix_valid_fits : (width radix : ℕ) → radix_valid width radix ≡ true → radix ≤ 2 ^ width
radix_valid_fits width zero e = omega arith
radix_valid_fits width (suc r) e = yes_lt r (2 ^ width) (and_split (not (eqb r 0)) (ltb r (2 ^ width)) e).1

pub first_valid : (a : AxisSpec) (axes : List AxisSpec) → axes_valid (a ∷ axes) ≡ true → FirstValid a axes
first_valid a axes e =
    let whole = and_split (axis_valid a && all (apart a) axes) (axes_valid axes) e in
    let front = and_split (axis_valid a) (all (apart a) axes) whole.0 in
    let own = and_split (ltb 0 (width_of a) && leb (end_of a) 63) (radix_valid (width_of a) (radix_of a)) front.0 in
    record {
      ends = yes_le (end_of a) 63 (and_split (ltb 0 (width_of a)) (leb (end_of a) 63) own.0).1;
      radix_fits = radix_valid_fits (width_of a) (radix_of a) own.1;
      others = front.1;
      rest = whole.1;
    }

-- ---- bits
-- Whether bit i is one of the axis.
abbrev pub covers : AxisSpec → ℕ → Bool
covers a i = leb (shift_of a) i && ltb i (end_of a)

abbrev pub covered : List AxisSpec → ℕ → Bool
covered axes i = any (λ a. covers a i) axes

covers_above : (a : AxisSpec) (i : ℕ) → end_of a ≤ i → covers a i ≡ false
covers_above a i h = rw (ltb_no i (end_of a) h) (and-false (leb (shift_of a) i))

apart_covers : (a b : AxisSpec) (i : ℕ) → apart a b ≡ true → covers a i ≡ true → covers b i ≡ false
apart_covers a b i e c =
    let inside = and_split (leb (shift_of a) i) (ltb i (end_of a)) c in
    go (leb (end_of a) (shift_of b)) refl e (yes_le (shift_of a) i inside.0) (yes_lt i (end_of a) inside.1)
  where
    go : (t : Bool) → leb (end_of a) (shift_of b) ≡ t → (t || leb (end_of b) (shift_of a)) ≡ true → shift_of a ≤ i → i < end_of a → covers b i ≡ false
    go true p e lo hi = let q = yes_le (end_of a) (shift_of b) p in rw (leb_no (shift_of b) i (omega arith))
    go false p e lo hi = let q = yes_le (end_of b) (shift_of a) e in covers_above b i (omega arith)

apart_covered : (a : AxisSpec) (axes : List AxisSpec) (i : ℕ) → all (apart a) axes ≡ true → covers a i ≡ true → covered axes i ≡ false
apart_covered a axes i e c = any_none (λ b. covers b i) (All_imp (λ b (h : apart a b ≡ true). apart_covers a b i h c) (all-All (apart a) axes e))

ends_by_covered : (k : ℕ) (axes : List AxisSpec) (i : ℕ) → all (ends_by k) axes ≡ true → k ≤ i → covered axes i ≡ false
ends_by_covered k axes i e h = any_none (λ a. covers a i) (All_imp (λ a (u : ends_by k a ≡ true). covers_above a i (le_trans (yes_le (end_of a) k u) h)) (all-All (ends_by k) axes e))

-- A digit below 2^width has no bit outside its axis.
digit_outside : (a : AxisSpec) (digit i : ℕ) → digit < 2 ^ width_of a → covers a i ≡ false → bit (digit * 2 ^ shift_of a) i ≡ 0
digit_outside a digit i small e = go (leb (shift_of a) i) refl e
  where
    go : (b : Bool) → leb (shift_of a) i ≡ b → (b && ltb i (end_of a)) ≡ false → bit (digit * 2 ^ shift_of a) i ≡ 0
    go false p e = bit_below digit (shift_of a) i (no_gt (shift_of a) i p)
    go true p e =
        let lo = yes_le (shift_of a) i p in
        let hi = no_ge i (end_of a) e in
        let parted : i ≡ shift_of a + (i - shift_of a) = omega arith in
        ap (bit (digit * 2 ^ shift_of a)) parted ∙ bit_shifted digit (shift_of a) (i - shift_of a) ∙ bit_high digit (width_of a) (i - shift_of a) small (omega arith)

-- A digit put by OR into a word below 2^63 leaves it there.
pub or_below : (a : AxisSpec) (word digit : ℕ) → end_of a ≤ 63 → digit < 2 ^ width_of a → word < 2 ^ 63 → bit_or word (digit * 2 ^ shift_of a) < 2 ^ 63
or_below a word digit ends small h =
    let whole : width_of a + shift_of a ≤ 63 = omega arith in
    or_lt 63 word (digit * 2 ^ shift_of a) h (le_trans (shl_lt (width_of a) (shift_of a) small) (pow_mono whole))

-- Every bit of the axes is 0 in the word.
abbrev pub ClearOf : List AxisSpec → ℕ → Type 0
ClearOf axes word = (i : ℕ) → covered axes i ≡ true → bit word i ≡ 0

pub zero_clear : (axes : List AxisSpec) → ClearOf axes 0
zero_clear axes i c = bit_zero i

-- What stands at or above the axes' ends is clear of them.
pub above-clear : (k : ℕ) (axes : List AxisSpec) (v : ℕ) → all (ends_by k) axes ≡ true → ClearOf axes (v * 2 ^ k)
above-clear k axes v e i c = go (ltb i k) refl
  where
    go : (b : Bool) → ltb i k ≡ b → bit (v * 2 ^ k) i ≡ 0
    go true p = bit_below v k i (yes_lt i k p)
    go false p = absurd (true≢false (sym c ∙ ends_by_covered k axes i e (no_ge i k p)))

-- A word that is clear of the axes left, and the digit of the first of them.
module _ (a : AxisSpec) (axes : List AxisSpec) (word digit : ℕ) (clear : ClearOf (a ∷ axes) word) (small : digit < 2 ^ width_of a) where
  -- They share no bit, so that their OR is their sum.
  pub digit_or : bit_or word (digit * 2 ^ shift_of a) ≡ word + digit * 2 ^ shift_of a
  digit_or = or_sum word (digit * 2 ^ shift_of a) (λ i. go i (covers a i) refl)
    where
      go : (i : ℕ) (b : Bool) → covers a i ≡ b → min (bit word i) (bit (digit * 2 ^ shift_of a) i) ≡ 0
      go i true p = let z = clear i (ap (λ b. b || covered axes i) p) in omega arith
      go i false p = let z = digit_outside a digit i small p in omega arith

  -- The sum is clear of the axes left then.
  pub digit_added : all (apart a) axes ≡ true → ClearOf axes (word + digit * 2 ^ shift_of a)
  digit_added others i c = ap (λ (x : ℕ). bit x i) (sym digit_or) ∙ bit_or_lem word (digit * 2 ^ shift_of a) i ∙ go (covers a i) refl
    where
      go : (b : Bool) → covers a i ≡ b → max (bit word i) (bit (digit * 2 ^ shift_of a) i) ≡ 0
      go true p = absurd (true≢false (sym c ∙ apart_covered a axes i others p))
      go false p =
          let own = digit_outside a digit i small p in
          let other = clear i (ap₂ ◌||◌ p c) in
          omega arith

  -- The sum stays below 2^63.
  pub digit_below : end_of a ≤ 63 → word < 2 ^ 63 → word + digit * 2 ^ shift_of a < 2 ^ 63
  digit_below ends h = subst (λ (x : ℕ). x < 2 ^ 63) digit_or (or_below a word digit ends small h)

-- ---- widths
abbrev pub widths : List AxisSpec → ℕ
widths [] = 0
widths (a ∷ axes) = width_of a + widths axes

-- How many of the n bits from `start` on are of the axis.
covers_count : (a : AxisSpec) (start n : ℕ) → count_if (covers a) (span start n) ≡ min (end_of a) (start + n) - max (shift_of a) start
covers_count a start zero = omega arith
covers_count a start (suc n) = go (leb (shift_of a) start) refl (ltb start (end_of a)) refl (covers_count a (suc start) n)
  where
    go : (b : Bool) → leb (shift_of a) start ≡ b → (c : Bool) → ltb start (end_of a) ≡ c
        → {m : ℕ} → m ≡ min (end_of a) (suc start + n) - max (shift_of a) (suc start) → suc_if (b && c) m ≡ min (end_of a) (start + suc n) - max (shift_of a) start
    go true p true q e = let lo = yes_le (shift_of a) start p in let hi = yes_lt start (end_of a) q in omega arith
    go true p false q e = let hi = no_ge start (end_of a) q in omega arith
    go false p c q e = let lo = no_gt (shift_of a) start p in omega arith

covered_count : (axes : List AxisSpec) → axes_valid axes ≡ true → count_if (covered axes) (upto 63) ≡ widths axes
covered_count [] e = refl
covered_count (a ∷ axes) e =
    let p = first_valid a axes e in
    let own : count_if (covers a) (upto 63) ≡ width_of a = covers_count a 0 63 ∙ omega (arith, p.ends) in
    count_if_or (covers a) (covered axes) (λ i. apart_covered a axes i p.others) (upto 63) ∙ ap₂ ◌+◌ own (covered_count axes p.rest)

-- The widths together are at most 63: no bit is of two axes.
pub widths_le : (axes : List AxisSpec) → axes_valid axes ≡ true → widths axes ≤ 63
widths_le axes e = omega (arith, count_if_le (covered axes) (upto 63), length-span 0 63, covered_count axes e)
