-- Laws of decompose: `digits` as a loop, `packed` as the Rust computes it, and what stays within 2^63.
use mathlib.Core.Bool.{Bool, cond, false, true}
use mathlib.Core.List.{List, [], ◌∷◌}
use mathlib.Core.Option.{Option, none, some}
use mathlib.Core.Path.{◌∙◌, ◌≡◌, ap, refl, subst, sym}
use Prim.Native.Nat.{◌%◌, ◌*◌, ◌+◌, ◌-◌, ◌/◌, ◌<◌, ◌^◌, ◌≤◌, suc, zero, ℕ}
use native.Mathlib.Nat.{add_assoc, add-zero, div-div-eq-div-mul, div-one, le-add_right, le_of_eq, le_refl, le_trans, lt_of_mul-lt-mul_right, mod-lt, mul_assoc, mul-le-mul, mul-one, one-mul, zero-add}
use native.Mathlib.Omega.{arith}
use lib.Bits.{bit_or}
use lib.Dec.{leb, ltb}
use lib.IntN.{negsuc, pos, ℤ}
use lib.Pow.{pow-add, pow_mono, pow_pos, shl_lt}
use Rattle.lists.specs.Lists.{all}
use Rattle.lists.proofs.All.{All, All_imp, []ᴬ, ◌∷ᴬ◌}
use Rattle.lists.proofs.Tests.{and_split, bool_ext, ltb_no, ltb_yes, no_ge, yes_lt}
use Rattle.spec.specs.Spec.{Axis, AxisSpec}
use Rattle.registry.specs.Project.{at_offset, digits, fitting, packed, plus}
use Rattle.registry.proofs.Axes.{ClearOf, FirstValid, above-clear, axes_valid, digit_added, digit_or, ends_by, first_valid, offset_valid, or_below, widths, widths_le, zero_clear}

-- ---- `digits` as a loop
-- The digits added to a word, the first axis first.
abbrev pub digits_from : ℕ → List AxisSpec → ℕ → Option ℕ
digits_from word [] v = some word
digits_from word (Axis width shift zero ∷ axes) v = cond (ltb v (2 ^ width)) (digits_from (word + v * 2 ^ shift) axes v) none
digits_from word (Axis width shift (suc r) ∷ axes) v = digits_from (word + v % suc r * 2 ^ shift) axes (v / suc r)

plus-plus : (a b : ℕ) (o : Option ℕ) → plus a (plus b o) ≡ plus (a + b) o
plus-plus a b none = refl
plus-plus a b (some m) = ap some (sym (add_assoc a b m))

plus-zero : (o : Option ℕ) → plus 0 o ≡ o
plus-zero none = refl
plus-zero (some word) = ap some (zero-add word)

pub plus-digits : (word : ℕ) (axes : List AxisSpec) (v : ℕ) → plus word (digits axes v) ≡ digits_from word axes v
plus-digits word [] v = ap some (add-zero word)
plus-digits word (Axis width shift zero ∷ axes) v = go (ltb v (2 ^ width)) (plus-digits (word + v * 2 ^ shift) axes v)
  where
    go : (b : Bool) → plus (word + v * 2 ^ shift) (digits axes v) ≡ digits_from (word + v * 2 ^ shift) axes v
        → plus word (cond b (plus (v * 2 ^ shift) (digits axes v)) none) ≡ cond b (digits_from (word + v * 2 ^ shift) axes v) none
    go true ih = plus-plus word (v * 2 ^ shift) (digits axes v) ∙ ih
    go false ih = refl
plus-digits word (Axis width shift (suc r) ∷ axes) v = plus-plus word (v % suc r * 2 ^ shift) (digits axes (v / suc r)) ∙ plus-digits (word + v % suc r * 2 ^ shift) axes (v / suc r)

-- Added up from 0 on they are `digits`. What one turn keeps: `digit_added` and `digit_below` (Axes).
pub digits_from_lem : (axes : List AxisSpec) (v : ℕ) → digits axes v ≡ digits_from 0 axes v
digits_from_lem axes v = sym (plus-zero (digits axes v)) ∙ plus-digits 0 axes v

-- ---- the Rust's loop
-- The digit that an axis takes of a quotient, and the divisor after the axis.
abbrev pub digit_by : ℕ → ℕ → ℕ
digit_by zero q = q
digit_by (suc r) q = q % suc r

abbrev pub divisor_by : ℕ → ℕ → ℕ
divisor_by zero divisor = divisor
divisor_by (suc r) divisor = divisor * suc r

-- The loop of `DecomposeEval`: every digit is tested against 2^width and put into the word by OR.
abbrev pub digits_or : ℕ → ℕ → List AxisSpec → ℕ → Option ℕ
digits_or word divisor [] v = some word
digits_or word divisor (Axis width shift radix ∷ axes) v =
    cond (ltb (digit_by radix (v / divisor)) (2 ^ width)) (digits_or (bit_or word (digit_by radix (v / divisor) * 2 ^ shift)) (divisor_by radix divisor) axes v) none

abbrev pub packed_or : Option ℕ → List AxisSpec → ℤ → Option ℤ
packed_or offset axes (pos v) = fitting (digits_or (at_offset offset v) 1 axes v)
packed_or offset axes (negsuc v) = none

digits_from_or : (axes : List AxisSpec) (word divisor v : ℕ) → axes_valid axes ≡ true → ClearOf axes word → digits_from word axes (v / divisor) ≡ digits_or word divisor axes v
digits_from_or [] word divisor v valid clear = refl
digits_from_or (Axis width shift zero ∷ axes) word divisor v valid clear = go (ltb quotient (2 ^ width)) refl (λ w. digits_from_or axes w divisor v first.rest)
  where
    quotient : ℕ
    quotient = v / divisor

    first : FirstValid (Axis width shift zero) axes
    first = first_valid (Axis width shift zero) axes valid

    go : (b : Bool) → ltb quotient (2 ^ width) ≡ b → ((w : ℕ) → ClearOf axes w → digits_from w axes quotient ≡ digits_or w divisor axes v)
        → cond b (digits_from (word + quotient * 2 ^ shift) axes quotient) none ≡ cond b (digits_or (bit_or word (quotient * 2 ^ shift)) divisor axes v) none
    go true t rest =
        let small = yes_lt quotient (2 ^ width) t in
        rest (word + quotient * 2 ^ shift) (digit_added (Axis width shift zero) axes word quotient clear small first.others)
        ∙ ap (λ (w : ℕ). digits_or w divisor axes v) (sym (digit_or (Axis width shift zero) axes word quotient clear small))
    go false t rest = refl
digits_from_or (Axis width shift (suc r) ∷ axes) word divisor v valid clear =
    let first = first_valid (Axis width shift (suc r)) axes valid in
    let digit = v / divisor % suc r in
    let small : digit < 2 ^ width = le_trans (mod-lt (v / divisor) {m = suc r} (omega arith)) first.radix_fits in
    ap (digits_from (word + digit * 2 ^ shift) axes) (div-div-eq-div-mul v divisor (suc r))
    ∙ digits_from_or axes (word + digit * 2 ^ shift) (divisor * suc r) v first.rest (digit_added (Axis width shift (suc r)) axes word digit clear small first.others)
    ∙ ap (λ (w : ℕ). digits_or w (divisor * suc r) axes v) (sym (digit_or (Axis width shift (suc r)) axes word digit clear small))
    ∙ ap (λ (b : Bool). cond b (digits_or (bit_or word (digit * 2 ^ shift)) (divisor * suc r) axes v) none) (sym (ltb_yes digit (2 ^ width) small))

plus_or : (axes : List AxisSpec) (word v : ℕ) → axes_valid axes ≡ true → ClearOf axes word → plus word (digits axes v) ≡ digits_or word 1 axes v
plus_or axes word v valid clear = plus-digits word axes v ∙ ap (digits_from word axes) (sym (div-one v)) ∙ digits_from_or axes word 1 v valid clear

-- With valid axes no two digits share a bit: their sum is their OR.
pub digits_or_lem : (axes : List AxisSpec) (v : ℕ) → axes_valid axes ≡ true → digits axes v ≡ digits_or 0 1 axes v
digits_or_lem axes v valid = sym (plus-zero (digits axes v)) ∙ plus_or axes 0 v valid (zero_clear axes)

offset_clear : (offset : Option ℕ) (axes : List AxisSpec) (v : ℕ) → offset_valid offset axes ≡ true → ClearOf axes (at_offset offset v)
offset_clear none axes v higher = zero_clear axes
offset_clear (some k) axes v higher = above-clear k axes v (and_split (leb k 63) (all (ends_by k) axes) higher).1

-- With valid axes and offset `packed` is what the Rust computes.
pub packed_or_lem : (offset : Option ℕ) (axes : List AxisSpec) (v : ℤ) → axes_valid axes ≡ true → offset_valid offset axes ≡ true
    → packed offset axes v ≡ packed_or offset axes v
packed_or_lem offset axes (negsuc v) valid higher = refl
packed_or_lem offset axes (pos v) valid higher = ap fitting (plus_or axes (at_offset offset v) v valid (offset_clear offset axes v higher))

-- ---- divisors
-- The divisor before each axis, and the one after the last.
abbrev pub divisors : ℕ → List AxisSpec → List ℕ
divisors divisor [] = divisor ∷ []
divisors divisor (Axis width shift radix ∷ axes) = divisor ∷ divisors (divisor_by radix divisor) axes

times_pow : (d w : ℕ) → d ≤ d * 2 ^ w
times_pow d w = le_trans (le_of_eq (sym (mul-one d))) (mul-le-mul (le_refl d) (pow_pos w))

divisor_by_le : (width radix divisor : ℕ) → radix ≤ 2 ^ width → divisor_by radix divisor ≤ divisor * 2 ^ width
divisor_by_le width zero divisor h = times_pow divisor width
divisor_by_le width (suc r) divisor h = mul-le-mul (le_refl divisor) h

divisors_le : (axes : List AxisSpec) (divisor : ℕ) → axes_valid axes ≡ true → All (λ d. d ≤ divisor * 2 ^ widths axes) (divisors divisor axes)
divisors_le [] divisor valid = times_pow divisor 0 ∷ᴬ []ᴬ
divisors_le (Axis width shift radix ∷ axes) divisor valid =
    times_pow divisor (width + widths axes) ∷ᴬ All_imp (λ d (h : d ≤ divisor_by radix divisor * 2 ^ widths axes). le_trans h grown) (divisors_le axes (divisor_by radix divisor) first.rest)
  where
    first : FirstValid (Axis width shift radix) axes
    first = first_valid (Axis width shift radix) axes valid

    grown : divisor_by radix divisor * 2 ^ widths axes ≤ divisor * 2 ^ (width + widths axes)
    grown = rw (pow-add, ← mul_assoc) (mul-le-mul (divisor_by_le width radix divisor first.radix_fits) (le_refl (2 ^ widths axes)))

-- With valid axes every divisor of the loop is at most 2^63.
pub divisors_fit : (axes : List AxisSpec) → axes_valid axes ≡ true → All (λ d. d ≤ 2 ^ 63) (divisors 1 axes)
divisors_fit axes valid = All_imp (λ d (h : d ≤ 1 * 2 ^ widths axes). le_trans h (le_trans (le_of_eq (one-mul (2 ^ widths axes))) (pow_mono (widths_le axes valid)))) (divisors_le axes 1 valid)

-- ---- the top
abbrev BelowTop : Option ℕ → Type 0
BelowTop none = Unit {0}
BelowTop (some word) = word < 2 ^ 63

digits_or_below : (axes : List AxisSpec) (word divisor v : ℕ) → axes_valid axes ≡ true → word < 2 ^ 63 → BelowTop (digits_or word divisor axes v)
digits_or_below [] word divisor v valid h = h
digits_or_below (Axis width shift radix ∷ axes) word divisor v valid h = go (ltb digit (2 ^ width)) refl (λ w. digits_or_below axes w (divisor_by radix divisor) v first.rest)
  where
    digit : ℕ
    digit = digit_by radix (v / divisor)

    first : FirstValid (Axis width shift radix) axes
    first = first_valid (Axis width shift radix) axes valid

    go : (b : Bool) → ltb digit (2 ^ width) ≡ b → ((w : ℕ) → w < 2 ^ 63 → BelowTop (digits_or w (divisor_by radix divisor) axes v))
        → BelowTop (cond b (digits_or (bit_or word (digit * 2 ^ shift)) (divisor_by radix divisor) axes v) none)
    go true t rest = rest (bit_or word (digit * 2 ^ shift)) (or_below (Axis width shift radix) word digit first.ends (yes_lt digit (2 ^ width) t) h)
    go false t rest = tt

plus-below : (axes : List AxisSpec) (word v : ℕ) → axes_valid axes ≡ true → ClearOf axes word → word < 2 ^ 63 → BelowTop (plus word (digits axes v))
plus-below axes word v valid clear h = subst BelowTop (sym (plus_or axes word v valid clear)) (digits_or_below axes word 1 v valid h)

-- The digits of valid axes are below 2^63.
pub digits-below : (axes : List AxisSpec) (v word : ℕ) → axes_valid axes ≡ true → digits axes v ≡ some word → word < 2 ^ 63
digits-below axes v word valid h = subst BelowTop (plus-zero (digits axes v) ∙ h) (plus-below axes 0 v valid (zero_clear axes) (pow_pos 63))

-- The sum, unless its first part reaches 2^63.
abbrev pub unless_top : ℕ → Option ℕ → Option ℤ
unless_top high none = none
unless_top high (some word) = cond (ltb high (2 ^ 63)) (some (pos (high + word))) none

-- The digits never carry the sum to 2^63, so the part at the offset may be tested before they are added.
pub packed_top : (offset : Option ℕ) (axes : List AxisSpec) (v : ℕ) → axes_valid axes ≡ true → offset_valid offset axes ≡ true
    → packed offset axes (pos v) ≡ unless_top (at_offset offset v) (digits axes v)
packed_top offset axes v valid higher = go (digits axes v) refl
  where
    high : ℕ
    high = at_offset offset v

    go : (o : Option ℕ) → digits axes v ≡ o → fitting (plus high o) ≡ unless_top high o
    go none h = refl
    go (some word) h = ap (λ (b : Bool). cond b (some (pos (high + word))) none) (test (ltb high (2 ^ 63)) refl)
      where
        test : (b : Bool) → ltb high (2 ^ 63) ≡ b → ltb (high + word) (2 ^ 63) ≡ b
        test true t = ltb_yes (high + word) (2 ^ 63) (subst BelowTop (ap (plus high) h) (plus-below axes high v valid (offset_clear offset axes v higher) (yes_lt high (2 ^ 63) t)))
        test false t = ltb_no (high + word) (2 ^ 63) (le_trans (no_ge high (2 ^ 63) t) (le-add_right high word))

-- Whether v times 2^k stays below 2^63, told without the product.
pub shift_fits : (v k : ℕ) → k ≤ 63 → ltb (v * 2 ^ k) (2 ^ 63) ≡ ltb v (2 ^ (63 - k))
shift_fits v k h = ap (ltb (v * 2 ^ k)) parted ∙ bool_ext (ltb (v * 2 ^ k) (2 ^ (63 - k) * 2 ^ k)) (ltb v (2 ^ (63 - k)))
    (λ e. ltb_yes v (2 ^ (63 - k)) (lt_of_mul-lt-mul_right (2 ^ k) (yes_lt (v * 2 ^ k) (2 ^ (63 - k) * 2 ^ k) e)))
    (λ e. ltb_yes (v * 2 ^ k) (2 ^ (63 - k) * 2 ^ k) (rw (← pow-add) (shl_lt (63 - k) k (yes_lt v (2 ^ (63 - k)) e))))
  where
    parted : 2 ^ 63 ≡ 2 ^ (63 - k) * 2 ^ k
    parted = ap (λ (j : ℕ). 2 ^ j) (let z : 63 ≡ (63 - k) + k = omega arith in z) ∙ pow-add 2 (63 - k) k
