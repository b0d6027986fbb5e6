-- Words below 2^63, and the turns of the loop that adds up the digits.
use mathlib.Core.Bool.{Bool, cond, false, true}
use mathlib.Core.List.{List, [], ◌∷◌, map}
use mathlib.Core.Option.{Option, none, some}
use mathlib.Core.Path.{◌∙◌, ◌≡◌, ap, refl, subst}
use Prim.Native.Nat.{◌%◌, ◌*◌, ◌+◌, ◌/◌, ◌<◌, ◌^◌, ◌≤◌, suc, zero, ℕ}
use native.Mathlib.Numerals.{add-one}
use native.Mathlib.Omega.{arith}
use lib.Dec.{ltb}
use Rattle.std.specs.Prelude.{Some, None}
use lib.IntN.{nat_abs, pos, ℤ}
use lib.ListN.{drop, drop_of_length-le, length}
use Rattle.lists.proofs.All.{All, All_at}
use Rattle.lists.proofs.Tests.{ltb_no, ltb_yes, no_ge, yes_lt}
use Rattle.spec.specs.Record.{Record, axis_of, record_at, records_of}
use Rattle.spec.specs.Spec.{Axis, AxisSpec}
use Rattle.spec.proofs.Fields.{length_records, record_get_d, records_from}
use Rattle.registry.specs.Code.{AxisIn, digit_of, rest_of, word_by, word_of}
use Rattle.registry.specs.Project.{fitting}
use Rattle.registry.proofs.Packing.{digits_from}

-- ---- words
pub fits_yes : (n m : ℕ) → word_of n ≡ Some m → (n < 2 ^ 63) × (m ≡ n)
fits_yes n m = go (ltb n (2 ^ 63)) refl
  where
    go : (b : Bool) → ltb n (2 ^ 63) ≡ b → word_by b n ≡ Some m → (n < 2 ^ 63) × (m ≡ n)
    go true t e = (yes_lt n (2 ^ 63) t, cc)
    go false t e = absurd (cc)

pub fits_no : (n : ℕ) → word_of n ≡ None → 2 ^ 63 ≤ n
fits_no n = go (ltb n (2 ^ 63)) refl
  where
    go : (b : Bool) → ltb n (2 ^ 63) ≡ b → word_by b n ≡ None → 2 ^ 63 ≤ n
    go true t e = absurd (cc)
    go false t e = no_ge n (2 ^ 63) t

-- ---- v × 2^k
-- ---- digits

-- An axis without radix has no room for what is left.
pub axis_full : (word width shift radix : ℕ) (axes : List AxisSpec) (v : ℕ) → radix ≡ 0 → 2 ^ width ≤ v → digits_from word (Axis width shift radix ∷ axes) v ≡ none
axis_full word width shift radix axes v e h = rw e (rw (ltb_no v (2 ^ width) h))

pub axis_turn : (word width shift radix : ℕ) (axes : List AxisSpec) (v : ℕ) → (radix ≡ 0 → v < 2 ^ width)
    → digits_from word (Axis width shift radix ∷ axes) v ≡ digits_from (word + digit_of radix v * 2 ^ shift) axes (rest_of radix v)
axis_turn word width shift zero axes v h = rw (ltb_yes v (2 ^ width) (h refl))
axis_turn word width shift (suc r) axes v h = refl

-- The rest only adds to a word, so that one at the top stays there.
pub over_top : (word : ℕ) (axes : List AxisSpec) (v : ℕ) → 2 ^ 63 ≤ word → fitting (digits_from word axes v) ≡ none
over_top word [] v h = rw (ltb_no word (2 ^ 63) h)
over_top word (Axis width shift zero ∷ axes) v h = go (ltb v (2 ^ width)) (over_top (word + v * 2 ^ shift) axes v (omega arith))
  where
    go : (b : Bool) → fitting (digits_from (word + v * 2 ^ shift) axes v) ≡ none → fitting (cond b (digits_from (word + v * 2 ^ shift) axes v) none) ≡ none
    go true ih = ih
    go false ih = refl
over_top word (Axis width shift (suc r) ∷ axes) v h = over_top (word + v % suc r * 2 ^ shift) axes (v / suc r) (omega arith)

pub below_top : (word v : ℕ) → word < 2 ^ 63 → fitting (digits_from word [] v) ≡ some (pos word)
below_top word v h = rw (ltb_yes word (2 ^ 63) h)

-- ---- the axes where they lie
module _ (file : List ℕ) where
  -- What the axes from record i on make of a word.
  abbrev pub packed_from : ℕ → ℕ → ℕ → Option ℤ
  packed_from word v i = fitting (digits_from word (map axis_of (drop i (records_of file))) v)

  pub axis_at : All AxisIn (records_of file) → (i : ℕ) → i < length file / 32 → AxisIn (record_at file i)
  axis_at h i l =
      let m = record_at file i in
      subst AxisIn (record_get_d m file i l) (All_at m (records_of file) h i (omega (arith, length_records file)))

  module _ (word v i : ℕ) (inside : i < length file / 32) where
    abbrev m : Record
    m = record_at file i

    first : packed_from word v i ≡ fitting (digits_from word (axis_of m ∷ map axis_of (drop (suc i) (records_of file))) v)
    first = ap (λ (ms : List Record). fitting (digits_from word (map axis_of ms) v)) (records_from file i inside)

    pub from_full : nat_abs m.p ≡ 0 → 2 ^ m.a ≤ v → packed_from word v i ≡ none
    from_full e h = first ∙ ap fitting (axis_full word m.a m.b (nat_abs m.p) (map axis_of (drop (suc i) (records_of file))) v e h)

    pub from_turn : (nat_abs m.p ≡ 0 → v < 2 ^ m.a) → packed_from word v i ≡ packed_from (word + digit_of (nat_abs m.p) v * 2 ^ m.b) (rest_of (nat_abs m.p) v) (i + 1)
    from_turn h = rw (add-one i) (first ∙ ap fitting (axis_turn word m.a m.b (nat_abs m.p) (map axis_of (drop (suc i) (records_of file))) v h))

  pub from_end : (word v i : ℕ) → length file / 32 ≤ i → word < 2 ^ 63 → packed_from word v i ≡ some (pos word)
  from_end word v i h l =
      let e : length (records_of file) ≤ i = omega (arith, length_records file) in
      ap (λ (ms : List Record). fitting (digits_from word (map axis_of ms) v)) (drop_of_length-le (records_of file) e) ∙ below_top word v l
