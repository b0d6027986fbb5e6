-- The conditions of refusals 2 to 9 at their limits; 10 before 11.
use mathlib.Core.Path.{◌≡◌, refl}
use mathlib.Core.Bool.{not}
use mathlib.Core.Option.{Option, none}
use mathlib.Core.List.{List, [], ◌∷◌, ◌++◌, map}
use Prim.Native.Nat.{ℕ, suc, ◌^◌}
use lib.IntN.{ℤ, pos}
use lib.ListN.{replicate, set}
use Rattle.lists.specs.Lists.{cons_if, filter, span, upto}
use Rattle.spec.specs.Kind.{kind_of}
use Rattle.spec.specs.Record.{record_of}
use Rattle.spec.specs.Refusal.{Refused, unknown_kind, stray_byte, file_fault}
use Rattle.compose.specs.Tuples.{Engine, structural, exhaustive}
use Rattle.classifier.specs.Count.{count_fault}
use Rattle.cases.proofs.Build.{minus, rec, file, ascii, no_range, ranged, stepped, listed, value, range, even, eq, neq, lt, gt, le, ge, oneof, item, cross, pair, key, enable_mask, disable, bitmask, enable_set, assign, sum, identity, parity, decompose, axis, only, bit, refusal, judging}

-- The refusal of a file of these records.
abbrev fault_of : List (List ℕ) → Option Refused
fault_of records = file_fault (file records)

-- ---- 2: unknown kinds and forms
-- 1 to 8, 10 to 22, 30 to 33.
the_known_kinds : filter (λ kind. not (unknown_kind (kind_of kind) (record_of (rec kind 0 0 (pos 0) (pos 0) (pos 0))))) (upto 256) ≡ span 1 8 ++ (span 10 13 ++ span 30 4)
unfolding judging
the_known_kinds = refl

unknown_kinds_are_2 : map (λ kind. file_fault (rec kind 0 0 (pos 0) (pos 0) (pos 0))) (0 ∷ 9 ∷ 23 ∷ 29 ∷ 34 ∷ 255 ∷ []) ≡ replicate 6 (refusal 2 1)
unfolding judging
unknown_kinds_are_2 = refl

-- With a stray p, and a that is not due: 2 is the lowest number.
unknown_forms_are_2 : map (λ form. file_fault (rec 1 5 form (pos 1) (pos 0) (pos 0))) (3 ∷ 255 ∷ []) ≡ replicate 2 (refusal 2 1)
unfolding judging
unknown_forms_are_2 = refl

-- ---- 3: stray marks
-- Each of the five bytes after b.
a_byte_after_b_is_3 : map (λ i. fault_of (set (no_range 0) i 1 ∷ sum ∷ [])) (3 ∷ 4 ∷ 5 ∷ 6 ∷ 7 ∷ []) ≡ replicate 5 (refusal 3 1)
unfolding judging
a_byte_after_b_is_3 = refl

-- Form 0 does not use p and q; form 2 does not use p, q and r.
a-number-that-a-form-does-not-use-is-3 :
    map (λ head. fault_of (head ∷ sum ∷ []))
    (rec 1 0 0 (pos 1) (pos 0) (pos 0)
    ∷ rec 1 0 0 (pos 0) (pos 1) (pos 0)
    ∷ rec 1 0 2 (pos 1) (pos 0) (pos 0)
    ∷ rec 1 0 2 (pos 0) (pos 1) (pos 0)
    ∷ rec 1 0 2 (pos 0) (pos 0) (pos 1)
    ∷ []) ≡
    replicate 5 (refusal 3 1)
unfolding judging
a-number-that-a-form-does-not-use-is-3 = refl

-- The letters of the numbers that a kind uses: those that are no stray mark when they are 1.
abbrev letters_of : ℕ → List ℕ
letters_of kind = keep (rec kind 1 0 (pos 0) (pos 0) (pos 0)) 97
    (keep (rec kind 0 1 (pos 0) (pos 0) (pos 0)) 98
    (keep (rec kind 0 0 (pos 1) (pos 0) (pos 0)) 112
    (keep (rec kind 0 0 (pos 0) (pos 1) (pos 0)) 113
    (keep (rec kind 0 0 (pos 0) (pos 0) (pos 1)) 114
    []))))
  where
    keep : List ℕ → ℕ → List ℕ → List ℕ
    keep bytes letter letters = cons_if (not (stray_byte (record_of bytes).kind (record_of bytes))) letter letters

-- Members, constraints, projectors.
what-each-kind-uses :
    map letters_of
    (2 ∷ 3 ∷ 4 ∷ 5 ∷ 6 ∷ 7 ∷ 8
    ∷ 10 ∷ 11 ∷ 12 ∷ 13 ∷ 14 ∷ 15 ∷ 16 ∷ 17 ∷ 18 ∷ 19 ∷ 20 ∷ 21 ∷ 22
    ∷ 30 ∷ 31 ∷ 32 ∷ 33
    ∷ []) ≡
    map ascii
    ("ap" ∷ "p" ∷ "pq" ∷ "p" ∷ "a" ∷ "ap" ∷ "abp"
    ∷ "apq" ∷ "a" ∷ "ab" ∷ "ab" ∷ "ap" ∷ "ap" ∷ "ap" ∷ "ap" ∷ "a" ∷ "ab" ∷ "ap" ∷ "apq" ∷ "ap"
    ∷ "" ∷ "a" ∷ "a" ∷ "apq"
    ∷ [])
unfolding judging
what-each-kind-uses = refl

-- ---- 4 before 5 before 6
-- The 33rd field has the number 0.
the_33rd_field_misnumbered_is_4 : fault_of (map bit (upto 32) ++ (bit 0 ∷ sum ∷ [])) ≡ refusal 4 33
unfolding judging
the_33rd_field_misnumbered_is_4 = refl

-- The 257th constraint names field 9.
the_257th_constraint_on_no_field_is_5 : fault_of (bit 0 ∷ (replicate 256 (even 0) ++ (even 9 ∷ sum ∷ []))) ≡ refusal 5 258
unfolding judging
the_257th_constraint_on_no_field_is_5 = refl

-- ---- 6: no such field
-- There is one field, number 0.
a-head-that-names-field-1-is-6 :
    map (λ head. fault_of (bit 0 ∷ head ∷ []))
    (range 1 (pos 0) (pos 0)
    ∷ even 1
    ∷ eq 1 0 ∷ eq 0 1
    ∷ neq 1 0 ∷ neq 0 1
    ∷ lt 1 (pos 0) ∷ gt 1 (pos 0) ∷ le 1 (pos 0) ∷ ge 1 (pos 0)
    ∷ oneof 1
    ∷ cross 1 0 ∷ cross 0 1
    ∷ enable_mask 1 (pos 0)
    ∷ bitmask 1 (pos 0) (pos 0)
    ∷ enable_set 1 (pos 0)
    ∷ identity 1 ∷ parity 1 ∷ decompose 1 (pos 0) (minus 1)
    ∷ []) ≡
    replicate 19 (refusal 6 2)
unfolding judging
a-head-that-names-field-1-is-6 = refl

a-member-that-names-field-1-is-6 :
    map fault_of
    ((bit 0 ∷ enable_mask 0 (pos 0) ∷ disable 1 ∷ sum ∷ [])
    ∷ (bit 0 ∷ enable_set 0 (pos 0) ∷ assign 1 (pos 0) ∷ sum ∷ [])
    ∷ []) ≡
    replicate 2 (refusal 6 3)
unfolding judging
a-member-that-names-field-1-is-6 = refl

-- Without fields no number is below their count.
field_0_of_no_fields_is_6 : map (λ head. fault_of (head ∷ [])) (even 0 ∷ identity 0 ∷ parity 0 ∷ decompose 0 (pos 0) (minus 1) ∷ []) ≡ replicate 4 (refusal 6 1)
unfolding judging
field_0_of_no_fields_is_6 = refl

-- ---- 7: off scale
at_the_ends_of_the_scale_is_accepted : map (λ p. fault_of (only 0 p ∷ sum ∷ [])) (pos (2 ^ 56) ∷ minus (2 ^ 56) ∷ []) ≡ replicate 2 none
unfolding judging
at_the_ends_of_the_scale_is_accepted = refl

abbrev above_scale : ℤ
above_scale = pos (suc (2 ^ 56))

abbrev below_scale : ℤ
below_scale = minus (suc (2 ^ 56))

beyond-the-scale-is-7 :
    map (λ head. fault_of (bit 0 ∷ head ∷ []))
    (rec 1 1 1 above_scale above_scale (pos 0)
    ∷ rec 1 1 1 below_scale below_scale (pos 0)
    ∷ rec 1 1 1 below_scale (pos 0) (pos 0)
    ∷ rec 1 1 1 (pos 0) above_scale (pos 0)
    ∷ rec 1 1 1 (pos 0) (pos 0) above_scale
    ∷ rec 1 1 0 (pos 0) (pos 0) above_scale
    ∷ range 0 below_scale (pos 0) ∷ range 0 (pos 0) above_scale
    ∷ lt 0 above_scale ∷ gt 0 below_scale
    ∷ enable_mask 0 above_scale ∷ enable_set 0 below_scale
    ∷ bitmask 0 above_scale (pos 0) ∷ bitmask 0 (pos 0) below_scale
    ∷ decompose 0 above_scale (minus 1) ∷ decompose 0 (pos 0) below_scale
    ∷ []) ≡
    replicate 16 (refusal 7 2)
unfolding judging
beyond-the-scale-is-7 = refl

a-member-beyond-the-scale-is-7 :
    map fault_of
    ((bit 0 ∷ listed 1 ∷ value 1 above_scale ∷ sum ∷ [])
    ∷ (bit 0 ∷ oneof 0 ∷ item below_scale ∷ sum ∷ [])
    ∷ (bit 0 ∷ cross 0 0 ∷ pair above_scale (pos 0) ∷ sum ∷ [])
    ∷ (bit 0 ∷ cross 0 0 ∷ pair (pos 0) below_scale ∷ sum ∷ [])
    ∷ (bit 0 ∷ cross 0 0 ∷ key above_scale ∷ sum ∷ [])
    ∷ (bit 0 ∷ enable_set 0 (pos 0) ∷ assign 0 below_scale ∷ sum ∷ [])
    ∷ (bit 0 ∷ decompose 0 (pos 0) (minus 1) ∷ axis 1 0 below_scale ∷ [])
    ∷ []) ≡
    replicate 7 (refusal 7 3)
unfolding judging
a-member-beyond-the-scale-is-7 = refl

-- The range 1..0 is empty: 7 comes before 8.
a_negative_step_is_7 : map fault_of ((rec 1 0 0 (pos 0) (pos 0) (minus 1) ∷ sum ∷ []) ∷ (stepped 0 (pos 1) (pos 0) (minus 1) ∷ sum ∷ []) ∷ []) ≡ replicate 2 (refusal 7 1)
unfolding judging
a_negative_step_is_7 = refl

a_negative_mask_is_7 : fault_of (bit 0 ∷ bitmask 0 (minus 1) (pos 0) ∷ sum ∷ []) ≡ refusal 7 2
unfolding judging
a_negative_mask_is_7 = refl

-- Neither a bitmask's value nor the trigger of an enable record is a mask.
other-negative-numbers-are-accepted :
    map (λ constraint. fault_of (bit 0 ∷ constraint ∷ sum ∷ [])) (bitmask 0 (pos 1) (minus 1) ∷ enable_mask 0 (minus 1) ∷ enable_set 0 (minus 1) ∷ []) ≡ replicate 3 none
unfolding judging
other-negative-numbers-are-accepted = refl

-- ---- 9: bad packing
-- The refusal of a decompose at record 2 with these axes.
abbrev packing_fault : (offset : ℤ) (axes : List (List ℕ)) → Option Refused
packing_fault offset axes = fault_of (bit 0 ∷ decompose 0 (pos 0) offset ∷ axes)

a_decompose_without_axes_is_9_at_the_head : packing_fault (minus 1) [] ≡ refusal 9 2
unfolding judging
a_decompose_without_axes_is_9_at_the_head = refl

-- The same where another record follows, at which 4 would be.
no_axes_come_before_a_record_after_the_projector : packing_fault (minus 1) (sum ∷ []) ≡ refusal 9 2
unfolding judging
no_axes_come_before_a_record_after_the_projector = refl

-- Width 0, 64; shift + width 64, 63.
the-width-and-the-end-of-an-axis :
    map (λ one. packing_fault (minus 1) (one ∷ []))
    (axis 0 0 (pos 0) ∷ axis 64 0 (pos 0)
    ∷ axis 1 63 (pos 0) ∷ axis 63 1 (pos 0)
    ∷ axis 1 62 (pos 0) ∷ axis 63 0 (pos 0)
    ∷ []) ≡
    replicate 4 (refusal 9 3) ++ replicate 2 none
unfolding judging
the-width-and-the-end-of-an-axis = refl

-- Width 2: radix 0 is absent, 1 is too small, 2 to 4 are good, 5 − 1 reaches 2^2. No radix is negative.
the-radix-of-an-axis :
    map (λ radix. packing_fault (minus 1) (axis 2 0 radix ∷ [])) (pos 0 ∷ pos 1 ∷ pos 2 ∷ pos 4 ∷ pos 5 ∷ minus 1 ∷ minus 2 ∷ minus (2 ^ 56) ∷ []) ≡
    none ∷ refusal 9 3 ∷ none ∷ none ∷ replicate 4 (refusal 9 3)
unfolding judging
the-radix-of-an-axis = refl

-- An axis of bits 2 and 3; then bit 1, bit 2, bit 3, bits 0 to 8, bit 4.
overlapping-axes-are-9-at-the-later :
    map (λ later. packing_fault (minus 1) (axis 2 2 (pos 0) ∷ later ∷ []))
    (axis 1 1 (pos 0) ∷ axis 1 2 (pos 0) ∷ axis 1 3 (pos 0) ∷ axis 9 0 (pos 0) ∷ axis 1 4 (pos 0) ∷ []) ≡
    none ∷ refusal 9 4 ∷ refusal 9 4 ∷ refusal 9 4 ∷ none ∷ []
unfolding judging
overlapping-axes-are-9-at-the-later = refl

-- The third overlaps the first, not the second; the fourth is good.
an_axis_is_held_against_all_before_it : packing_fault (minus 1) (axis 2 0 (pos 0) ∷ axis 2 2 (pos 0) ∷ axis 1 1 (pos 0) ∷ axis 2 9 (pos 0) ∷ []) ≡ refusal 9 5
unfolding judging
an_axis_is_held_against_all_before_it = refl

-- The highest shift + width is the first axis's, 5.
an-offset-below-an-axis-is-9-at-the-head :
    map (λ offset. packing_fault offset (axis 2 3 (pos 0) ∷ axis 3 0 (pos 0) ∷ [])) (pos 0 ∷ pos 4 ∷ pos 5 ∷ pos 63 ∷ []) ≡ refusal 9 2 ∷ refusal 9 2 ∷ none ∷ none ∷ []
unfolding judging
an-offset-below-an-axis-is-9-at-the-head = refl

an-offset-below-minus-1-is-9-at-the-head :
    map (λ offset. packing_fault offset (axis 1 0 (pos 0) ∷ [])) (minus 2 ∷ minus 64 ∷ minus (2 ^ 56) ∷ []) ≡ replicate 3 (refusal 9 2)
unfolding judging
an-offset-below-minus-1-is-9-at-the-head = refl

-- ---- 10 before 11
-- The total is 1,001,000,000, and no scratch is lent.
too-many-comes-before-scratch :
    (engine : Engine) → count_fault engine 0 (file (ranged 0 (pos 1) (pos 1000) ∷ ranged 1 (pos 1) (pos 1000) ∷ ranged 2 (pos 1) (pos 1001) ∷ sum ∷ [])) ≡ refusal 10 0
unfolding judging
too-many-comes-before-scratch structural = refl
too-many-comes-before-scratch exhaustive = refl
