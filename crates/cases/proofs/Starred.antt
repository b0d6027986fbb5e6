-- The starred cases of document 01, each on the bytes of a file.
use mathlib.Core.Path.{◌≡◌, refl}
use mathlib.Core.Option.{none, some}
use mathlib.Core.List.{List, [], ◌∷◌, map}
use Prim.Native.Nat.{ℕ}
use lib.IntN.{ℤ, pos}
use lib.ListN.{replicate}
use Rattle.lists.specs.Lists.{upto}
use Rattle.spec.specs.Domain.{domains}
use Rattle.spec.specs.Record.{decoded}
use Rattle.spec.specs.Refusal.{file_fault}
use Rattle.compose.specs.Maps.{allowed_lists, field_order}
use Rattle.compose.specs.Tuples.{Engine, structural, exhaustive, emitted}
use Rattle.classifier.specs.Count.{verdicts, count_fault}
use Rattle.cases.proofs.Build.{minus, file, no_range, ranged, stepped, listed, value, oneof, item, cross, pair, key, enable_mask, disable, enable_set, assign, sum, parity, decompose, axis, only, bit, refusal, passes, fails, decoding, judging, emitting, evaluating}

-- ---- domains
-- −7..7 step 4: −4, 0, 4.
abbrev fours : List ℕ
fours = file (stepped 0 (minus 7) (pos 7) (pos 4) ∷ sum ∷ [])

step_4_from_minus_7 : domains (decoded fours) ≡ (minus 4 ∷ pos 0 ∷ pos 4 ∷ []) ∷ []
unfolding decoding domains
step_4_from_minus_7 = refl

-- −7..−5 step 4: 8.
step_4_in_minus_7_to_minus_5_is_8 : file_fault (file (stepped 0 (minus 7) (minus 5) (pos 4) ∷ sum ∷ [])) ≡ refusal 8 1
unfolding judging
step_4_in_minus_7_to_minus_5_is_8 = refl

-- No range: 256 values, 0 to 255.
abbrev free : List ℕ
free = file (no_range 0 ∷ sum ∷ [])

no_range_has_256_values : domains (decoded free) ≡ map pos (upto 256) ∷ []
unfolding decoding domains
no_range_has_256_values = refl

-- 300 forced on a field without range passes the field check.
abbrev forced300 : List ℕ
forced300 = file (only 0 (pos 1) ∷ no_range 1 ∷ enable_set 0 (pos 1) ∷ assign 1 (pos 300) ∷ sum ∷ [])

forced-300-passes-the-field-check :
    (engine : Engine) → verdicts engine (decoded forced300) ≡ replicate 256 (passes (some (pos 301)) (pos 1 ∷ pos 300 ∷ []))
unfolding evaluating
forced-300-passes-the-field-check structural = refl
forced-300-passes-the-field-check exhaustive = refl

-- ---- lists and maps
-- oneof {9} on 0..2: the list stays 0, 1, 2; all three verdicts fail.
abbrev oneof9 : List ℕ
oneof9 = file (ranged 0 (pos 0) (pos 2) ∷ oneof 0 ∷ item (pos 9) ∷ sum ∷ [])

oneof_9_keeps_the_list : allowed_lists (decoded oneof9) ≡ (pos 0 ∷ pos 1 ∷ pos 2 ∷ []) ∷ []
unfolding decoding allowed_lists
oneof_9_keeps_the_list = refl

oneof-9-fails-every-verdict :
    (engine : Engine) → verdicts engine (decoded oneof9) ≡ fails 2 (pos 0 ∷ []) ∷ fails 2 (pos 1 ∷ []) ∷ fails 2 (pos 2 ∷ []) ∷ []
unfolding evaluating
oneof-9-fails-every-verdict structural = refl
oneof-9-fails-every-verdict exhaustive = refl

-- Values 5, 5: two verdicts.
abbrev fives : List ℕ
fives = file (listed 0 ∷ value 0 (pos 5) ∷ value 0 (pos 5) ∷ sum ∷ [])

values-5-5-give-two-verdicts :
    (engine : Engine) → verdicts engine (decoded fives) ≡ passes (some (pos 5)) (pos 5 ∷ []) ∷ passes (some (pos 5)) (pos 5 ∷ []) ∷ []
unfolding evaluating
values-5-5-give-two-verdicts structural = refl
values-5-5-give-two-verdicts exhaustive = refl

-- Kept map 2→0 of three fields: order 1, 2, 0.
abbrev map20 : List ℕ
map20 = file (bit 0 ∷ bit 1 ∷ bit 2 ∷ cross 2 0 ∷ pair (pos 1) (pos 1) ∷ sum ∷ [])

map_2_to_0_orders_1_2_0 : field_order (decoded map20) ≡ 1 ∷ 2 ∷ 0 ∷ []
unfolding emitting
map_2_to_0_orders_1_2_0 = refl

map-2-to-0-emits-in-that-order :
    emitted structural (decoded map20) ≡
    (0 ∷ 0 ∷ 0 ∷ []) ∷ (1 ∷ 0 ∷ 0 ∷ []) ∷ (1 ∷ 0 ∷ 1 ∷ [])
    ∷ (0 ∷ 1 ∷ 0 ∷ []) ∷ (1 ∷ 1 ∷ 0 ∷ []) ∷ (1 ∷ 1 ∷ 1 ∷ []) ∷ []
unfolding emitting
map-2-to-0-emits-in-that-order = refl

-- Maps 0→1 and 1→0: 12; exhaustive accepts.
abbrev pub cycle_file : List ℕ
cycle_file = file (bit 0 ∷ bit 1 ∷ cross 0 1 ∷ pair (pos 1) (pos 1) ∷ cross 1 0 ∷ pair (pos 1) (pos 1) ∷ sum ∷ [])

two_maps_in_a_cycle_are_12 : count_fault structural 4 cycle_file ≡ refusal 12 0
unfolding judging
two_maps_in_a_cycle_are_12 = refl

exhaustive_accepts_the_cycle : count_fault exhaustive 4 cycle_file ≡ none
unfolding judging
exhaustive_accepts_the_cycle = refl

-- Key 1 without pair, 1 allowed: 13.
key_1_without_pair_is_13 : count_fault structural 4 (file (bit 0 ∷ bit 1 ∷ cross 0 1 ∷ key (pos 1) ∷ sum ∷ [])) ≡ refusal 13 0
unfolding judging
key_1_without_pair_is_13 = refl

-- ---- forcing
-- enable_set (0 is 1: field 1 := 1), then enable_mask (1 is 1: field 2 := 0). The only raw row is 1 5 7.
-- Field 1 does not allow 1, so the verdict is failed at place 2.
abbrev raw157 : List ℕ
raw157 = file
    (only 0 (pos 1) ∷ only 1 (pos 5) ∷ only 2 (pos 7)
    ∷ enable_set 0 (pos 1) ∷ assign 1 (pos 1)
    ∷ enable_mask 1 (pos 1) ∷ disable 2
    ∷ sum ∷ [])

forcing_structural : verdicts structural (decoded raw157) ≡ fails 2 (pos 1 ∷ pos 1 ∷ pos 0 ∷ []) ∷ []
unfolding evaluating
forcing_structural = refl

forcing_exhaustive : verdicts exhaustive (decoded raw157) ≡ fails 2 (pos 1 ∷ pos 1 ∷ pos 7 ∷ []) ∷ []
unfolding evaluating
forcing_exhaustive = refl

-- ---- projections
-- Parity of −3: 1.
abbrev odd : List ℕ
odd = file (only 0 (minus 3) ∷ parity 0 ∷ [])

parity_of_minus_3 : (engine : Engine) → verdicts engine (decoded odd) ≡ passes (some (pos 1)) (minus 3 ∷ []) ∷ []
unfolding evaluating
parity_of_minus_3 structural = refl
parity_of_minus_3 exhaustive = refl

-- Base 0, axes radix 4 width 2 shift 3 and width 3 shift 0: 13 gives 11; 32 gives none.
abbrev packing : ℤ → List ℕ
packing v = file (only 0 v ∷ decompose 0 (pos 0) (minus 1) ∷ axis 2 3 (pos 4) ∷ axis 3 0 (pos 0) ∷ [])

decompose_13_gives_11 : (engine : Engine) → verdicts engine (decoded (packing (pos 13))) ≡ passes (some (pos 11)) (pos 13 ∷ []) ∷ []
unfolding evaluating
decompose_13_gives_11 structural = refl
decompose_13_gives_11 exhaustive = refl

decompose_32_gives_none : (engine : Engine) → verdicts engine (decoded (packing (pos 32))) ≡ passes none (pos 32 ∷ []) ∷ []
unfolding evaluating
decompose_32_gives_none structural = refl
decompose_32_gives_none exhaustive = refl

-- ---- totals
-- Lengths 1,000, 1,000, 1,000 accepted; 1,000, 1,000, 1,001: 10.
abbrev lengths : (third : ℤ) → List ℕ
lengths third = file (ranged 0 (pos 1) (pos 1000) ∷ ranged 1 (pos 1) (pos 1000) ∷ ranged 2 (pos 1) third ∷ sum ∷ [])

thousand_cubed_is_accepted : (engine : Engine) → count_fault engine 3000 (lengths (pos 1000)) ≡ none
unfolding judging
thousand_cubed_is_accepted structural = refl
thousand_cubed_is_accepted exhaustive = refl

one_more_is_10 : (engine : Engine) → count_fault engine 3001 (lengths (pos 1001)) ≡ refusal 10 0
unfolding judging
one_more_is_10 structural = refl
one_more_is_10 exhaustive = refl

-- Each file above whose values, lists or verdicts are stated is accepted by both engines.
stated-files-are-accepted :
    (engine : Engine) →
    map (count_fault engine 257) (fours ∷ free ∷ forced300 ∷ oneof9 ∷ fives ∷ map20 ∷ raw157 ∷ odd ∷ packing (pos 13) ∷ packing (pos 32) ∷ []) ≡
    replicate 10 none
unfolding judging
stated-files-are-accepted structural = refl
stated-files-are-accepted exhaustive = refl
