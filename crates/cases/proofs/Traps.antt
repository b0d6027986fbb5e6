-- What a wrong engine is likely to do and no starred case shows; and the order of judging.
use mathlib.Core.Path.{◌≡◌, refl}
use mathlib.Core.Bool.{true}
use mathlib.Core.Option.{Option, none, some}
use mathlib.Core.List.{List, [], ◌∷◌, ◌++◌, map}
use Prim.Native.Nat.{ℕ}
use lib.IntN.{pos}
use lib.ListN.{replicate}
use Rattle.lists.specs.Lists.{upto}
use Rattle.spec.specs.Record.{decoded}
use Rattle.spec.specs.Refusal.{accepted, file_fault}
use Rattle.compose.specs.Tuples.{Engine, structural, exhaustive, emitted}
use Rattle.classifier.specs.Count.{verdicts, count_fault, count_answer}
use Rattle.classifier.specs.Page.{beginning, after_tuple, page_fault, page_answer}
use Rattle.join.specs.Join.{Which, first, second, JoinRefused, join_fault}
use Rattle.listing.specs.Text.{listing}
use Rattle.cases.proofs.Build.{minus, rec, file, lines, ranged, listed, value, range, even, eq, neq, lt, gt, le, ge, oneof, item, cross, pair, key, enable_mask, disable, bitmask, enable_set, assign, sum, identity, parity, decompose, axis, only, bit, lone_sum, refusal, passes, fails, judging, emitting, evaluating, counting, printing, paging, joining}
use Rattle.cases.proofs.Starred.{cycle_file}

-- ---- lists and maps
-- Two maps 0→1: the last is kept, and lets 1 have 0 alone. The first, which lets 1 have 1 alone, is still a check.
abbrev two_maps : List ℕ
two_maps = file (bit 0 ∷ bit 1 ∷ cross 0 1 ∷ pair (pos 1) (pos 1) ∷ cross 0 1 ∷ pair (pos 1) (pos 0) ∷ sum ∷ [])

the-last-map-is-kept :
    verdicts structural (decoded two_maps) ≡
    passes (some (pos 0)) (pos 0 ∷ pos 0 ∷ [])
    ∷ passes (some (pos 1)) (pos 0 ∷ pos 1 ∷ [])
    ∷ fails 3 (pos 1 ∷ pos 0 ∷ [])
    ∷ []
unfolding evaluating
the-last-map-is-kept = refl

-- oneof {2} on 0..2: index 0 of the allowed list is the value 2.
an-index-is-no-value :
    verdicts structural (decoded (file (ranged 0 (pos 0) (pos 2) ∷ oneof 0 ∷ item (pos 2) ∷ sum ∷ []))) ≡
    passes (some (pos 2)) (pos 2 ∷ [])
    ∷ []
unfolding evaluating
an-index-is-no-value = refl

-- Exhaustive goes by no map: field 0 counts most, and no tuple is left out.
exhaustive-goes-by-no-map :
    emitted exhaustive (decoded (file (bit 0 ∷ bit 1 ∷ cross 1 0 ∷ pair (pos 1) (pos 1) ∷ sum ∷ []))) ≡
    (0 ∷ 0 ∷ []) ∷ (0 ∷ 1 ∷ []) ∷ (1 ∷ 0 ∷ []) ∷ (1 ∷ 1 ∷ []) ∷ []
unfolding emitting
exhaustive-goes-by-no-map = refl

-- Key 1 without pair, 1 not allowed.
a-key-that-is-not-allowed-is-accepted :
    count_fault structural 4 (file (bit 0 ∷ bit 1 ∷ oneof 0 ∷ item (pos 0) ∷ cross 0 1 ∷ key (pos 1) ∷ sum ∷ [])) ≡ none
unfolding judging
a-key-that-is-not-allowed-is-accepted = refl

-- Pair 1, 1, and 1 is not in the child's allowed list.
a-child-value-that-is-not-allowed-is-13 :
    count_fault structural 4 (file (bit 0 ∷ bit 1 ∷ oneof 1 ∷ item (pos 0) ∷ cross 0 1 ∷ pair (pos 1) (pos 1) ∷ sum ∷ [])) ≡ refusal 13 0
unfolding judging
a-child-value-that-is-not-allowed-is-13 = refl

-- ---- forcing
-- Raw 1 3 is not below 2 in field 1; forced to 1 0 it passes.
abbrev fails_raw : List ℕ
fails_raw = file (only 0 (pos 1) ∷ listed 1 ∷ value 1 (pos 0) ∷ value 1 (pos 3) ∷ enable_mask 0 (pos 1) ∷ disable 1 ∷ lt 1 (pos 2) ∷ sum ∷ [])

a-row-that-fails-raw-passes-forced :
    (engine : Engine) → verdicts engine (decoded fails_raw) ≡ passes (some (pos 1)) (pos 1 ∷ pos 0 ∷ []) ∷ passes (some (pos 1)) (pos 1 ∷ pos 0 ∷ []) ∷ []
unfolding evaluating
a-row-that-fails-raw-passes-forced structural = refl
a-row-that-fails-raw-passes-forced exhaustive = refl

-- Raw 1 0 is in range; forced to 1 7 it fails the check of field 1.
abbrev passes_raw : List ℕ
passes_raw = file (only 0 (pos 1) ∷ only 1 (pos 0) ∷ enable_set 0 (pos 1) ∷ assign 1 (pos 7) ∷ sum ∷ [])

a_row_that_passes_raw_fails_forced : (engine : Engine) → verdicts engine (decoded passes_raw) ≡ fails 2 (pos 1 ∷ pos 7 ∷ []) ∷ []
unfolding evaluating
a_row_that_passes_raw_fails_forced structural = refl
a_row_that_passes_raw_fails_forced exhaustive = refl

-- enable_mask (0 is 1: field 1 := 0), enable_set (1 is 0: field 2 := 3), enable_mask (2 is 3: field 0 := 0). The only raw row is 1 5 7.
-- In file order it would be forced to 0 0 3, sets first to 1 0 7.
abbrev masks_and_set : List ℕ
masks_and_set = file
    (only 0 (pos 1) ∷ only 1 (pos 5) ∷ only 2 (pos 7)
    ∷ enable_mask 0 (pos 1) ∷ disable 1
    ∷ enable_set 1 (pos 0) ∷ assign 2 (pos 3)
    ∷ enable_mask 2 (pos 3) ∷ disable 0
    ∷ sum ∷ [])

exhaustive_forces_masks_before_sets : verdicts exhaustive (decoded masks_and_set) ≡ fails 2 (pos 1 ∷ pos 0 ∷ pos 3 ∷ []) ∷ []
unfolding evaluating
exhaustive_forces_masks_before_sets = refl

-- The first write changes the field that the trigger looked at; the others are still made, in file order.
abbrev own_trigger : List ℕ
own_trigger = file (only 0 (pos 1) ∷ only 1 (pos 5) ∷ enable_set 0 (pos 1) ∷ assign 0 (pos 2) ∷ assign 1 (pos 3) ∷ assign 1 (pos 4) ∷ sum ∷ [])

a_trigger_is_looked_at_once : (engine : Engine) → verdicts engine (decoded own_trigger) ≡ fails 1 (pos 2 ∷ pos 4 ∷ []) ∷ []
unfolding evaluating
a_trigger_is_looked_at_once structural = refl
a_trigger_is_looked_at_once exhaustive = refl

-- ---- rows
abbrev repeats : List ℕ
repeats = file (listed 0 ∷ value 0 (pos 4) ∷ value 0 (pos 4) ∷ listed 1 ∷ value 1 (pos 6) ∷ value 1 (pos 6) ∷ sum ∷ [])

repeated_rows_are_kept : (engine : Engine) → verdicts engine (decoded repeats) ≡ replicate 4 (passes (some (pos 10)) (pos 4 ∷ pos 6 ∷ []))
unfolding evaluating
repeated_rows_are_kept structural = refl
repeated_rows_are_kept exhaustive = refl

-- The places of −2, −1, 0, 1, 2 in field 0, with 0 in field 1, under one constraint: 0 is passed, 3 is failed.
abbrev places_under : List ℕ → List ℕ
places_under constraint =
    map (λ v. v.place) (verdicts exhaustive (decoded (file (ranged 0 (minus 2) (pos 2) ∷ only 1 (pos 0) ∷ constraint ∷ sum ∷ []))))

-- −2 and −1 have both bits of 6, in two's complement.
each-check :
    map places_under
    (range 0 (minus 1) (pos 1)
    ∷ even 0
    ∷ eq 0 1
    ∷ neq 0 1
    ∷ lt 0 (pos 1)
    ∷ gt 0 (pos 1)
    ∷ le 0 (pos 1)
    ∷ ge 0 (pos 1)
    ∷ bitmask 0 (pos 6) (pos 6)
    ∷ []) ≡
    (3 ∷ 0 ∷ 0 ∷ 0 ∷ 3 ∷ [])
    ∷ (0 ∷ 3 ∷ 0 ∷ 3 ∷ 0 ∷ [])
    ∷ (3 ∷ 3 ∷ 0 ∷ 3 ∷ 3 ∷ [])
    ∷ (0 ∷ 0 ∷ 3 ∷ 0 ∷ 0 ∷ [])
    ∷ (0 ∷ 0 ∷ 0 ∷ 3 ∷ 3 ∷ [])
    ∷ (3 ∷ 3 ∷ 3 ∷ 3 ∷ 0 ∷ [])
    ∷ (0 ∷ 0 ∷ 0 ∷ 0 ∷ 3 ∷ [])
    ∷ (3 ∷ 3 ∷ 3 ∷ 0 ∷ 0 ∷ [])
    ∷ (0 ∷ 0 ∷ 3 ∷ 3 ∷ 3 ∷ [])
    ∷ []
unfolding evaluating
each-check = refl

-- Base 10, offset 5: 9 is below the base; 17 is 7 above it, digits 3 and 1, and 3 × 8 + 1 + 7 × 32 = 249.
abbrev from10 : List ℕ
from10 = file (listed 0 ∷ value 0 (pos 9) ∷ value 0 (pos 17) ∷ decompose 0 (pos 10) (pos 5) ∷ axis 2 3 (pos 4) ∷ axis 3 0 (pos 0) ∷ [])

base_and_offset : (engine : Engine) → verdicts engine (decoded from10) ≡ passes none (pos 9 ∷ []) ∷ passes (some (pos 249)) (pos 17 ∷ []) ∷ []
unfolding evaluating
base_and_offset structural = refl
base_and_offset exhaustive = refl

numbers-are-printed-in-base-ten :
    (engine : Engine) → listing engine 4096 (file (only 0 (minus 105) ∷ sum ∷ [])) ≡ lines ("P 0 -105 -105" ∷ "end 1 1 1 0" ∷ [])
unfolding printing
numbers-are-printed-in-base-ten structural = refl
numbers-are-printed-in-base-ten exhaustive = refl

-- ---- no fields
a_lone_sum_counts_nothing : (engine : Engine) → count_answer engine 0 lone_sum ≡ accepted (record { total = 0; emitted = 0; passed = 0; failed = 0 })
unfolding counting
a_lone_sum_counts_nothing structural = refl
a_lone_sum_counts_nothing exhaustive = refl

-- An output of no words is not too short.
a-lone-sum-has-an-empty-page :
    (engine : Engine) → page_answer engine 0 0 lone_sum beginning ≡ accepted (record { count = 0; last = replicate 32 0; done = true })
unfolding paging
a-lone-sum-has-an-empty-page structural = refl
a-lone-sum-has-an-empty-page exhaustive = refl

any_start_in_a_lone_sum_is_15 : (engine : Engine) (start : List ℕ) → page_fault engine 0 0 lone_sum (after_tuple start) ≡ refusal 15 0
unfolding paging
any_start_in_a_lone_sum_is_15 structural start = refl
any_start_in_a_lone_sum_is_15 exhaustive start = refl

-- ---- the order of judging
a_ragged_file_is_1 : file_fault (lone_sum ++ (0 ∷ [])) ≡ refusal 1 0
unfolding judging
a_ragged_file_is_1 = refl

-- 65,568 bytes that are 0: the length is judged before the kinds.
a_file_above_65536_bytes_is_1 : file_fault (replicate 65568 0) ≡ refusal 1 0
unfolding judging
a_file_above_65536_bytes_is_1 = refl

the_empty_file_is_4_at_1 : file_fault [] ≡ refusal 4 1
unfolding judging
the_empty_file_is_4_at_1 = refl

a_record_after_the_projector_is_4 : file_fault (file (bit 0 ∷ sum ∷ sum ∷ [])) ≡ refusal 4 3
unfolding judging
a_record_after_the_projector_is_4 = refl

-- The lowest number in a record: kind 9 with a stray p.
an_unknown_kind_comes_before_a_stray_mark : file_fault (file (rec 9 0 0 (pos 1) (pos 0) (pos 0) ∷ sum ∷ [])) ≡ refusal 2 1
unfolding judging
an_unknown_kind_comes_before_a_stray_mark = refl

-- A form 2 field whose only value names another field: not (8, 1).
a_value_of_another_field_is_4 : file_fault (file (listed 0 ∷ value 1 (pos 5) ∷ sum ∷ [])) ≡ refusal 4 2
unfolding judging
a_value_of_another_field_is_4 = refl

-- A decompose at 2 whose only axis has a stray q: not (9, 2).
an_axis_with_a_stray_mark_is_3 : file_fault (file (bit 0 ∷ decompose 0 (pos 0) (minus 1) ∷ rec 8 1 0 (pos 0) (pos 1) (pos 0) ∷ [])) ≡ refusal 3 3
unfolding judging
an_axis_with_a_stray_mark_is_3 = refl

-- A form 2 field without values is judged where its list ends: before an unknown kind, and before a member of another list.
no_values_come_before_an_unknown_kind : file_fault (file (listed 0 ∷ rec 9 0 0 (pos 0) (pos 0) (pos 0) ∷ sum ∷ [])) ≡ refusal 8 1
unfolding judging
no_values_come_before_an_unknown_kind = refl

no_values_come_before_a_misfiled_item : file_fault (file (listed 0 ∷ item (pos 5) ∷ sum ∷ [])) ≡ refusal 8 1
unfolding judging
no_values_come_before_a_misfiled_item = refl

-- An offset of 64 is judged after the axes, and names the head.
an_offset_of_64_is_9_at_the_head : file_fault (file (bit 0 ∷ decompose 0 (pos 0) (pos 64) ∷ axis 1 0 (pos 0) ∷ [])) ≡ refusal 9 2
unfolding judging
an_offset_of_64_is_9_at_the_head = refl

a_bad_axis_comes_before_the_offset : file_fault (file (bit 0 ∷ decompose 0 (pos 0) (pos 64) ∷ axis 0 0 (pos 0) ∷ [])) ≡ refusal 9 3
unfolding judging
a_bad_axis_comes_before_the_offset = refl

-- Before 10: the total is 2^33.
the_33rd_field_is_5 : file_fault (file (map bit (upto 33) ++ (sum ∷ []))) ≡ refusal 5 33
unfolding judging
the_33rd_field_is_5 = refl

the_257th_constraint_is_5 : file_fault (file (bit 0 ∷ (replicate 257 (even 0) ++ (sum ∷ [])))) ≡ refusal 5 258
unfolding judging
the_257th_constraint_is_5 = refl

-- 11 goes by the domains, before any filter.
a_filter_saves_no_scratch : count_fault structural 1 (file (bit 0 ∷ oneof 0 ∷ item (pos 0) ∷ sum ∷ [])) ≡ refusal 11 0
unfolding judging
a_filter_saves_no_scratch = refl

scratch_comes_before_the_cycle : count_fault structural 3 cycle_file ≡ refusal 11 0
unfolding judging
scratch_comes_before_the_cycle = refl

-- Maps 0→1 and 1→0, in both of which 1 is a key without pair.
the-cycle-comes-before-the-childless-key :
    count_fault structural 4 (file (bit 0 ∷ bit 1 ∷ cross 0 1 ∷ key (pos 1) ∷ cross 1 0 ∷ key (pos 1) ∷ sum ∷ [])) ≡ refusal 12 0
unfolding judging
the-cycle-comes-before-the-childless-key = refl

-- ---- joining
abbrev join_refusal : Which → (number at : ℕ) → Option JoinRefused
join_refusal which number at = some (record { which = which; why = record { number = number; at = at } })

sixteen_names_the_projector : join_fault 4096 (file (bit 0 ∷ even 0 ∷ identity 0 ∷ [])) (file (bit 0 ∷ sum ∷ [])) ≡ join_refusal first 16 3
unfolding joining
sixteen_names_the_projector = refl

sixteen_of_the_second : join_fault 4096 (file (bit 0 ∷ even 0 ∷ sum ∷ [])) (file (bit 0 ∷ parity 0 ∷ [])) ≡ join_refusal second 16 2
unfolding joining
sixteen_of_the_second = refl

-- The second file has no projector.
the_second_file_comes_before_sixteen : join_fault 4096 (file (bit 0 ∷ identity 0 ∷ [])) (file (bit 0 ∷ even 0 ∷ [])) ≡ join_refusal second 4 3
unfolding joining
the_second_file_comes_before_sixteen = refl
