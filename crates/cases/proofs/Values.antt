-- Domains, allowed lists and projections that no starred case shows.
use mathlib.Core.Path.{◌≡◌, refl}
use mathlib.Core.Option.{none, some}
use mathlib.Core.List.{List, [], ◌∷◌, ◌++◌, map}
use Prim.Native.Nat.{ℕ, ◌+◌, ◌-◌, ◌*◌, ◌^◌}
use lib.IntN.{ℤ, pos}
use lib.ListN.{replicate}
use Rattle.lists.specs.Lists.{upto}
use Rattle.spec.specs.Domain.{domains}
use Rattle.spec.specs.Record.{decoded}
use Rattle.spec.specs.Refusal.{file_fault}
use Rattle.spec.specs.Spec.{Identity, Decompose, Axis}
use Rattle.spec.proofs.Accepted.{file_good}
use Rattle.registry.proofs.Valid.{PackingValid, packing_valid}
use Rattle.compose.specs.Maps.{allowed_lists, list_at}
use Rattle.compose.specs.Tuples.{Engine, structural, exhaustive}
use Rattle.classifier.specs.Count.{verdicts, count_fault}
use Rattle.cases.proofs.Build.{minus, rec, file, ranged, listed, value, range, even, lt, gt, le, ge, oneof, item, bitmask, enable_set, assign, sum, identity, decompose, axis, only, bit, passes, fails, decoding, judging, evaluating}

-- ---- form 0 with a step
abbrev step_only : (a : ℕ) (step : ℤ) → List ℕ
step_only a step = rec 1 a 0 (pos 0) (pos 0) step

a_step_without_range : domains (decoded (file (step_only 0 (pos 100) ∷ sum ∷ []))) ≡ (pos 0 ∷ pos 100 ∷ pos 200 ∷ []) ∷ []
unfolding decoding domains
a_step_without_range = refl

-- Field 1 has the step 256, so that its only value is 0, and is forced to v.
abbrev forced_on_step : (v : ℤ) → List ℕ
forced_on_step v = file (only 0 (pos 1) ∷ step_only 1 (pos 256) ∷ enable_set 0 (pos 1) ∷ assign 1 v ∷ sum ∷ [])

-- No range is asked for, but the step is.
the-field-check-of-a-step-without-range :
    (engine : Engine) →
    map (λ v. verdicts engine (decoded (forced_on_step v))) (pos 512 ∷ minus 256 ∷ pos 300 ∷ []) ≡
    (passes (some (pos 513)) (pos 1 ∷ pos 512 ∷ []) ∷ [])
    ∷ (passes (some (minus 255)) (pos 1 ∷ minus 256 ∷ []) ∷ [])
    ∷ (fails 2 (pos 1 ∷ pos 300 ∷ []) ∷ [])
    ∷ []
unfolding evaluating
the-field-check-of-a-step-without-range structural = refl
the-field-check-of-a-step-without-range exhaustive = refl

-- ---- filters
-- The allowed list of a field 0..5 under these constraints.
abbrev list_under : List (List ℕ) → List ℤ
list_under constraints = list_at (allowed_lists (decoded (file (ranged 0 (pos 0) (pos 5) ∷ (constraints ++ (sum ∷ [])))))) 0

-- What is kept stays in the domain's order.
range-oneof-and-bitmask-are-filters :
    map list_under
    ((range 0 (pos 2) (pos 3) ∷ [])
    ∷ (oneof 0 ∷ item (pos 4) ∷ item (pos 1) ∷ [])
    ∷ (bitmask 0 (pos 1) (pos 1) ∷ [])
    ∷ []) ≡
    (pos 2 ∷ pos 3 ∷ [])
    ∷ (pos 1 ∷ pos 4 ∷ [])
    ∷ (pos 1 ∷ pos 3 ∷ pos 5 ∷ [])
    ∷ []
unfolding decoding allowed_lists
range-oneof-and-bitmask-are-filters = refl

other_checks_are_no_filters : map (λ check. list_under (check ∷ [])) (even 0 ∷ lt 0 (pos 2) ∷ gt 0 (pos 2) ∷ le 0 (pos 2) ∷ ge 0 (pos 2) ∷ []) ≡ replicate 5 (map pos (upto 6))
unfolding decoding allowed_lists
other_checks_are_no_filters = refl

-- Of 1, 3 and 5 the range keeps 3 and 5.
each_filter_takes_what_the_one_before_kept : list_under (bitmask 0 (pos 1) (pos 1) ∷ range 0 (pos 2) (pos 5) ∷ []) ≡ pos 3 ∷ pos 5 ∷ []
unfolding decoding allowed_lists
each_filter_takes_what_the_one_before_kept = refl

-- No value is in 0..2 and has bit 2: the later of the two filters would keep none.
filters-act-in-file-order :
    map list_under ((range 0 (pos 0) (pos 2) ∷ bitmask 0 (pos 4) (pos 4) ∷ []) ∷ (bitmask 0 (pos 4) (pos 4) ∷ range 0 (pos 0) (pos 2) ∷ []) ∷ []) ≡
    (pos 0 ∷ pos 1 ∷ pos 2 ∷ []) ∷ (pos 4 ∷ pos 5 ∷ []) ∷ []
unfolding decoding allowed_lists
filters-act-in-file-order = refl

a_filter_narrows_its_own_field : allowed_lists (decoded (file (bit 0 ∷ bit 1 ∷ range 1 (pos 1) (pos 1) ∷ sum ∷ []))) ≡ (pos 0 ∷ pos 1 ∷ []) ∷ (pos 1 ∷ []) ∷ []
unfolding decoding allowed_lists
a_filter_narrows_its_own_field = refl

-- ---- projections
-- Field 1 is 5 or 7, and forced to 7.
abbrev identical : List ℕ
identical = file (only 0 (pos 1) ∷ listed 1 ∷ value 1 (pos 5) ∷ value 1 (pos 7) ∷ enable_set 0 (pos 1) ∷ assign 1 (pos 7) ∷ identity 1 ∷ [])

identity_is_decoded : (decoded identical).projector ≡ Identity 1
unfolding decoding
identity_is_decoded = refl

identity_gives_the_forced_value : (engine : Engine) → verdicts engine (decoded identical) ≡ replicate 2 (passes (some (pos 7)) (pos 1 ∷ pos 7 ∷ []))
unfolding evaluating
identity_gives_the_forced_value structural = refl
identity_gives_the_forced_value exhaustive = refl

-- Offset 60: 7 × 2^60 + 7 is below 2^63, and 8 × 2^60 is 2^63.
abbrev from60 : List ℕ
from60 = file (listed 0 ∷ value 0 (pos 7) ∷ value 0 (pos 8) ∷ decompose 0 (pos 0) (pos 60) ∷ axis 4 0 (pos 0) ∷ [])

decompose_is_decoded : (decoded from60).projector ≡ Decompose 0 (pos 0) (some 60) (Axis 4 0 0 ∷ [])
unfolding decoding
decompose_is_decoded = refl

from60_is_accepted : file_fault from60 ≡ none
unfolding judging
from60_is_accepted = refl

-- `packing_valid` applied.
from60_is_valid : PackingValid (some 60) (Axis 4 0 0 ∷ [])
from60_is_valid = packing_valid from60 (file_good from60 from60_is_accepted).whole 0 (pos 0) (some 60) (Axis 4 0 0 ∷ []) decompose_is_decoded

none-from-2-to-the-63-on :
    (engine : Engine) → verdicts engine (decoded from60) ≡ passes (some (pos (7 * 2 ^ 60 + 7))) (pos 7 ∷ []) ∷ passes none (pos 8 ∷ []) ∷ []
unfolding evaluating
none-from-2-to-the-63-on structural = refl
none-from-2-to-the-63-on exhaustive = refl

-- 62 axes, each of which takes the 1, and offset 62: bits 0 to 62 are 1.
abbrev all_bits : List ℕ
all_bits = file (only 0 (pos 1) ∷ decompose 0 (pos 0) (pos 62) ∷ map (λ shift. axis 1 shift (pos 0)) (upto 62))

the_greatest_projection : (engine : Engine) → verdicts engine (decoded all_bits) ≡ passes (some (pos (2 ^ 63 - 1))) (pos 1 ∷ []) ∷ []
unfolding evaluating
the_greatest_projection structural = refl
the_greatest_projection exhaustive = refl

-- Base −3, and no offset.
abbrev from_minus3 : List ℕ
from_minus3 = file (ranged 0 (minus 4) (minus 1) ∷ decompose 0 (minus 3) (minus 1) ∷ axis 2 5 (pos 0) ∷ [])

a-negative-base :
    (engine : Engine) →
    verdicts engine (decoded from_minus3) ≡
    passes none (minus 4 ∷ [])
    ∷ passes (some (pos 0)) (minus 3 ∷ [])
    ∷ passes (some (pos 32)) (minus 2 ∷ [])
    ∷ passes (some (pos 64)) (minus 1 ∷ [])
    ∷ []
unfolding evaluating
a-negative-base structural = refl
a-negative-base exhaustive = refl

-- Each file above whose verdicts are stated is accepted by both engines.
files_with_stated_verdicts_are_accepted : (engine : Engine) → map (count_fault engine 4) (forced_on_step (pos 300) ∷ identical ∷ from60 ∷ all_bits ∷ from_minus3 ∷ []) ≡ replicate 5 none
unfolding judging
files_with_stated_verdicts_are_accepted structural = refl
files_with_stated_verdicts_are_accepted exhaustive = refl
