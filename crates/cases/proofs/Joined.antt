-- `join_multiplies` applied: its premises are met, and its conclusion says something.
use mathlib.Core.List.{List, [], ◌∷◌}
use mathlib.Core.Option.{none, some}
use mathlib.Core.Path.{◌∙◌, ◌≡◌, ap₂, refl}
use Prim.Native.Nat.{◌*◌, ◌<◌, ℕ}
use native.Mathlib.Omega.{arith}
use lib.Dec.{lit<}
use lib.IntN.{pos}
use lib.ListN.{length, take}
use Rattle.spec.specs.Record.{decoded}
use Rattle.compose.specs.Tuples.{Engine, exhaustive, structural}
use Rattle.classifier.specs.Count.{Accepts, counts_of, verdicts}
use Rattle.join.specs.Join.{join_bytes, join_fault}
use Rattle.join.proofs.Multiplies.{JoinMultiplies, join_multiplies, nth}
use Rattle.cases.proofs.Sample.{sample}
use Rattle.cases.proofs.Build.{assign, counting, cross, decoding, enable_set, evaluating, even, fails, file, joining, judging, listed, pair, passes, ranged, sum, value}

-- ---- the bench file joined with itself
sample_accepted : (engine : Engine) → Accepts engine sample
unfolding judging
sample_accepted structural = refl
sample_accepted exhaustive = refl

sample_has_fields : 0 < length (decoded sample).fields
unfolding decoding
sample_has_fields = lit< tt

-- 21 records.
sample_joins : join_fault 672 sample sample ≡ none
unfolding joining
sample_joins = refl

sample_twice : (engine : Engine) → JoinMultiplies engine sample sample
sample_twice engine = join_multiplies engine sample sample 672 (sample_accepted engine) (sample_accepted engine) sample_has_fields sample_has_fields sample_joins

sample_counts : ((counts_of structural (decoded sample)).total ≡ 9) × ((counts_of structural (decoded sample)).emitted ≡ 7) × ((counts_of structural (decoded sample)).passed ≡ 5)
unfolding counting
sample_counts = (refl, refl, refl)

-- 9 × 9, 7 × 7 and 5 × 5, without listing the joined file.
sample_twice_total : (counts_of structural (decoded (join_bytes sample sample))).total ≡ 81
sample_twice_total = (sample_twice structural).total ∙ ap₂ ◌*◌ sample_counts.0 sample_counts.0

sample_twice_emitted : (counts_of structural (decoded (join_bytes sample sample))).emitted ≡ 49
sample_twice_emitted = (sample_twice structural).emitted ∙ ap₂ ◌*◌ sample_counts.1 sample_counts.1

sample_twice_passed : (counts_of structural (decoded (join_bytes sample sample))).passed ≡ 25
sample_twice_passed = (sample_twice structural).passed ∙ ap₂ ◌*◌ sample_counts.2 sample_counts.2

-- ---- a second file with a map against the field order, forcing and a failing constraint
-- Field 1 lets field 0 have 0 under 3 and 1 under 4; where field 0 is 1, field 1 becomes 4; field 1 is even.
abbrev other : List ℕ
other = file
    (ranged 0 (pos 0) (pos 1)
    ∷ listed 1 ∷ value 1 (pos 3) ∷ value 1 (pos 4)
    ∷ cross 1 0 ∷ pair (pos 3) (pos 0) ∷ pair (pos 4) (pos 1)
    ∷ enable_set 0 (pos 1) ∷ assign 1 (pos 4)
    ∷ even 1
    ∷ sum ∷ [])

other_accepted : (engine : Engine) → Accepts engine other
unfolding judging
other_accepted structural = refl
other_accepted exhaustive = refl

other_has_fields : 0 < length (decoded other).fields
unfolding decoding
other_has_fields = lit< tt

other_verdicts : verdicts structural (decoded other) ≡ fails 5 (pos 0 ∷ pos 3 ∷ []) ∷ passes (some (pos 5)) (pos 1 ∷ pos 4 ∷ []) ∷ []
unfolding evaluating
other_verdicts = refl

sample_joins_other : join_fault 672 sample other ≡ none
unfolding joining
sample_joins_other = refl

sample_and_other : (engine : Engine) → JoinMultiplies engine sample other
sample_and_other engine = join_multiplies engine sample other 672 (sample_accepted engine) (other_accepted engine) sample_has_fields other_has_fields sample_joins_other

-- Verdict (4 − 1) × 2 + 1 comes from the bench file's fourth, place 5, and the other's first, place 5: the first file's constraint counts, 5 + 2.
seventh_place : (nth (verdicts structural (decoded (join_bytes sample other))) 7).place ≡ 7
unfolding evaluating joining
seventh_place = ((sample_and_other structural).each 4 1 (lit< tt, lit< tt) (lit< tt, lit< tt)).place.first_constraint (lit< tt) (λ a. let h = a.1 in absurd (omega arith))

-- The joined listing's first four verdicts: the bench file's first and second, each with the other's two.
joined_front : take 4 (verdicts structural (decoded (join_bytes sample other))) ≡
    fails 10 (pos 0 ∷ pos 0 ∷ pos 0 ∷ pos 3 ∷ [])
    ∷ passes (some (pos 5)) (pos 0 ∷ pos 0 ∷ pos 1 ∷ pos 4 ∷ [])
    ∷ fails 10 (pos 0 ∷ pos 1 ∷ pos 0 ∷ pos 3 ∷ [])
    ∷ passes (some (pos 6)) (pos 0 ∷ pos 1 ∷ pos 1 ∷ pos 4 ∷ [])
    ∷ []
unfolding evaluating joining
joined_front = refl
