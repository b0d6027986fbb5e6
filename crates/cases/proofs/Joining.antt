-- Join: what it answers, what it leaves in the output, and its refusals for the joined file.
use mathlib.Core.Path.{◌≡◌, refl}
use mathlib.Core.Option.{none, some}
use mathlib.Core.List.{List, [], ◌∷◌, ◌++◌, map}
use Prim.Native.Nat.{ℕ}
use lib.IntN.{pos}
use lib.ListN.{replicate}
use Rattle.lists.specs.Lists.{concat_map, upto}
use Rattle.spec.specs.Refusal.{refused, accepted}
use Rattle.join.specs.Join.{Which, first, second, joined, JoinRefused, join_fault, join_answer, join_output}
use Rattle.cases.proofs.Build.{file, no_range, ranged, even, oneof, item, sum, identity, only, bit, joining}
use Rattle.cases.proofs.Sample.{sample}

abbrev refused_for : Which → (number at : ℕ) → JoinRefused
refused_for which number at = record { which = which; why = record { number = number; at = at } }

abbrev for_joined : (number : ℕ) → JoinRefused
for_joined number = refused_for joined number 0

-- ---- answer and output
-- The bench file has 11 records. Joined with itself it has 21, since the two sums become one: 672 bytes. The output may be longer.
the_answer_is_the_joined_length : join_answer 674 sample sample ≡ accepted 672
unfolding joining
the_answer_is_the_joined_length = refl

the_answer_is_the_refusal : join_answer 671 sample sample ≡ refused (for_joined 14)
unfolding joining
the_answer_is_the_refusal = refl

-- Joined with itself it is refused 14; with a file without projector 4, and with an identity 16, for the second.
a-refused-join-leaves-the-output :
    map (λ other. join_output sample other (replicate 671 9)) (sample ∷ file (bit 0 ∷ []) ∷ file (bit 0 ∷ identity 0 ∷ []) ∷ []) ≡ replicate 3 (replicate 671 9)
unfolding joining
a-refused-join-leaves-the-output = refl

-- ---- the first file, the second, the joined file
-- Both have no projector; both have an identity.
the-first-file-comes-before-the-second :
    map (λ both. join_fault 0 both both) (file (bit 0 ∷ []) ∷ file (bit 0 ∷ identity 0 ∷ []) ∷ []) ≡ some (refused_for first 4 2) ∷ some (refused_for first 16 2) ∷ []
unfolding joining
the-first-file-comes-before-the-second = refl

-- The joined file would have 34 fields.
sixteen_comes_before_five : join_fault 0 (file (map bit (upto 17) ++ (sum ∷ []))) (file (map bit (upto 17) ++ (identity 0 ∷ []))) ≡ some (refused_for second 16 18)
unfolding joining
sixteen_comes_before_five = refl

-- ---- 5
-- A file of n fields, each with one value, and c constraints.
abbrev sized : (n c : ℕ) → List ℕ
sized n c = file (map (λ f. only f (pos 0)) (upto n) ++ (replicate c (even 0) ++ (sum ∷ [])))

fields_16-and_16-join : join_fault 65536 (sized 16 0) (sized 16 0) ≡ none
unfolding joining
fields_16-and_16-join = refl

fields_17-and_16-are_5 : join_fault 65536 (sized 17 0) (sized 16 0) ≡ some (for_joined 5)
unfolding joining
fields_17-and_16-are_5 = refl

constraints_128-and_128-join : join_fault 65536 (sized 1 128) (sized 1 128) ≡ none
unfolding joining
constraints_128-and_128-join = refl

constraints_128-and_129-are_5 : join_fault 65536 (sized 1 128) (sized 1 129) ≡ some (for_joined 5)
unfolding joining
constraints_128-and_129-are_5 = refl

-- ---- 1
-- A file of these fields, then k times a oneof with n items.
abbrev long : (fields : List (List ℕ)) (k n : ℕ) → List ℕ
long fields k n = file (fields ++ (concat_map (λ i. oneof 0 ∷ replicate n (item (pos 0))) (upto k) ++ (sum ∷ [])))

-- 1 + 33 × 31 records, 1 + 14 × 73, and a sum: 2,048, which are 65,536 bytes.
bytes_65536_join : join_fault 65536 (long (bit 0 ∷ []) 33 30) (long (bit 0 ∷ []) 14 72) ≡ none
unfolding joining
bytes_65536_join = refl

-- 2 + 14 × 73 records twice, and a sum: one record more. The joined total is 2^32, and no output is lent: 1 comes before 10 and 14.
bytes_65568_are_1 : join_fault 0 (long (no_range 0 ∷ no_range 1 ∷ []) 14 72) (long (no_range 0 ∷ no_range 1 ∷ []) 14 72) ≡ some (for_joined 1)
unfolding joining
bytes_65568_are_1 = refl

-- 17 fields of two values in each: the joined file has 34 fields, 2,079 records and a total of 2^34. 5 comes before 1, 10 and 14.
five_comes_before_one : join_fault 0 (long (map bit (upto 17)) 14 72) (long (map bit (upto 17)) 14 72) ≡ some (for_joined 5)
unfolding joining
five_comes_before_one = refl

-- ---- 10
-- A file of total m × n.
abbrev large : (m n : ℕ) → List ℕ
large m n = file (ranged 0 (pos 1) (pos m) ∷ ranged 1 (pos 1) (pos n) ∷ sum ∷ [])

total_10_to_the_9_joins : join_fault 160 (large 1000 100) (large 100 100) ≡ none
unfolding joining
total_10_to_the_9_joins = refl

-- No output is lent: 10 comes before 14.
total_10_to_the_10_is_10 : join_fault 0 (large 1000 100) (large 1000 100) ≡ some (for_joined 10)
unfolding joining
total_10_to_the_10_is_10 = refl
