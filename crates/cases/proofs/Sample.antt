-- The bench file of document 01's last case, from its bytes: its verdicts, counts, printed text, pages, scratch and joins.
use mathlib.Core.Path.{◌≡◌, refl}
use mathlib.Core.Bool.{Bool, true, false}
use mathlib.Core.Option.{none, some}
use mathlib.Core.List.{List, [], ◌∷◌, ◌++◌}
use Prim.Native.Nat.{ℕ}
use lib.IntN.{ℤ, pos}
use lib.ListN.{replicate}
use Rattle.spec.specs.Record.{decoded}
use Rattle.spec.specs.Refusal.{refused, accepted}
use Rattle.compose.specs.Tuples.{Engine, structural, exhaustive}
use Rattle.classifier.specs.Count.{verdicts, Counts, count_fault, count_answer, scratch_after}
use Rattle.classifier.specs.Page.{Page, Start, beginning, after_tuple, page_fault, page_answer, page_output}
use Rattle.join.specs.Join.{joined, join_bytes, join_fault, join_output}
use Rattle.listing.specs.Text.{listing}
use Rattle.cases.proofs.Build.{minus, file, lines, ranged, listed, value, even, lt, cross, pair, key, enable_mask, disable, sum, bit, lone_sum, refusal, passes, fails, judging, evaluating, counting, printing, paging, joining}
use Rattle.cases.proofs.Starred.{cycle_file}

-- Field 0 listed 0, 1, 2; field 1 range 0..2; cross 0→1 with pair 1, 2; enable_mask 0 is 2 disabling 1; lt 1 below 2; sum.
abbrev pub sample : List ℕ
sample = file
    (listed 0 ∷ value 0 (pos 0) ∷ value 0 (pos 1) ∷ value 0 (pos 2)
    ∷ ranged 1 (pos 0) (pos 2)
    ∷ cross 0 1 ∷ pair (pos 1) (pos 2)
    ∷ enable_mask 0 (pos 2) ∷ disable 1
    ∷ lt 1 (pos 2)
    ∷ sum ∷ [])

-- ---- judging
accepted_lent_6 : (engine : Engine) → count_fault engine 6 sample ≡ none
unfolding judging
accepted_lent_6 structural = refl
accepted_lent_6 exhaustive = refl

refused_lent_5 : (engine : Engine) → count_fault engine 5 sample ≡ refusal 11 0
unfolding judging
refused_lent_5 structural = refl
refused_lent_5 exhaustive = refl

-- ---- verdicts
structural-verdicts :
    verdicts structural (decoded sample) ≡
    passes (some (pos 0)) (pos 0 ∷ pos 0 ∷ [])
    ∷ passes (some (pos 1)) (pos 0 ∷ pos 1 ∷ [])
    ∷ fails 5 (pos 0 ∷ pos 2 ∷ [])
    ∷ fails 5 (pos 1 ∷ pos 2 ∷ [])
    ∷ passes (some (pos 2)) (pos 2 ∷ pos 0 ∷ [])
    ∷ passes (some (pos 2)) (pos 2 ∷ pos 0 ∷ [])
    ∷ passes (some (pos 2)) (pos 2 ∷ pos 0 ∷ [])
    ∷ []
unfolding evaluating
structural-verdicts = refl

-- ---- counts
abbrev counts : (total emitted passed failed : ℕ) → Counts
counts total emitted passed failed = record { total = total; emitted = emitted; passed = passed; failed = failed }

structural_counts : count_answer structural 6 sample ≡ accepted (counts 9 7 5 4)
unfolding counting
structural_counts = refl

exhaustive_counts : count_answer exhaustive 6 sample ≡ accepted (counts 9 9 5 4)
unfolding counting
exhaustive_counts = refl

-- ---- text
structural-text :
    listing structural 4096 sample ≡
    lines
    ("P 0 0 0 0"
    ∷ "P 0 1 0 1"
    ∷ "F 5 - 0 2"
    ∷ "F 5 - 1 2"
    ∷ "P 0 2 2 0"
    ∷ "P 0 2 2 0"
    ∷ "P 0 2 2 0"
    ∷ "end 9 7 5 4"
    ∷ [])
unfolding printing
structural-text = refl

-- Exhaustive lists 1 0 and 1 1 too, which fail the cross.
exhaustive-text :
    listing exhaustive 4096 sample ≡
    lines
    ("P 0 0 0 0"
    ∷ "P 0 1 0 1"
    ∷ "F 5 - 0 2"
    ∷ "F 3 - 1 0"
    ∷ "F 3 - 1 1"
    ∷ "F 5 - 1 2"
    ∷ "P 0 2 2 0"
    ∷ "P 0 2 2 0"
    ∷ "P 0 2 2 0"
    ∷ "end 9 9 5 4"
    ∷ [])
unfolding printing
exhaustive-text = refl

refused_text : (engine : Engine) → listing engine 5 sample ≡ lines ("refused 11 0" ∷ [])
unfolding printing
refused_text structural = refl
refused_text exhaustive = refl

-- ---- pages
-- A tuple of two indices as page takes and gives it: 32 numbers.
abbrev tuple : ℕ → ℕ → List ℕ
tuple i j = i ∷ j ∷ replicate 30 0

-- An output of which nothing is written yet.
abbrev blank : ℕ → List ℤ
blank n = replicate n (minus 99)

abbrev page : (count : ℕ) (last : List ℕ) (done : Bool) → Page
page count last done = record { count = count; last = last; done = done }

-- A verdict on two fields has 6 words: in 20 there is room for 3 verdicts.
page_from_the_beginning : page_answer structural 6 20 sample beginning ≡ accepted (page 3 (tuple 0 2) false)
unfolding paging
page_from_the_beginning = refl

-- The two later words are unchanged.
output-from-the-beginning :
    page_output structural 6 sample beginning (blank 20) ≡
    pos 1 ∷ pos 0 ∷ pos 1 ∷ pos 0 ∷ pos 0 ∷ pos 0
    ∷ pos 1 ∷ pos 0 ∷ pos 1 ∷ pos 1 ∷ pos 0 ∷ pos 1
    ∷ pos 0 ∷ pos 5 ∷ pos 0 ∷ pos 0 ∷ pos 0 ∷ pos 2
    ∷ minus 99 ∷ minus 99 ∷ []
unfolding paging
output-from-the-beginning = refl

-- Four verdicts follow 0 2.
page_after_0_2 : page_answer structural 6 24 sample (after_tuple (tuple 0 2)) ≡ accepted (page 4 (tuple 2 2) true)
unfolding paging
page_after_0_2 = refl

output-after-0-2 :
    page_output structural 6 sample (after_tuple (tuple 0 2)) (blank 24) ≡
    pos 0 ∷ pos 5 ∷ pos 0 ∷ pos 0 ∷ pos 1 ∷ pos 2
    ∷ pos 1 ∷ pos 0 ∷ pos 1 ∷ pos 2 ∷ pos 2 ∷ pos 0
    ∷ pos 1 ∷ pos 0 ∷ pos 1 ∷ pos 2 ∷ pos 2 ∷ pos 0
    ∷ pos 1 ∷ pos 0 ∷ pos 1 ∷ pos 2 ∷ pos 2 ∷ pos 0
    ∷ []
unfolding paging
output-after-0-2 = refl

-- After the last tuple nothing is written, and the last tuple is the start.
page_after_the_last : page_answer structural 6 6 sample (after_tuple (tuple 2 2)) ≡ accepted (page 0 (tuple 2 2) true)
unfolding paging
page_after_the_last = refl

-- 1 0 is no emitted tuple: the cross pairs 1 with 2 alone.
start_1_0_is_15 : page_answer structural 6 6 sample (after_tuple (tuple 1 0)) ≡ refused (record { number = 15; at = 0 })
unfolding paging
start_1_0_is_15 = refl

-- 0 2 is one, but past n a start is all 0.
start_0_2_9_is_15 : page_answer structural 6 6 sample (after_tuple (0 ∷ 2 ∷ 9 ∷ replicate 29 0)) ≡ refused (record { number = 15; at = 0 })
unfolding paging
start_0_2_9_is_15 = refl

-- 14 is judged before 15: whatever the start.
one_word_short_is_14 : (start : Start) → page_answer structural 6 5 sample start ≡ refused (record { number = 14; at = 0 })
unfolding paging
one_word_short_is_14 start = refl

-- Refused 11.
refused_page_leaves_the_output : page_output structural 5 sample beginning (blank 20) ≡ blank 20
unfolding paging
refused_page_leaves_the_output = refl

-- ---- scratch
abbrev lent : ℕ → List ℤ
lent n = replicate n (pos 7)

-- There is no projector.
scratch_after_4 : scratch_after (count_fault structural 6 (file (bit 0 ∷ []))) (lent 6) ≡ lent 6
unfolding judging
scratch_after_4 = refl

scratch_after_11 : scratch_after (count_fault structural 5 sample) (lent 5) ≡ lent 5
unfolding judging
scratch_after_11 = refl

scratch_after_12 : scratch_after (count_fault structural 6 cycle_file) (lent 6) ≡ replicate 6 (pos 0)
unfolding judging
scratch_after_12 = refl

-- Key 1 without pair, 1 allowed.
scratch_after_13 : scratch_after (count_fault structural 6 (file (bit 0 ∷ bit 1 ∷ cross 0 1 ∷ key (pos 1) ∷ sum ∷ []))) (lent 6) ≡ replicate 6 (pos 0)
unfolding judging
scratch_after_13 = refl

-- The output is one word short.
scratch_after_14 : scratch_after (page_fault structural 6 5 sample beginning) (lent 6) ≡ replicate 6 (pos 0)
unfolding paging
scratch_after_14 = refl

-- 1 0 is no emitted tuple.
scratch_after_15 : scratch_after (page_fault structural 6 6 sample (after_tuple (tuple 1 0))) (lent 6) ≡ replicate 6 (pos 0)
unfolding paging
scratch_after_15 = refl

scratch_after_acceptance : scratch_after (count_fault structural 9 sample) (lent 9) ≡ replicate 9 (pos 0)
unfolding judging
scratch_after_acceptance = refl

-- ---- joins
-- Joined with a file that is only a sum, on either side: the other file's bytes.
joined_with_a_lone_sum : join_bytes sample lone_sum ≡ sample
unfolding joining
joined_with_a_lone_sum = refl

joined_onto_a_lone_sum : join_bytes lone_sum sample ≡ sample
unfolding joining
joined_onto_a_lone_sum = refl

-- The bench file has 11 records, 352 bytes.
a_lone_sum_joins : join_fault 352 sample lone_sum ≡ none
unfolding joining
a_lone_sum_joins = refl

onto_a_lone_sum_joins : join_fault 352 lone_sum sample ≡ none
unfolding joining
onto_a_lone_sum_joins = refl

one_byte_short_is_14 : join_fault 351 sample lone_sum ≡ some (record { which = joined; why = record { number = 14; at = 0 } })
unfolding joining
one_byte_short_is_14 = refl

-- Later bytes are unchanged.
joined_output : join_output sample lone_sum (replicate 354 9) ≡ sample ++ (9 ∷ 9 ∷ [])
unfolding joining
joined_output = refl

-- First's fields, second's renumbered, constraints likewise, one sum.
joined-after-a-bit :
    join_bytes (file (bit 0 ∷ even 0 ∷ sum ∷ [])) sample ≡
    file
    (bit 0
    ∷ listed 1 ∷ value 1 (pos 0) ∷ value 1 (pos 1) ∷ value 1 (pos 2)
    ∷ ranged 2 (pos 0) (pos 2)
    ∷ even 0
    ∷ cross 1 2 ∷ pair (pos 1) (pos 2)
    ∷ enable_mask 1 (pos 2) ∷ disable 2
    ∷ lt 2 (pos 2)
    ∷ sum ∷ [])
unfolding joining
joined-after-a-bit = refl
