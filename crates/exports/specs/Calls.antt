-- The calls from other languages: a status number comes back, and the answer stands in a lent array of numbers.
use Rattle.std.specs.Prelude.{Bool, false, true, ◌&&◌, ◌||◌, cond, List, [], ◌∷◌, ℕ, zero, suc, ◌-◌, leb, ltb, length, take}
use Rattle.lists.specs.Lists.{is_empty, suc_if}
use Rattle.spec.specs.Domain.{total}
use Rattle.spec.specs.Refusal.{Answer, Refused, accepted, refused}
use Rattle.spec.specs.Spec.{Spec}
use Rattle.compose.specs.Tuples.{Engine, exhaustive, structural, zeros}
use Rattle.classifier.specs.Count.{Counts, scratch_for}
use Rattle.classifier.specs.Page.{Page, Start, after_tuple, beginning}
use Rattle.join.specs.Join.{JoinRefused, Which, first, joined, second}

-- ---- engine and start
-- 0 is structural, 1 is exhaustive, and there is no other.
abbrev pub is_engine : ℕ → Bool
is_engine number = ltb number 2

abbrev pub engine_of : ℕ → Engine
engine_of zero = structural
engine_of (suc n) = exhaustive

-- No number is the beginning; 32 numbers, and any more are not looked at, are a tuple.
abbrev pub start_of : List ℕ → Start
start_of [] = beginning
start_of (x ∷ xs) = after_tuple (take 32 (x ∷ xs))

abbrev pub is_start : List ℕ → Bool
is_start numbers = is_empty numbers || leb 32 (length numbers)

-- ---- status
abbrev pub is_refused : {R A : Type 0} → Answer R A → Bool
is_refused (accepted x) = false
is_refused (refused r) = true

-- 0 accepted, 1 refused, 2 a lent array is too short, 3 no such engine.
abbrev pub status : {R A : Type 0} → (long known : Bool) → Answer R A → ℕ
status long known a = cond long (cond known (suc_if (is_refused a) 0) 3) 2

-- What a lent array holds afterwards: with 2 and 3 nothing is touched.
abbrev pub if_called : {A : Type 0} → (long known : Bool) → (new old : A) → A
if_called long known new old = cond (long && known) new old

-- ---- answers
-- The words of an answer, n in all; of a refusal its number and its record, then zeros.
abbrev pub answer_words : {A : Type 0} → ℕ → (A → List ℕ) → Answer Refused A → List ℕ
answer_words n words (accepted x) = words x
answer_words n words (refused r) = r.number ∷ r.at ∷ zeros (n - 2)

-- Of validate: fields, constraints, total, and the numbers of scratch that count and page ask for.
abbrev pub spec_words : Spec → List ℕ
spec_words s = length s.fields ∷ length s.constraints ∷ total s ∷ scratch_for s ∷ []

abbrev pub count_words : Counts → List ℕ
count_words c = c.total ∷ c.emitted ∷ c.passed ∷ c.failed ∷ []

-- How many verdicts, 1 if no verdict follows, the last tuple.
abbrev pub page_words : Page → List ℕ
page_words p = p.count ∷ suc_if p.done 0 ∷ p.last

abbrev pub which_number : Which → ℕ
which_number first = 1
which_number second = 2
which_number joined = 3

-- The length; or the number, the record, and the file that is refused.
abbrev pub join_words : Answer JoinRefused ℕ → List ℕ
join_words (accepted n) = n ∷ zeros 3
join_words (refused r) = r.why.number ∷ r.why.at ∷ which_number r.which ∷ zeros 1
