-- What page answers, and what it leaves in the output. The scratch afterwards is `scratch_after` of its fault.
use Rattle.std.specs.Prelude.{Bool, true, false, ◌&&◌, List, [], ◌∷◌, ◌++◌, ℕ, ◌+◌, ◌/◌, min, length, take, drop, leb, ltb, ℤ, pos}
use Rattle.std.proofs.Math.Option.{Option, none, some, get_or}
use Rattle.lists.specs.Lists.{concat_map, eq_list}
use Rattle.spec.specs.Spec.{Spec}
use Rattle.spec.specs.Record.{decoded}
use Rattle.spec.specs.Refusal.{Refused, refuse_if, ◌▷◌, Answer, answer, unless_refused}
use Rattle.compose.specs.Tuples.{Engine, zeros, emitted, padded}
use Rattle.evaluate.specs.Verdict.{Verdict, passed}
use Rattle.classifier.specs.Count.{verdict_of, count_fault}

-- ---- start
pub data Start : Type 0 where
  beginning : Start
  after_tuple : List ℕ → Start

abbrev pub rest_if : Bool → List (List ℕ) → Option (List (List ℕ)) → Option (List (List ℕ))
rest_if true ts later = some ts
rest_if false ts later = later

-- What follows a given tuple; none if it is not there.
abbrev pub following : List ℕ → List (List ℕ) → Option (List (List ℕ))
following t [] = none
following t (u ∷ ts) = rest_if (eq_list (padded u) t) ts (following t ts)

abbrev pub from_start : Start → List (List ℕ) → Option (List (List ℕ))
from_start beginning ts = some ts
from_start (after_tuple t) ts = following t ts

-- The emitted tuples that are due; none if the start is no emitted tuple.
unfoldable pub due : Engine → Spec → Start → Option (List (List ℕ))
due engine s start = from_start start (emitted engine s)

-- ---- words
abbrev pub flag : Bool → ℤ
flag true = pos 1
flag false = pos 0

abbrev pub projection_words : Option ℤ → List ℤ
projection_words none = pos 0 ∷ pos 0 ∷ []
projection_words (some v) = pos 1 ∷ v ∷ []

-- A verdict's words: passed, place, has projection, projection or 0, values.
abbrev pub words : Verdict → List ℤ
words v = flag (passed v) ∷ pos v.place ∷ (projection_words v.projection ++ v.values)

-- How many words a verdict on n fields has.
abbrev pub words_of : ℕ → ℕ
words_of n = n + 4

-- ---- faults
abbrev pub is_none : {A : Type 0} → Option A → Bool
is_none none = true
is_none (some x) = false

-- 14: the output is below n + 4 words, where there are fields.
abbrev pub output_short : Spec → ℕ → Bool
output_short s room = ltb 0 (length s.fields) && ltb room (words_of (length s.fields))

-- 1 to 15, lent so many numbers of scratch and so many words of output.
unfoldable pub page_fault : Engine → ℕ → ℕ → List ℕ → Start → Option Refused
page_fault engine scratch room file start =
    count_fault engine scratch file ▷ refuse_if (output_short (decoded file) room) 14 ▷ refuse_if (is_none (due engine (decoded file) start)) 15

-- ---- answer and output
-- How many verdicts, the last tuple, and whether no verdict follows.
pub record Page : Type 0 where
  pub count : ℕ
  pub last : List ℕ
  pub done : Bool

abbrev pub start_tuple : Start → List ℕ
start_tuple beginning = zeros 32
start_tuple (after_tuple t) = t

-- The last tuple; the start if there is none, all 0 for the beginning.
abbrev pub last_or : List ℕ → List (List ℕ) → List ℕ
last_or start [] = start
last_or start (t ∷ ts) = last_or (padded t) ts

abbrev pub due_tuples : Engine → Spec → Start → List (List ℕ)
due_tuples engine s start = get_or (due engine s start) []

-- The verdicts that fit.
abbrev pub fit_count : Spec → ℕ → List (List ℕ) → ℕ
fit_count s room ts = min (length ts) (room / words_of (length s.fields))

unfoldable pub page_of : Spec → ℕ → List (List ℕ) → Start → Page
page_of s room ts start = record { count = fit_count s room ts; last = last_or (start_tuple start) (take (fit_count s room ts) ts); done = leb (length ts) (fit_count s room ts) }

unfoldable pub page_answer : Engine → ℕ → ℕ → List ℕ → Start → Answer Refused Page
page_answer engine scratch room file start =
    answer (page_fault engine scratch room file start) (page_of (decoded file) room (due_tuples engine (decoded file) start) start)

-- The words of the verdicts that fit; later words are unchanged.
unfoldable pub page_words : Engine → Spec → ℕ → List (List ℕ) → List ℤ
page_words engine s room ts = concat_map (λ t. words (verdict_of engine s t)) (take (fit_count s room ts) ts)

-- The whole output afterwards; after a refusal it is unchanged.
unfoldable pub page_output : Engine → ℕ → List ℕ → Start → List ℤ → List ℤ
page_output engine scratch file start old =
    let new = page_words engine (decoded file) (length old) (due_tuples engine (decoded file) start) in
    unless_refused (page_fault engine scratch (length old) file start) (new ++ drop (length new) old) old
