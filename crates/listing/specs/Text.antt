-- The printed text, as bytes. One space parts the fields of a line.
use Rattle.std.specs.Prelude.{Bool, true, false, List, [], ◌∷◌, ◌++◌, ℕ, zero, suc, ◌+◌, ◌/◌, ◌%◌, ltb, ℤ, pos, negsuc}
use Rattle.std.proofs.Math.Option.{Option, none, some}
use Rattle.lists.specs.Lists.{concat_map}
use Rattle.spec.specs.Record.{decoded}
use Rattle.spec.specs.Refusal.{Refused, Answer, refused, accepted}
use Rattle.spec.specs.Shape.{Shape}
use Rattle.compose.specs.Tuples.{Engine}
use Rattle.evaluate.specs.Verdict.{Verdict, passed}
use Rattle.classifier.specs.Count.{verdicts, Counts, count_answer}

-- The digits of n in base ten; `last` says that n is below ten. The count of digits to go never runs out, since n itself serves.
abbrev pub digits_of : ℕ → (last : Bool) → ℕ → List ℕ
digits_of zero last n = []
digits_of (suc k) true n = (48 + n) ∷ []
digits_of (suc k) false n = digits_of k (ltb (n / 10) 10) (n / 10) ++ ((48 + n % 10) ∷ [])

-- A number in base ten.
unfoldable pub decimal : ℕ → List ℕ
decimal n = digits_of (suc n) (ltb n 10) n

-- A minus sign before a negative number.
abbrev pub signed_decimal : ℤ → List ℕ
signed_decimal (pos n) = decimal n
signed_decimal (negsuc n) = 45 ∷ decimal (suc n)

-- A field after the first: a space before it.
abbrev pub spaced : List ℕ → List ℕ
spaced text = 32 ∷ text

-- P or F.
abbrev pub passed_letter : Bool → ℕ
passed_letter true = 80
passed_letter false = 70

-- The projection, or -.
abbrev pub projection_text : Option ℤ → List ℕ
projection_text none = 45 ∷ []
projection_text (some v) = signed_decimal v

abbrev pub newline : List ℕ
newline = 10 ∷ []

-- P or F, place, projection or -, values.
unfoldable pub verdict_line : Verdict → List ℕ
verdict_line v =
    passed_letter (passed v) ∷ (spaced (decimal v.place) ++ (spaced (projection_text v.projection) ++ (concat_map (λ x. spaced (signed_decimal x)) v.values ++ newline)))

-- The word end.
abbrev pub end_word : List ℕ
end_word = 101 ∷ 110 ∷ 100 ∷ []

-- end, total, emitted, passed, failed.
unfoldable pub end_line : Counts → List ℕ
end_line c = end_word ++ (spaced (decimal c.total) ++ (spaced (decimal c.emitted) ++ (spaced (decimal c.passed) ++ (spaced (decimal c.failed) ++ newline))))

-- The word refused.
abbrev pub refused_word : List ℕ
refused_word = 114 ∷ 101 ∷ 102 ∷ 117 ∷ 115 ∷ 101 ∷ 100 ∷ []

abbrev pub refusal : ℕ → ℕ → Refused
refusal number recordNumber = record { number = number; at = recordNumber }

-- refused, number, record.
unfoldable pub refused_line : Refused → List ℕ
refused_line r = refused_word ++ (spaced (decimal r.number) ++ (spaced (decimal r.at) ++ newline))

-- The word accepted.
abbrev pub accepted_word : List ℕ
accepted_word = 97 ∷ 99 ∷ 99 ∷ 101 ∷ 112 ∷ 116 ∷ 101 ∷ 100 ∷ []

-- accepted, total.
unfoldable pub accepted_line : ℕ → List ℕ
accepted_line total = accepted_word ++ (spaced (decimal total) ++ newline)

-- The line for what judging a file answers.
abbrev pub answer_line : Answer Refused Shape → List ℕ
answer_line (refused r) = refused_line r
answer_line (accepted shape) = accepted_line shape.total

abbrev pub listing_of : Answer Refused Counts → List Verdict → List ℕ
listing_of (refused r) vs = refused_line r
listing_of (accepted c) vs = concat_map verdict_line vs ++ end_line c

-- All that an engine's program prints for a file, lent so many numbers of scratch.
unfoldable pub listing : Engine → ℕ → List ℕ → List ℕ
listing engine scratch file = listing_of (count_answer engine scratch file) (verdicts engine (decoded file))
