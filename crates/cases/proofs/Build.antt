-- Files built from their records, byte for byte; short forms for what a theorem says of a file; and what its proof opens.
use mathlib.Core.Option.{Option, some, none}
use mathlib.Core.List.{List, [], ◌∷◌, ◌++◌}
use Prim.Native.Nat.{ℕ, zero, suc, ◌-◌, ◌/◌, ◌%◌, ◌^◌}
use Prim.Native.Char.{code}
use Prim.Native.String.{String, [] as []ˢ, ◌∷◌ as ◌∷ˢ◌}
use lib.IntN.{ℤ, pos, negsuc, neg_ℤ}
use Rattle.lists.specs.Lists.{concat_map}
use Rattle.spec.specs.Domain.{domains, total, too_many}
use Rattle.spec.specs.Kind.{kind_of}
use Rattle.spec.specs.Record.{record_of, parts_of, records_of, spec_of, decoded}
use Rattle.spec.specs.Refusal.{Refused, records_fault, file_fault}
use Rattle.compose.specs.Force.{forcing_order, force}
use Rattle.compose.specs.Maps.{allowed_lists, cyclic, field_order, childless}
use Rattle.compose.specs.Tuples.{lists_of, order_of, map_of, maps_hold, emitted}
use Rattle.evaluate.specs.Verdict.{Verdict}
use Rattle.classifier.specs.Count.{verdict_of, verdicts, passed_count, counts_of, scratch_for, engine_fault, count_fault, count_answer}
use Rattle.classifier.specs.Page.{due, page_fault, page_of, page_answer, page_words, page_output}
use Rattle.join.specs.Join.{move_bytes, sum_bytes, join_parts, join_bytes, join_spec, join_fault, join_answer, join_output}
use Rattle.listing.specs.Text.{decimal, verdict_line, end_line, refused_line, listing}

abbrev pub minus : ℕ → ℤ
minus n = neg_ℤ (pos n)

-- ---- bytes
-- The lowest bytes of n, least significant first.
abbrev pub low_bytes : (count : ℕ) → ℕ → List ℕ
low_bytes zero n = []
low_bytes (suc count) n = n % 256 ∷ low_bytes count (n / 256)

-- A signed 64-bit little-endian number.
abbrev pub word : ℤ → List ℕ
word (pos n) = low_bytes 8 n
word (negsuc n) = low_bytes 8 (2 ^ 64 - suc n)

-- A record: kind, a, b, five zero bytes, then p, q, r.
abbrev pub rec : (kind a b : ℕ) (p q r : ℤ) → List ℕ
rec kind a b p q r = kind ∷ a ∷ b ∷ 0 ∷ 0 ∷ 0 ∷ 0 ∷ 0 ∷ (word p ++ (word q ++ word r))

abbrev pub file : List (List ℕ) → List ℕ
file records = concat_map (λ bytes. bytes) records

-- The bytes of a text.
abbrev pub ascii : String → List ℕ
ascii []ˢ = []
ascii (c ∷ˢ text) = code c ∷ ascii text

-- A text of lines, each ended by a newline.
abbrev pub lines : List String → List ℕ
lines texts = concat_map (λ text. ascii text ++ (10 ∷ [])) texts

-- ---- records
-- One that uses a, b and p at most.
abbrev pub short : (kind a b : ℕ) (p : ℤ) → List ℕ
short kind a b p = rec kind a b p (pos 0) (pos 0)

abbrev pub no_range : (a : ℕ) → List ℕ
no_range a = short 1 a 0 (pos 0)

abbrev pub ranged : (a : ℕ) (p q : ℤ) → List ℕ
ranged a p q = rec 1 a 1 p q (pos 0)

abbrev pub stepped : (a : ℕ) (p q r : ℤ) → List ℕ
stepped a p q r = rec 1 a 1 p q r

abbrev pub listed : (a : ℕ) → List ℕ
listed a = short 1 a 2 (pos 0)

abbrev pub value : (a : ℕ) (p : ℤ) → List ℕ
value a p = short 2 a 0 p

abbrev pub range : (a : ℕ) (p q : ℤ) → List ℕ
range a p q = rec 10 a 0 p q (pos 0)

abbrev pub even : (a : ℕ) → List ℕ
even a = short 11 a 0 (pos 0)

abbrev pub eq : (a b : ℕ) → List ℕ
eq a b = short 12 a b (pos 0)

abbrev pub neq : (a b : ℕ) → List ℕ
neq a b = short 13 a b (pos 0)

abbrev pub lt : (a : ℕ) (p : ℤ) → List ℕ
lt a p = short 14 a 0 p

abbrev pub gt : (a : ℕ) (p : ℤ) → List ℕ
gt a p = short 15 a 0 p

abbrev pub le : (a : ℕ) (p : ℤ) → List ℕ
le a p = short 16 a 0 p

abbrev pub ge : (a : ℕ) (p : ℤ) → List ℕ
ge a p = short 17 a 0 p

abbrev pub oneof : (a : ℕ) → List ℕ
oneof a = short 18 a 0 (pos 0)

abbrev pub item : (p : ℤ) → List ℕ
item p = short 3 0 0 p

abbrev pub cross : (parent child : ℕ) → List ℕ
cross parent child = short 19 parent child (pos 0)

abbrev pub pair : (p q : ℤ) → List ℕ
pair p q = rec 4 0 0 p q (pos 0)

abbrev pub key : (p : ℤ) → List ℕ
key p = short 5 0 0 p

abbrev pub enable_mask : (a : ℕ) (p : ℤ) → List ℕ
enable_mask a p = short 20 a 0 p

abbrev pub disable : (a : ℕ) → List ℕ
disable a = short 6 a 0 (pos 0)

abbrev pub bitmask : (a : ℕ) (mask value : ℤ) → List ℕ
bitmask a mask value = rec 21 a 0 mask value (pos 0)

abbrev pub enable_set : (a : ℕ) (p : ℤ) → List ℕ
enable_set a p = short 22 a 0 p

abbrev pub assign : (a : ℕ) (p : ℤ) → List ℕ
assign a p = short 7 a 0 p

abbrev pub sum : List ℕ
sum = short 30 0 0 (pos 0)

abbrev pub identity : (a : ℕ) → List ℕ
identity a = short 31 a 0 (pos 0)

abbrev pub parity : (a : ℕ) → List ℕ
parity a = short 32 a 0 (pos 0)

abbrev pub decompose : (a : ℕ) (base offset : ℤ) → List ℕ
decompose a base offset = rec 33 a 0 base offset (pos 0)

abbrev pub axis : (width shift : ℕ) (radix : ℤ) → List ℕ
axis width shift radix = short 8 width shift radix

-- A field whose only value is p.
abbrev pub only : (a : ℕ) (p : ℤ) → List ℕ
only a p = ranged a p p

-- A field whose values are 0 and 1.
abbrev pub bit : (a : ℕ) → List ℕ
bit a = ranged a (pos 0) (pos 1)

-- A file that is only a sum.
abbrev pub lone_sum : List ℕ
lone_sum = file (sum ∷ [])

-- ---- refusals and verdicts
-- Refused: number, record.
abbrev pub refusal : (number at : ℕ) → Option Refused
refusal number at = some (record { number = number; at = at })

-- A verdict that is printed P.
abbrev pub passes : (projection : Option ℤ) (values : List ℤ) → Verdict
passes projection values = record { place = 0; projection = projection; values = values }

-- A verdict that is printed F.
abbrev pub fails : (place : ℕ) (values : List ℤ) → Verdict
fails place values = record { place = place; projection = none; values = values }

-- ---- what a proof opens
-- To name one of these in an `unfolding` line is to name all the definitions in its own.
unfoldable pub decoding : Unit {0}
unfolding decoded spec_of records_of parts_of record_of kind_of
decoding = tt

unfoldable pub judging : Unit {0}
unfolding decoding file_fault records_fault too_many total count_fault scratch_for domains engine_fault cyclic childless allowed_lists
judging = tt

unfoldable pub emitting : Unit {0}
unfolding decoding emitted lists_of order_of map_of domains allowed_lists field_order maps_hold
emitting = tt

unfoldable pub evaluating : Unit {0}
unfolding emitting verdicts verdict_of force forcing_order
evaluating = tt

unfoldable pub counting : Unit {0}
unfolding judging evaluating count_answer counts_of passed_count
counting = tt

unfoldable pub printing : Unit {0}
unfolding counting listing verdict_line end_line refused_line decimal
printing = tt

unfoldable pub paging : Unit {0}
unfolding judging evaluating page_answer page_fault page_of due page_output page_words
paging = tt

unfoldable pub joining : Unit {0}
unfolding judging join_answer join_fault join_spec join_output join_bytes join_parts move_bytes sum_bytes
joining = tt
