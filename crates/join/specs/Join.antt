-- Joining two files: the bytes, the refusals, the output afterwards, and the place of a joined verdict.
use Rattle.std.specs.Prelude.{Bool, ◌&&◌, ◌||◌, cond, false, true, List, [], ◌++◌, ◌∷◌, map, ◌+◌, suc, ℕ, eqb, leb, ltb, ◌+ℤ◌, ℤ, drop, get_or, length, replicate, set}
use Rattle.std.proofs.Math.Option.{Option, none, some}
use Rattle.lists.specs.Lists.{concat_map, filter}
use Rattle.spec.specs.Domain.{too_many}
use Rattle.spec.specs.Kind.{Kind, Use, is_field, is_names, is_own, kind_of, row_of, section_of}
use Rattle.spec.specs.Record.{decoded, parts_of, record_of}
use Rattle.spec.specs.Refusal.{Answer, Refused, ◌▷◌, answer, file_fault, refuse, refuse_if, unless_refused}
use Rattle.spec.specs.Spec.{Assign, Check, ConstraintSpec, Cross, Decompose, Enable, Eq, FieldAssignment, Identity, Neq, Parity, ProjectorSpec, Spec, Sum}
use Rattle.evaluate.specs.Verdict.{Verdict}

-- ---- the joined bytes
-- The number of a field moves up by n; any other number stays.
abbrev pub moves : Use → Bool
moves u = is_own u || is_names u

abbrev pub add_if : Bool → ℕ → ℕ → ℕ
add_if true n a = n + a
add_if false n a = a

abbrev pub move_bytes_by : Kind → ℕ → List ℕ → List ℕ
move_bytes_by k n bytes =
    set (set bytes 1 (add_if (moves (row_of k (get_or bytes 2 0)).a) n (get_or bytes 1 0))) 2 (add_if (moves (row_of k (get_or bytes 2 0)).b) n (get_or bytes 2 0))

-- A record's 32 bytes, renumbered: the fields that it describes or names are n further.
unfoldable pub move_bytes : ℕ → List ℕ → List ℕ
move_bytes n bytes = move_bytes_by (kind_of (get_or bytes 0 0)) n bytes

-- The record of a sum.
unfoldable pub sum_bytes : List ℕ
sum_bytes = 30 ∷ replicate 31 0

-- The records of the fields, 0, or of the constraints, 1, with their members.
abbrev pub in_section : ℕ → List ℕ → Bool
in_section section bytes = eqb (section_of (record_of bytes).kind) section

abbrev pub section : ℕ → List ℕ → List (List ℕ)
section i file = filter (in_section i) (parts_of file)

abbrev pub field_count : List ℕ → ℕ
field_count file = length (filter (λ bytes. is_field (record_of bytes).kind) (parts_of file))

-- First's fields, second's renumbered, constraints likewise, one sum.
unfoldable pub join_parts : List ℕ → List ℕ → List (List ℕ)
join_parts first second =
    section 0 first
    ++ (map (move_bytes (field_count first)) (section 0 second)
    ++ (section 1 first
    ++ (map (move_bytes (field_count first)) (section 1 second)
    ++ (sum_bytes ∷ []))))

unfoldable pub join_bytes : List ℕ → List ℕ → List ℕ
join_bytes first second = concat_map (λ bytes. bytes) (join_parts first second)

-- ---- the joined specification
abbrev pub move_assignment : ℕ → FieldAssignment → FieldAssignment
move_assignment n (Assign f v) = Assign (n + f) v

abbrev pub move : ℕ → ConstraintSpec → ConstraintSpec
move n (Check f t) = Check (n + f) t
move n (Eq a b) = Eq (n + a) (n + b)
move n (Neq a b) = Neq (n + a) (n + b)
move n (Cross parent child entries) = Cross (n + parent) (n + child) entries
move n (Enable e f trigger writes) = Enable e (n + f) trigger (map (move_assignment n) writes)

unfoldable pub join_spec : Spec → Spec → Spec
join_spec s t = record { fields = s.fields ++ t.fields; constraints = s.constraints ++ map (move (length s.fields)) t.constraints; projector = Sum }

-- ---- refusals
pub data Which : Type 0 where
  first second joined : Which

-- Which file, number, record.
pub record JoinRefused : Type 0 where
  pub which : Which
  pub why : Refused

abbrev pub of : Which → Option Refused → Option JoinRefused
of w none = none
of w (some r) = some (record { which = w; why = r })

abbrev pub is_sum : ProjectorSpec → Bool
is_sum Sum = true
is_sum (Identity f) = false
is_sum (Parity f) = false
is_sum (Decompose f base offset axes) = false

-- The projector's record: the one after the fields and the constraints.
abbrev pub projector_at : List ℕ → ℕ
projector_at file = suc (length (filter (λ bytes. in_section 0 bytes || in_section 1 bytes) (parts_of file)))

-- 16: the projector is not a sum.
abbrev pub not_sum : List ℕ → Option Refused
not_sum file = cond (is_sum (decoded file).projector) none (refuse 16 (projector_at file))

abbrev pub too_many_records : Spec → Spec → Bool
too_many_records s t = ltb 32 (length s.fields + length t.fields) || ltb 256 (length s.constraints + length t.constraints)

-- 1 to 10 on the first, then the second; then 16 likewise; then 5, 1, 10, 14 for the joined file.
unfoldable pub join_fault : ℕ → List ℕ → List ℕ → Option JoinRefused
join_fault room f g =
    of first (file_fault f)
    ▷ of second (file_fault g)
    ▷ of first (not_sum f)
    ▷ of second (not_sum g)
    ▷ of joined (refuse_if (too_many_records (decoded f) (decoded g)) 5)
    ▷ of joined (refuse_if (ltb 65536 (length (join_bytes f g))) 1)
    ▷ of joined (refuse_if (too_many (join_spec (decoded f) (decoded g))) 10)
    ▷ of joined (refuse_if (ltb room (length (join_bytes f g))) 14)

-- ---- answer and output
-- The length of the joined file, or the refusal.
unfoldable pub join_answer : ℕ → List ℕ → List ℕ → Answer JoinRefused ℕ
join_answer room f g = answer (join_fault room f g) (length (join_bytes f g))

-- The whole output afterwards: the joined bytes, later bytes unchanged; after a refusal all of it.
unfoldable pub join_output : List ℕ → List ℕ → List ℕ → List ℕ
join_output f g old = unless_refused (join_fault (length old) f g) (join_bytes f g ++ drop (length (join_bytes f g)) old) old

-- ---- the place of a joined verdict
-- From 1 to n.
abbrev pub among : ℕ → ℕ → Bool
among s n = leb 1 s && leb s n

-- The first file has n fields and c constraints, the second m fields, and the two verdicts have places s and t:
-- 0 if both are 0; else s if s is 1 to n; else t + n if t is 1 to m; else s + m if s is above n; else t + n + c.
unfoldable pub join_place : (n m c s t : ℕ) → ℕ
join_place n m c s t = cond (eqb s 0 && eqb t 0) 0 (cond (among s n) s (cond (among t m) (t + n) (cond (ltb n s) (s + m) (t + n + c))))

-- ---- the verdict that a verdict of the first file and one of the second come to
-- Two projections added; none where one is missing.
abbrev pub add_projections : Option ℤ → Option ℤ → Option ℤ
add_projections none q = none
add_projections (some x) none = none
add_projections (some x) (some y) = some (x +ℤ y)

-- The first's values and then the second's.
abbrev pub join_verdict : (n m c : ℕ) → Verdict → Verdict → Verdict
join_verdict n m c v w = record { place = join_place n m c v.place w.place; projection = add_projections v.projection w.projection; values = v.values ++ w.values }

abbrev pub joined_verdict : Spec → Spec → Verdict → Verdict → Verdict
joined_verdict s t = join_verdict (length s.fields) (length t.fields) (length s.constraints)
