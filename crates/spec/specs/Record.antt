-- Records where they lie in a file, heads with their members, and the specification that they decode to.
use Rattle.std.specs.Prelude.{Bool, true, false, cond, List, [], ◌∷◌, map, ℕ, zero, suc, ◌*◌, ◌/◌, eqb, ℤ, pos, negsuc, nat_abs, length, get_or, take, drop}
use Rattle.std.proofs.Math.Option.{Option, none, some}
use mathlib.Core.List.{foldl}
use Rattle.lists.specs.Lists.{concat_map}
use Rattle.lists.specs.Integers.{little_endian, signed64}
use Rattle.spec.specs.Spec.{FieldSpec, Free, Ranged, Listed, Range, Even, Lt, Gt, Le, Ge, Oneof, Bitmask, Entry, Pair, Key, FieldAssignment, Assign, by_mask, by_set, ConstraintSpec, Check, Eq, Neq, Cross, Enable, AxisSpec, Axis, ProjectorSpec, Sum, Identity, Parity, Decompose, Spec}
use Rattle.spec.specs.Kind.{ConstraintKind, range, even, eq, neq, lt, gt, le, ge, oneof, cross, enable_mask, bitmask, enable_set, ProjectorKind, sum, identity, parity, decompose, Kind, field, unknown, constraint, projector, member, kind_of, is_member}

-- A record: kind, a, b, five bytes that no kind uses, then p, q, r.
pub record Record : Type 0 where
  pub code : ℕ  -- the kind's number
  pub kind : Kind
  pub a : ℕ
  pub b : ℕ
  pub padding : ℕ  -- the five bytes as one number
  pub p : ℤ
  pub q : ℤ
  pub r : ℤ

-- The signed 64-bit little-endian number at byte i.
abbrev pub word_at : List ℕ → ℕ → ℤ
word_at bytes i = signed64 (little_endian (take 8 (drop i bytes)))

-- The record that 32 bytes are.
unfoldable pub record_of : List ℕ → Record
record_of bytes = record {
  code = get_or bytes 0 0;
  kind = kind_of (get_or bytes 0 0);
  a = get_or bytes 1 0;
  b = get_or bytes 2 0;
  padding = little_endian (take 5 (drop 3 bytes));
  p = word_at bytes 8;
  q = word_at bytes 16;
  r = word_at bytes 24;
}

abbrev pub chunks : ℕ → List ℕ → List (List ℕ)
chunks zero bytes = []
chunks (suc n) bytes = take 32 bytes ∷ chunks n (drop 32 bytes)

-- The 32-byte parts of a file.
unfoldable pub parts_of : List ℕ → List (List ℕ)
parts_of file = chunks (length file / 32) file

unfoldable pub records_of : List ℕ → List Record
records_of file = map record_of (parts_of file)

-- Record i of a file, counting from 0.
abbrev pub record_at : List ℕ → ℕ → Record
record_at file i = record_of (take 32 (drop (i * 32) file))

abbrev pub while_member : Bool → Record → List Record → List Record
while_member true m ms = m ∷ ms
while_member false m ms = []

-- The run of members at the front of a list of records.
abbrev pub member_run : List Record → List Record
member_run [] = []
member_run (m ∷ ms) = while_member (is_member m.kind) m (member_run ms)

-- A head and the run of members after it.
pub data Group : Type 0 where
  group : (head : Record) (members : List Record) → Group

abbrev pub unless_member : Bool → Record → List Record → List Group → List Group
unless_member true h ms gs = gs
unless_member false h ms gs = group h ms ∷ gs

-- Every head with its members, in file order.
abbrev pub groups : List Record → List Group
groups [] = []
groups (h ∷ hs) = unless_member (is_member h.kind) h (member_run hs) (groups hs)

-- A head's place, before the others; none of a member.
abbrev pub unless_inside : Bool → ℕ → List ℕ → List ℕ
unless_inside true i places = places
unless_inside false i places = i ∷ places

-- Where the heads of records stand, the first of which is number i, and behind them the end.
abbrev pub heads_from : ℕ → List Record → List ℕ
heads_from i [] = i ∷ []
heads_from i (m ∷ ms) = unless_inside (is_member m.kind) i (heads_from (suc i) ms)

-- Where the heads of a file stand, and behind them its end.
unfoldable pub heads_of : List ℕ → List ℕ
heads_of file = heads_from 0 (records_of file)

-- ---- decoding
abbrev pub field_by : ℕ → Record → List Record → FieldSpec
field_by zero h ms = Free (nat_abs h.r)
field_by (suc zero) h ms = Ranged h.p h.q (nat_abs h.r)
field_by (suc (suc k)) h ms = Listed (map (λ m. m.p) ms)

-- A member of a cross: 4 is a pair, 5 a key.
abbrev pub entry_of : Record → Entry
entry_of m = cond (eqb m.code 4) (Pair m.p m.q) (Key m.p)

-- A member of an enable record. A disable does not use p, which is 0: it writes 0.
abbrev pub assignment_of : Record → FieldAssignment
assignment_of m = Assign m.a m.p

abbrev pub constraint_by : ConstraintKind → Record → List Record → ConstraintSpec
constraint_by range h ms = Check h.a (Range h.p h.q)
constraint_by even h ms = Check h.a Even
constraint_by eq h ms = Eq h.a h.b
constraint_by neq h ms = Neq h.a h.b
constraint_by lt h ms = Check h.a (Lt h.p)
constraint_by gt h ms = Check h.a (Gt h.p)
constraint_by le h ms = Check h.a (Le h.p)
constraint_by ge h ms = Check h.a (Ge h.p)
constraint_by oneof h ms = Check h.a (Oneof (map (λ m. m.p) ms))
constraint_by cross h ms = Cross h.a h.b (map entry_of ms)
constraint_by enable_mask h ms = Enable by_mask h.a h.p (map assignment_of ms)
constraint_by bitmask h ms = Check h.a (Bitmask (nat_abs h.p) h.q)
constraint_by enable_set h ms = Enable by_set h.a h.p (map assignment_of ms)

-- −1 is absent.
abbrev pub offset_by : ℤ → Option ℕ
offset_by (pos k) = some k
offset_by (negsuc k) = none

abbrev pub axis_of : Record → AxisSpec
axis_of m = Axis m.a m.b (nat_abs m.p)

abbrev pub projector_by : ProjectorKind → Record → List Record → ProjectorSpec
projector_by sum h ms = Sum
projector_by identity h ms = Identity h.a
projector_by parity h ms = Parity h.a
projector_by decompose h ms = Decompose h.a h.p (offset_by h.q) (map axis_of ms)

abbrev pub field_in : Kind → Record → List Record → List FieldSpec
field_in field h ms = field_by h.b h ms ∷ []
field_in unknown h ms = []
field_in (constraint k) h ms = []
field_in (projector k) h ms = []
field_in (member k) h ms = []

abbrev pub constraint_in : Kind → Record → List Record → List ConstraintSpec
constraint_in field h ms = []
constraint_in unknown h ms = []
constraint_in (constraint k) h ms = constraint_by k h ms ∷ []
constraint_in (projector k) h ms = []
constraint_in (member k) h ms = []

abbrev pub projector_in : Kind → Record → List Record → ProjectorSpec → ProjectorSpec
projector_in field h ms d = d
projector_in unknown h ms d = d
projector_in (constraint k) h ms d = d
projector_in (projector k) h ms d = projector_by k h ms
projector_in (member k) h ms d = d

abbrev pub field_of : Group → List FieldSpec
field_of (group h ms) = field_in h.kind h ms

abbrev pub constraint_of : Group → List ConstraintSpec
constraint_of (group h ms) = constraint_in h.kind h ms

abbrev pub projector_of : ProjectorSpec → Group → ProjectorSpec
projector_of d (group h ms) = projector_in h.kind h ms d

unfoldable pub spec_of : List Group → Spec
spec_of gs = record { fields = concat_map field_of gs; constraints = concat_map constraint_of gs; projector = foldl projector_of Sum gs }

-- The specification of a file.
unfoldable pub decoded : List ℕ → Spec
decoded file = spec_of (groups (records_of file))
