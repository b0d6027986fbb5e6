-- What the code computes on the way, in terms of the definitions.
use Rattle.std.specs.Prelude.{Bool, true, false, cond, List, map, ◌≡◌, ℕ, zero, suc, ◌-◌, ◌/◌, ◌%◌, ◌≤◌, ◌<◌, ◌^◌, ltb, ℤ, nat_abs, pos, drop, length, take}
use Rattle.std.specs.Prelude as code
use Rattle.std.specs.Prelude.{Some, None}
use Rattle.std.proofs.Math.Option.{Option, none, some}
use Rattle.std.specs.Int.Signed.{le_z}
use Rattle.lists.proofs.All.{All}
use Rattle.spec.specs.Kind.{ConstraintKind, Kind, bitmask, constraint, cross, enable_mask, enable_set, eq, even, field, ge, gt, le, lt, member, neq, oneof, projector, range, unknown}
use Rattle.spec.specs.Record.{Group, Record, group, projector_by, record_at, records_of}
use Rattle.spec.specs.Refusal.{negative, on_scale}
use Rattle.spec.specs.Spec.{Bitmask, Even, Ge, Gt, Le, Lt, Oneof, Range, Test}
use Rattle.registry.specs.Check.{meets}
use Rattle.registry.specs.Project.{project}

-- ---- checks
-- The test of one value that a constraint is; none for eq, neq, cross and the enable records.
abbrev pub test_by : ConstraintKind → ℤ → ℤ → List Record → Option Test
test_by range p q ms = some (Range p q)
test_by even p q ms = some Even
test_by eq p q ms = none
test_by neq p q ms = none
test_by lt p q ms = some (Lt p)
test_by gt p q ms = some (Gt p)
test_by le p q ms = some (Le p)
test_by ge p q ms = some (Ge p)
test_by oneof p q ms = some (Oneof (map (λ m. m.p) ms))
test_by cross p q ms = none
test_by enable_mask p q ms = none
test_by bitmask p q ms = some (Bitmask (nat_abs p) q)
test_by enable_set p q ms = none

abbrev pub test_in : Kind → ℤ → ℤ → List Record → Option Test
test_in field p q ms = none
test_in unknown p q ms = none
test_in (constraint k) p q ms = test_by k p q ms
test_in (projector k) p q ms = none
test_in (member k) p q ms = none

abbrev pub passes : Option Test → ℤ → Bool
passes none v = true
passes (some t) v = meets t v

-- A bitmask's mask is not negative.
abbrev pub mask_by : ConstraintKind → ℤ → Bool
mask_by range p = true
mask_by even p = true
mask_by eq p = true
mask_by neq p = true
mask_by lt p = true
mask_by gt p = true
mask_by le p = true
mask_by ge p = true
mask_by oneof p = true
mask_by cross p = true
mask_by enable_mask p = true
mask_by bitmask p = cond (negative p) false true
mask_by enable_set p = true

abbrev pub mask_in : Kind → ℤ → Bool
mask_in field p = true
mask_in unknown p = true
mask_in (constraint k) p = mask_by k p
mask_in (projector k) p = true
mask_in (member k) p = true

-- The head at one record and its members, which end before another.
abbrev pub group_in : List ℕ → ℕ → ℕ → Group
group_in file head end = group (record_at file head) (take (end - suc head) (drop (suc head) (records_of file)))

-- A head and its members lie in the file, and the head names fields below n.
pub record HeadIn (file : List ℕ) (head end n : ℕ) : Type 0 where
  pub before : head < end
  pub inside : end ≤ length file / 32
  pub a_below : (record_at file head).a < n
  pub b-below : (record_at file head).b < n
  pub mask : mask_in (record_at file head).kind (record_at file head).p ≡ true

-- ---- projections
abbrev pub as_projection : code.Option ℤ → Option ℤ
as_projection None = none
as_projection (Some v) = some v

-- A number below 2^63, or none.
abbrev pub word_by : Bool → ℕ → code.Option ℕ
word_by true n = Some n
word_by false n = None

abbrev pub word_of : ℕ → code.Option ℕ
word_of n = word_by (ltb n (2 ^ 63)) n

-- The digit that an axis takes, and what it leaves to the next; radix 0 is absent.
abbrev pub digit_of : ℕ → ℕ → ℕ
digit_of zero v = v
digit_of (suc r) v = v % suc r

abbrev pub rest_of : ℕ → ℕ → ℕ
rest_of zero v = v
rest_of (suc r) v = v / suc r

-- An axis whose width and shift the table of powers has.
pub record AxisIn (m : Record) : Type 0 where
  pub width : m.a < 64
  pub shift : m.b < 64
  pub radix : negative m.p ≡ false

-- What a projector gives of a row; other records give none.
abbrev pub project_in : Kind → Record → List Record → List ℤ → Option ℤ
project_in field h ms row = none
project_in unknown h ms row = none
project_in (constraint k) h ms row = none
project_in (projector k) h ms row = project (projector_by k h ms) row
project_in (member k) h ms row = none

abbrev pub project_of : Group → List ℤ → Option ℤ
project_of (group h ms) row = project_in h.kind h ms row

-- At most 32 values, none beyond ±2^56: no sum of them leaves 64 bits.
pub record RowIn (row : List ℤ) : Type 0 where
  pub few : length row ≤ 32
  pub scaled : All (λ v. on_scale v ≡ true) row

-- A projector and its axes lie in the file, which ends with them.
pub record ProjectorIn (file : List ℕ) (head n : ℕ) : Type 0 where
  pub inside : head < length file / 32
  pub a_below : (record_at file head).a < n
  pub base_in : on_scale (record_at file head).p ≡ true
  pub offset_in : le_z (record_at file head).q (pos 63) ≡ true
  pub axes_in : All AxisIn (drop (suc head) (records_of file))
