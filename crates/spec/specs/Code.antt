-- What the code's types stand for, and what it computes on the way where no definition of the requirement says it.
use Rattle.std.specs.Prelude.{Bool, cond, not, ◌&&◌, ◌||◌, true, false, List, ◌++◌, map, ◌≡◌, ℕ, zero, suc, ◌+◌, ◌-◌, ◌*◌, ◌/◌, ◌^◌, ◌≤◌, ◌<◌, eqb, leb, ltb, ℤ, pos, nat_abs, length, take, drop, replicate, Result, Ok, Err, IsErrAnd, MatchResult, ◌⊎◌}
use Rattle.std.proofs.Math.Option.{Option, none, some}
use Rattle.lists.specs.Integers.{eq_z}
use Rattle.lists.specs.Lists.{any, over}
use Rattle.spec.specs.Domain.{domain, first_multiple, how_many, step_of}
use Rattle.spec.specs.Refusal.{Answer, blank_by, context, refused, accepted, Context, Refused, ◌▷◌, on_scale, negative, members_fault, groups_fault, file_fault, unless_refused}
use Rattle.spec.specs.Kind as kinds
use Rattle.spec.specs.Kind.{is_unused, section_of, Kind, field, unknown, constraint, projector, member, Use, unused, number, natural, own, names, MemberKind, value, item, pair, key, disable, assign, axis, ConstraintKind, range, even, eq, neq, lt, gt, le, ge, oneof, cross, enable_mask, bitmask, enable_set, ProjectorKind, sum, identity, parity, decompose}
use Rattle.spec.specs.Shape.{Shape}
use Rattle.spec.specs.Spec.{FieldSpec}
use Rattle.spec.specs.Record.{Record, record_at, records_of, member_run, groups, heads_from, heads_of}
use Rattle.spec.specs.declared.context.Context as code'''
use Rattle.spec.specs.declared.domains.Rise as code''
use Rattle.spec.specs.declared.kinds.Kind as kind
use Rattle.spec.specs.declared.kinds.Kind.TheVariants as kinds'
use Rattle.spec.specs.declared.kinds.List as lists
use Rattle.spec.specs.declared.kinds.List.TheVariants as lists'
use Rattle.spec.specs.declared.kinds.Row as code
use Rattle.spec.specs.declared.kinds.Section.{Section}
use Rattle.spec.specs.declared.kinds.Section.TheVariants as sections
use Rattle.spec.specs.declared.kinds.Use as uses
use Rattle.spec.specs.declared.kinds.Use.TheVariants as uses'
use Rattle.spec.specs.declared.plain.PlainList.{PlainList}
use Rattle.spec.specs.declared.plain.PlainList.TheVariants as plain
use Rattle.spec.specs.declared.records.Record as code'
use Rattle.spec.specs.declared.refusal.Fault.{Fault}
use Rattle.spec.specs.declared.refusal.Fault.TheVariants as faults
use Rattle.spec.specs.declared.refusal.Refusal as code⁵
use Rattle.spec.specs.declared.scan.State as scan
use Rattle.spec.specs.declared.validate.Shape as code''''

-- The kind that the code's enum stands for, and its number.
abbrev pub as_kind : kind.Kind → Kind
as_kind kinds'.Field = field
as_kind kinds'.Value = member value
as_kind kinds'.Item = member item
as_kind kinds'.Pair = member pair
as_kind kinds'.Key = member key
as_kind kinds'.Disable = member disable
as_kind kinds'.Assign = member assign
as_kind kinds'.Axis = member axis
as_kind kinds'.Range = constraint range
as_kind kinds'.Even = constraint even
as_kind kinds'.Eq = constraint eq
as_kind kinds'.Neq = constraint neq
as_kind kinds'.Lt = constraint lt
as_kind kinds'.Gt = constraint gt
as_kind kinds'.Le = constraint le
as_kind kinds'.Ge = constraint ge
as_kind kinds'.Oneof = constraint oneof
as_kind kinds'.Cross = constraint cross
as_kind kinds'.EnableMask = constraint enable_mask
as_kind kinds'.Bitmask = constraint bitmask
as_kind kinds'.EnableSet = constraint enable_set
as_kind kinds'.Sum = projector sum
as_kind kinds'.Identity = projector identity
as_kind kinds'.Parity = projector parity
as_kind kinds'.Decompose = projector decompose
as_kind (kinds'.Unknown n) = unknown

abbrev pub kind_number : kind.Kind → ℕ
kind_number kinds'.Field = 1
kind_number kinds'.Value = 2
kind_number kinds'.Item = 3
kind_number kinds'.Pair = 4
kind_number kinds'.Key = 5
kind_number kinds'.Disable = 6
kind_number kinds'.Assign = 7
kind_number kinds'.Axis = 8
kind_number kinds'.Range = 10
kind_number kinds'.Even = 11
kind_number kinds'.Eq = 12
kind_number kinds'.Neq = 13
kind_number kinds'.Lt = 14
kind_number kinds'.Gt = 15
kind_number kinds'.Le = 16
kind_number kinds'.Ge = 17
kind_number kinds'.Oneof = 18
kind_number kinds'.Cross = 19
kind_number kinds'.EnableMask = 20
kind_number kinds'.Bitmask = 21
kind_number kinds'.EnableSet = 22
kind_number kinds'.Sum = 30
kind_number kinds'.Identity = 31
kind_number kinds'.Parity = 32
kind_number kinds'.Decompose = 33
kind_number (kinds'.Unknown n) = n

-- The record that the code's struct stands for.
abbrev pub as_record : code'.Record → Record
as_record h = record { code = kind_number h.kind; kind = as_kind h.kind; a = h.a; b = h.b; padding = h.padding; p = h.p; q = h.q; r = h.r }

-- The first eight bytes of a record, as one number.
abbrev pub lead_of : Record → ℕ
lead_of m = m.code + m.a * 0x100 + m.b * 0x1_0000 + m.padding * 0x100_0000

-- The kind's number, a and b are bytes.
pub record InBytes (m : Record) : Type 0 where
  pub code-low : m.code < 256
  pub a-low : m.a < 256
  pub b-low : m.b < 256

-- The part of a file by its number.
abbrev pub section_number : Section → ℕ
section_number sections.Fields = 0
section_number sections.Constraints = 1
section_number sections.Projector = 2
section_number sections.Neither = 3

-- The row of the table that the code's struct stands for: a list by the kind number of its head, and the uses.
abbrev pub list_number : lists.List → ℕ
list_number lists'.Nothing = 0
list_number lists'.Values = 1
list_number lists'.Items = 18
list_number lists'.Entries = 19
list_number lists'.Disables = 20
list_number lists'.Assigns = 22
list_number lists'.Axes = 33

abbrev pub as_use : uses.Use → Use
as_use uses'.Unused = unused
as_use uses'.Number = number
as_use uses'.Natural = natural
as_use uses'.Own = own
as_use uses'.Names = names

abbrev pub as_row : code.Row → kinds.Row
as_row w = record { list = list_number w.list; a = as_use w.a; b = as_use w.b; p = as_use w.p; q = as_use w.q; r = as_use w.r }

-- ---- domains
abbrev pub ps_of : List Record → List ℤ
ps_of ms = map (λ m. m.p) ms

-- p, q and r of a record that is not refused 7.
pub record InScale (p q r : ℤ) : Type 0 where
  pub p_in : on_scale p ≡ true
  pub q_in : on_scale q ≡ true
  pub r_in : on_scale r ≡ true
  pub r-natural : negative r ≡ false

-- The multiples of a step in p..q, as the code holds them.
pub record IsRise (d : code''.Rise) (step : ℕ) (p q : ℤ) : Type 0 where
  pub first : d.first ≡ first_multiple step p
  pub step_is : d.step ≡ pos step
  pub len : d.len ≡ how_many step (first_multiple step p) q

-- k steps from the first do not leave what the code can hold.
pub record InRise (d : code''.Rise) (k : ℕ) : Type 0 where
  pub rising : d.step ≡ pos (nat_abs d.step)
  pub first-in : nat_abs d.first ≤ 2 ^ 57
  pub steps-in : nat_abs d.step * k ≤ 2 ^ 58
  pub place_in : k ≤ 2 ^ 58

-- The length of a field's domain, by its form and how many values it lists.
abbrev pub length_by : ℕ → Record → ℕ → ℕ
length_by zero h values = how_many (step_of (nat_abs h.r)) (first_multiple (step_of (nat_abs h.r)) (pos 0)) (pos 255)
length_by (suc zero) h values = how_many (step_of (nat_abs h.r)) (first_multiple (step_of (nat_abs h.r)) h.p) h.q
length_by (suc (suc k)) h values = values

abbrev pub domain_length : Record → ℕ → ℕ
domain_length h values = length_by h.b h values

-- The range of a field that lists no values, by its form: p..q or 0..255.
abbrev pub low_of : ℕ → ℤ → ℤ
low_of form p = cond (eqb form 1) p (pos 0)

abbrev pub high_of : ℕ → ℤ → ℤ
high_of form q = cond (eqb form 1) q (pos 255)

-- ---- tests
-- The test for stray numbers by a row as the code has it.
abbrev pub stray_code : code.Row → Record → Bool
stray_code w h =
    not (eqb h.padding 0)
    || (is_unused (as_use w.a) && not (eqb h.a 0))
    || (is_unused (as_use w.b) && not (eqb h.b 0))
    || (is_unused (as_use w.p) && not (eq_z h.p (pos 0)))
    || (is_unused (as_use w.q) && not (eq_z h.q (pos 0)))
    || (is_unused (as_use w.r) && not (eq_z h.r (pos 0)))

-- A field's domain may be blank, and that of no other kind.
abbrev pub is_field_kind : Kind → Bool
is_field_kind field = true
is_field_kind unknown = false
is_field_kind (constraint k) = false
is_field_kind (projector k) = false
is_field_kind (member k) = false

abbrev pub blank_in : (is-field : Bool) → Record → Bool
blank_in true h = blank_by h.b h
blank_in false h = false

-- The context after a head, by its section; a member changes nothing.
abbrev pub after_in : (member : Bool) → ℕ → Context → Context
after_in true section c = c
after_in false zero c = context (c.fields + 1) c.constraints c.section
after_in false (suc zero) c = context c.fields (c.constraints + 1) 1
after_in false (suc (suc zero)) c = context c.fields c.constraints 2
after_in false (suc (suc (suc section))) c = c

abbrev pub as_context : code'''.Context → Context
as_context c = record { fields = c.fields; constraints = c.constraints; section = section_number c.section }

-- An axis reaches above bit top.
abbrev pub reaches_over : ℕ → List Record → Bool
reaches_over top axes = any (λ m. ltb top (m.b + m.a)) axes

-- ---- judging record by record
-- What is left to judge: head h, which is record i, is open and its members before are judged; rs are the records left, the first of them record j.
unfoldable pub left : Context → Record → ℕ → List Record → List Record → ℕ → Option Refused
left c h i before rs j = members_fault c.fields h i before (member_run rs) j ▷ groups_fault c (j + length (member_run rs)) (groups rs)

-- What is left to judge from record i, counted from 0, on.
abbrev pub left_at : List ℕ → scan.State → ℕ → Option Refused
left_at file st i = left (as_context st.context) (record_at file st.head) (st.head + 1) (take (i - (st.head + 1)) (drop (st.head + 1) (records_of file))) (drop i (records_of file)) (i + 1)

-- The number of a refusal.
abbrev pub fault_number : Fault → ℕ
fault_number faults.WrongLength = 1
fault_number faults.UnknownKind = 2
fault_number faults.StrayByte = 3
fault_number faults.OutOfOrder = 4
fault_number faults.TooMany = 5
fault_number faults.NoSuchField = 6
fault_number faults.OffScale = 7
fault_number faults.EmptyDomain = 8
fault_number faults.BadPacking = 9
fault_number faults.TooLarge = 10
fault_number faults.ScratchShort = 11
fault_number faults.CyclicMaps = 12
fault_number faults.ChildlessKey = 13
fault_number faults.OutputShort = 14
fault_number faults.NotEmitted = 15
fault_number faults.NotASum = 16

abbrev pub refusal : Fault → ℕ → Refused
refusal f i = record { number = fault_number f; at = i }

-- The refusal that the code's struct stands for.
abbrev pub as_refused : code⁵.Refusal → Refused
as_refused r = refusal r.fault r.record

-- The same value, or the same fault as the refusal of a record.
abbrev pub RefusedAt : {T : Type 0} → Result T Fault → ℕ → Result T code⁵.Refusal → Type 0
RefusedAt judged i result = MatchResult judged (λ x. result ≡ Ok x) (λ f. IsErrAnd result (λ r. as_refused r ≡ refusal f i))

-- The number of the fault that a record was judged to have; 0 for none.
abbrev pub number_of : Result (Unit {0}) Fault → ℕ
number_of (Ok x) = 0
number_of (Err f) = fault_number f

-- What a scan found.
abbrev pub as_fault : Result (Unit {0}) code⁵.Refusal → Option Refused
as_fault (Ok x) = none
as_fault (Err r) = some (as_refused r)

-- ---- members of which a list may have many, without a fault
-- The first eight bytes are the kind's number, a, and zeros.
pub record Leads (code a : ℕ) (m : Record) : Type 0 where
  pub code_is : m.code ≡ code
  pub a_is : m.a ≡ a
  pub b_is : m.b ≡ 0
  pub padding_is : m.padding ≡ 0

-- They and q are as in the list; a disable has no p. An entry is a pair or a key.
abbrev pub InList : PlainList → Record → Type 0
InList (plain.Values f) m = Leads 2 f m × (m.q ≡ pos 0)
InList plain.Items m = Leads 3 0 m × (m.q ≡ pos 0)
InList plain.Entries m = (Leads 4 0 m × (on_scale m.q ≡ true)) ⊎ (Leads 5 0 m × (m.q ≡ pos 0))
InList (plain.Disables n) m = Leads 6 m.a m × (m.a < n) × (m.p ≡ pos 0) × (m.q ≡ pos 0)
InList (plain.Assigns n) m = Leads 7 m.a m × (m.a < n) × (m.q ≡ pos 0)

-- So are p and r.
pub record IsPlain (list : PlainList) (m : Record) : Type 0 where
  pub in_list : InList list m
  pub p_in : on_scale m.p ≡ true
  pub r_is : m.r ≡ pos 0

-- ---- turns
-- What a turn leaves.
abbrev pub after_turn : List ℕ → ℕ → Result scan.State code⁵.Refusal → Option Refused
after_turn file i (Ok st) = left_at file st (i + 1)
after_turn file i (Err r) = some (as_refused r)

abbrev pub turn_good : ℕ → Result scan.State code⁵.Refusal → Type 0
turn_good i (Ok st) = st.head ≤ i
turn_good i (Err r) = Unit {0}

-- How many heads stand before a record: fields, constraints and a projector.
abbrev pub heads_before : Context → ℕ
heads_before c = c.fields + c.constraints + cond (eqb c.section 2) 1 0

-- An array in which count heads are noted, as it will stand once those from record i on are noted too, and behind them the end.
abbrev pub noting : List ℕ → List ℕ → ℕ → ℕ → List ℕ
noting file heads count i = over (take count heads ++ heads_from i (drop i (records_of file))) heads

-- What stands in the array lent to a call afterwards: the places of the heads and the end of the file, over what stood there; zeros where the file is refused.
abbrev pub heads_noted : List ℕ → List ℕ → List ℕ
heads_noted file old = unless_refused (file_fault file) (over (heads_of file) old) (replicate (length old) 0)

-- The places of all heads stand in front of an array, and behind them the end of the file.
abbrev pub AllNoted : List ℕ → List ℕ → Type 0
AllNoted file heads = take (length (heads_of file)) heads ≡ heads_of file

-- The section of record i, counting from 0, and no section at the end of the file.
abbrev pub section_at : List ℕ → ℕ → ℕ
section_at file i = cond (ltb i (length file / 32)) (section_of (record_at file i).kind) 3

-- ---- what the layers above need
-- A product that stops growing above the limit.
abbrev pub capped : ℕ → ℕ
capped n = cond (leb n 1000000000) n 1000000001

abbrev pub lengths : List FieldSpec → List ℕ
lengths fs = map (λ f. length (domain f)) fs

abbrev pub as_shape : code''''.Shape → Shape
as_shape s = record { fields = s.fields; constraints = s.constraints; constraints_at = s.constraints_at; projector_at = s.projector_at; total = s.total }

abbrev pub as_answer : Result code''''.Shape code⁵.Refusal → Answer Refused Shape
as_answer (Ok s) = accepted (as_shape s)
as_answer (Err r) = refused (as_refused r)
