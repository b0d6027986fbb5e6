-- Refusals 1 to 10 (document 01, "Refused slips"): the first faulty record, then the lowest number in it; a fault of a whole list is judged where the list ends.
use Rattle.std.specs.Prelude.{Bool, true, false, not, ◌&&◌, ◌||◌, cond, List, [], ◌∷◌, ◌++◌, ℕ, zero, suc, ◌+◌, ◌%◌, ◌^◌, eqb, leb, ltb, ℤ, pos, negsuc, length}
use Rattle.std.proofs.Math.Option.{Option, none, some}
use Rattle.lists.specs.Lists.{any, is_empty}
use Rattle.lists.specs.Integers.{eq_z}
use Rattle.spec.specs.Domain.{domain, too_many}
use Rattle.spec.specs.Kind.{ProjectorKind, sum, identity, parity, decompose, Kind, field, unknown, constraint, projector, member, Row, row_of, is_unused, is_natural, is_own, is_names, is_member, section_of}
use Rattle.spec.specs.Record.{Record, Group, group, groups, member_run, field_by, records_of, decoded}

-- (number, record); record 0 is the whole.
pub record Refused : Type 0 where
  pub number : ℕ
  pub at : ℕ

-- Number 0 is no refusal.
abbrev pub refuse : ℕ → ℕ → Option Refused
refuse zero i = none
refuse (suc n) i = some (record { number = suc n; at = i })

abbrev pub refuse_if : Bool → ℕ → Option Refused
refuse_if true n = refuse n 0
refuse_if false n = none

infixr 20 ◌▷◌
-- The first of two refusals counts.
abbrev pub ◌▷◌ : {A : Type 0} → Option A → Option A → Option A
none ▷ y = y
some x ▷ y = some x

-- What a call answers: refused, or what it gives.
pub data Answer (R A : Type 0) : Type 0 where
  refused : R → Answer R A
  accepted : A → Answer R A

abbrev pub answer : {R A : Type 0} → Option R → A → Answer R A
answer none x = accepted x
answer (some r) x = refused r

-- What a lent output holds after a call: after a refusal it is unchanged.
abbrev pub unless_refused : {R A : Type 0} → Option R → A → A → A
unless_refused none new old = new
unless_refused (some r) new old = old

-- The number of the first test that is true, the tests being numbered from n; 0 if none is.
abbrev pub first_true : ℕ → List Bool → ℕ
first_true n [] = 0
first_true n (b ∷ bs) = cond b n (first_true (suc n) bs)

-- ---- the numbers 2 to 9, each as a test of one record
-- Where a head stands: how many fields and constraints are before it, and the section that was reached (0 fields, 1 constraints, 2 projector).
pub record Context : Type 0 where
  pub fields : ℕ
  pub constraints : ℕ
  pub section : ℕ

abbrev pub context : ℕ → ℕ → ℕ → Context
context f c x = record { fields = f; constraints = c; section = x }

-- 2: an unknown kind, or a field of an unknown form.
abbrev pub unknown_kind : Kind → Record → Bool
unknown_kind field h = ltb 2 h.b
unknown_kind unknown h = true
unknown_kind (constraint k) h = false
unknown_kind (projector k) h = false
unknown_kind (member k) h = false

-- 3: something that the kind does not use is not 0.
abbrev pub stray_by : Row → Record → Bool
stray_by w h =
    not (eqb h.padding 0)
    || (is_unused w.a && not (eqb h.a 0))
    || (is_unused w.b && not (eqb h.b 0))
    || (is_unused w.p && not (eq_z h.p (pos 0)))
    || (is_unused w.q && not (eq_z h.q (pos 0)))
    || (is_unused w.r && not (eq_z h.r (pos 0)))

abbrev pub stray_byte : Kind → Record → Bool
stray_byte k h = stray_by (row_of k h.b) h

-- 4: a is not the number due: for a field the count of fields before it, for a value its field.
abbrev pub not_due : Kind → ℕ → Record → Bool
not_due k due h = is_own (row_of k h.b).a && not (eqb h.a due)

-- 4: fields, then constraints, then one projector.
abbrev pub out_of_order : Kind → Context → Record → Bool
out_of_order k c h = ltb (section_of k) c.section || eqb c.section 2 || not_due k c.fields h

-- 5: the 33rd field, the 257th constraint.
abbrev pub overfull : Kind → Context → Bool
overfull field c = leb 32 c.fields
overfull unknown c = false
overfull (constraint k) c = leb 256 c.constraints
overfull (projector k) c = false
overfull (member k) c = false

-- 6: a named field is not below the count of fields before it, n.
abbrev pub no_such_field : Kind → ℕ → Record → Bool
no_such_field k n h = (is_names (row_of k h.b).a && leb n h.a) || (is_names (row_of k h.b).b && leb n h.b)

-- Within ±2^56.
abbrev pub on_scale : ℤ → Bool
on_scale (pos n) = leb n (2 ^ 56)
on_scale (negsuc n) = leb (suc n) (2 ^ 56)

abbrev pub negative : ℤ → Bool
negative (pos n) = false
negative (negsuc n) = true

-- 7: p, q or r off the scale; a negative mask or step.
abbrev pub off_scale : Kind → Record → Bool
off_scale k h =
    not (on_scale h.p) || not (on_scale h.q) || not (on_scale h.r)
    || (is_natural (row_of k h.b).p && negative h.p)
    || (is_natural (row_of k h.b).r && negative h.r)

-- 8: the domain of a field without a list is empty.
abbrev pub blank_by : ℕ → Record → Bool
blank_by zero h = is_empty (domain (field_by 0 h []))
blank_by (suc zero) h = is_empty (domain (field_by 1 h []))
blank_by (suc (suc k)) h = false

abbrev pub blank_field : Kind → Record → Bool
blank_field field h = blank_by h.b h
blank_field unknown h = false
blank_field (constraint k) h = false
blank_field (projector k) h = false
blank_field (member k) h = false

abbrev pub head_tests : Kind → Context → Record → List Bool
head_tests k c h = unknown_kind k h ∷ stray_byte k h ∷ out_of_order k c h ∷ overfull k c ∷ no_such_field k c.fields h ∷ off_scale k h ∷ blank_field k h ∷ []

-- ---- members
-- A member that its head takes.
abbrev pub belongs : Record → Record → Bool
belongs h m = is_member m.kind && eqb (row_of h.kind h.b).list (row_of m.kind m.b).list

-- radix ≥ 2 and radix − 1 < 2^width; 0 is absent.
abbrev pub bad_radix : ℕ → ℤ → Bool
bad_radix width (pos zero) = false
bad_radix width (pos (suc k)) = eqb k 0 || leb (2 ^ width) k
bad_radix width (negsuc k) = true

abbrev pub overlaps : Record → Record → Bool
overlaps m k = not (leb (m.b + m.a) k.b || leb (k.b + k.a) m.b)

-- width 1..63, shift + width ≤ 63, the radix, and no overlap with an axis before it.
abbrev pub bad_axis : List Record → Record → Bool
bad_axis before m = eqb m.a 0 || ltb 63 (m.b + m.a) || bad_radix m.a m.p || any (overlaps m) before

-- 9 for an axis: a member of list 33.
abbrev pub bad_packing : Kind → List Record → Record → Bool
bad_packing k before m = eqb (row_of k m.b).list 33 && bad_axis before m

-- The tests 2 to 9 of a member m of head h, whose members before it are given; n fields stand before it.
abbrev pub member_tests : Kind → ℕ → Record → List Record → Record → List Bool
member_tests k n h before m = false ∷ stray_byte k m ∷ not_due k h.a m ∷ false ∷ no_such_field k n m ∷ off_scale k m ∷ false ∷ bad_packing k before m ∷ []

-- A member that its head does not take, or that no head stands before, is out of order.
abbrev pub misfiled_number : Record → ℕ
misfiled_number m = first_true 2 (false ∷ stray_byte m.kind m ∷ true ∷ [])

abbrev pub misfiled : Record → ℕ → Option Refused
misfiled m i = refuse (misfiled_number m) i

-- ---- whole lists
-- q is −1..63, and not below the highest shift + width.
abbrev pub bad_offset : List Record → ℤ → Bool
bad_offset axes (pos k) = ltb 63 k || any (λ m. ltb k (m.b + m.a)) axes
bad_offset axes (negsuc zero) = false
bad_offset axes (negsuc (suc k)) = true

abbrev pub projector_list_fault : ProjectorKind → Record → List Record → ℕ
projector_list_fault sum h ms = 0
projector_list_fault identity h ms = 0
projector_list_fault parity h ms = 0
projector_list_fault decompose h ms = cond (is_empty ms || bad_offset ms h.q) 9 0

-- A fault of the whole list: 8 without values, 9 without axes or for the offset.
abbrev pub list_fault : Kind → Record → List Record → ℕ
list_fault field h ms = cond (eqb h.b 2 && is_empty ms) 8 0
list_fault unknown h ms = 0
list_fault (constraint k) h ms = 0
list_fault (projector k) h ms = projector_list_fault k h ms
list_fault (member k) h ms = 0

-- ---- a whole file
-- Head h is record i and n fields stand before its members; those before are judged, ms are left, the first of them record j.
module _ (n : ℕ) (h : Record) (i : ℕ) where
  abbrev pub member_fault : Bool → List Record → Record → ℕ → Option Refused → Option Refused
  member_fault true before m j rest = refuse (first_true 2 (member_tests m.kind n h before m)) j ▷ rest
  member_fault false before m j rest = refuse (list_fault h.kind h before) i ▷ misfiled m j

  abbrev pub members_fault : List Record → List Record → ℕ → Option Refused
  members_fault before [] j = refuse (list_fault h.kind h before) i
  members_fault before (m ∷ ms) j =
      let rest = members_fault (before ++ (m ∷ [])) ms (suc j) in
      member_fault (belongs h m) before m j rest

abbrev pub after_head : Kind → Context → Context
after_head field c = context (suc c.fields) c.constraints c.section
after_head unknown c = c
after_head (constraint k) c = context c.fields (suc c.constraints) 1
after_head (projector k) c = context c.fields c.constraints 2
after_head (member k) c = c

abbrev pub after : Context → Group → Context
after c (group h ms) = after_head h.kind c

abbrev pub group_fault : Context → ℕ → Group → Option Refused
group_fault c i (group h ms) = refuse (first_true 2 (head_tests h.kind c h)) i ▷ members_fault (after c (group h ms)).fields h i [] ms (suc i)

abbrev pub size_of : Group → ℕ
size_of (group h ms) = suc (length ms)

-- The groups from record i on; 4 at the record after the last if there is no projector.
abbrev pub groups_fault : Context → ℕ → List Group → Option Refused
groups_fault c i [] = cond (eqb c.section 2) none (refuse 4 i)
groups_fault c i (g ∷ gs) = group_fault c i g ▷ groups_fault (after c g) (i + size_of g) gs

-- 2 to 9. Members that no head stands before come first.
abbrev pub lead_fault : List Record → Option Refused → Option Refused
lead_fault [] rest = rest
lead_fault (m ∷ ms) rest = misfiled m 1

unfoldable pub records_fault : List Record → Option Refused
records_fault rs = lead_fault (member_run rs) (groups_fault (context 0 0 0) 1 (groups rs))

-- 1: the length is no multiple of 32, or above 65,536.
abbrev pub ragged : List ℕ → Bool
ragged file = not (eqb (length file % 32) 0) || ltb 65536 (length file)

-- 1 to 10.
unfoldable pub file_fault : List ℕ → Option Refused
file_fault file = refuse_if (ragged file) 1 ▷ records_fault (records_of file) ▷ refuse_if (too_many (decoded file)) 10
