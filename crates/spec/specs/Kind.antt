-- The kinds of records, and the table of what each uses.
use Rattle.std.specs.Prelude.{Bool, true, false, cond, List, [], ◌∷◌, ℕ, zero, suc, eqb, ltb}

pub data MemberKind : Type 0 where
  value item pair key disable assign axis : MemberKind

pub data ConstraintKind : Type 0 where
  range even eq neq lt gt le ge oneof cross enable_mask bitmask enable_set : ConstraintKind

pub data ProjectorKind : Type 0 where
  sum identity parity decompose : ProjectorKind

pub data Kind : Type 0 where
  field unknown : Kind
  constraint : ConstraintKind → Kind
  projector : ProjectorKind → Kind
  member : MemberKind → Kind

abbrev pub lookup : List (ℕ × Kind) → ℕ → Kind
lookup [] n = unknown
lookup ((k, x) ∷ rest) n = cond (eqb n k) x (lookup rest n)

unfoldable pub kind_of : ℕ → Kind
kind_of n = lookup
    ((1, field)
    ∷ (2, member value)
    ∷ (3, member item)
    ∷ (4, member pair)
    ∷ (5, member key)
    ∷ (6, member disable)
    ∷ (7, member assign)
    ∷ (8, member axis)
    ∷ (10, constraint range)
    ∷ (11, constraint even)
    ∷ (12, constraint eq)
    ∷ (13, constraint neq)
    ∷ (14, constraint lt)
    ∷ (15, constraint gt)
    ∷ (16, constraint le)
    ∷ (17, constraint ge)
    ∷ (18, constraint oneof)
    ∷ (19, constraint cross)
    ∷ (20, constraint enable_mask)
    ∷ (21, constraint bitmask)
    ∷ (22, constraint enable_set)
    ∷ (30, projector sum)
    ∷ (31, projector identity)
    ∷ (32, projector parity)
    ∷ (33, projector decompose)
    ∷ [])
    n

-- What a record does with one of its numbers a, b, p, q, r.
pub data Use : Type 0 where
  unused : Use  -- it is 0
  number : Use
  natural : Use  -- a number that is not negative: a mask, a step
  own : Use  -- the number of the field that the record describes
  names : Use  -- the number of a field described before

-- A row of the table: the list that a head takes or that a member stands in, by the head's kind number and 0 for none; then the uses.
pub record Row : Type 0 where
  pub list : ℕ
  pub a : Use
  pub b : Use
  pub p : Use
  pub q : Use
  pub r : Use

abbrev row : ℕ → Use → Use → Use → Use → Use → Row
row list a b p q r = record { list = list; a = a; b = b; p = p; q = q; r = r }

-- A field's row goes by its form, b.
abbrev pub field_row : ℕ → Row
field_row zero = row 0 own number unused unused natural
field_row (suc zero) = row 0 own number number number natural
field_row (suc (suc k)) = row 1 own number unused unused unused

abbrev pub member_row : MemberKind → Row
member_row value = row 1 own unused number unused unused
member_row item = row 18 unused unused number unused unused
member_row pair = row 19 unused unused number number unused
member_row key = row 19 unused unused number unused unused
member_row disable = row 20 names unused unused unused unused
member_row assign = row 22 names unused number unused unused
member_row axis = row 33 number number number unused unused

abbrev pub constraint_row : ConstraintKind → Row
constraint_row range = row 0 names unused number number unused
constraint_row even = row 0 names unused unused unused unused
constraint_row eq = row 0 names names unused unused unused
constraint_row neq = row 0 names names unused unused unused
constraint_row lt = row 0 names unused number unused unused
constraint_row gt = row 0 names unused number unused unused
constraint_row le = row 0 names unused number unused unused
constraint_row ge = row 0 names unused number unused unused
constraint_row oneof = row 18 names unused unused unused unused
constraint_row cross = row 19 names names unused unused unused
constraint_row enable_mask = row 20 names unused number unused unused
constraint_row bitmask = row 0 names unused natural number unused
constraint_row enable_set = row 22 names unused number unused unused

abbrev pub projector_row : ProjectorKind → Row
projector_row sum = row 0 unused unused unused unused unused
projector_row identity = row 0 names unused unused unused unused
projector_row parity = row 0 names unused unused unused unused
projector_row decompose = row 33 names unused number number unused

-- The constant table by kind, and by form for a field.
abbrev pub row_of : Kind → ℕ → Row
row_of field form = field_row form
row_of unknown form = row 0 unused unused unused unused unused
row_of (constraint k) form = constraint_row k
row_of (projector k) form = projector_row k
row_of (member k) form = member_row k

abbrev pub is_unused : Use → Bool
is_unused unused = true
is_unused number = false
is_unused natural = false
is_unused own = false
is_unused names = false

abbrev pub is_natural : Use → Bool
is_natural unused = false
is_natural number = false
is_natural natural = true
is_natural own = false
is_natural names = false

abbrev pub is_own : Use → Bool
is_own unused = false
is_own number = false
is_own natural = false
is_own own = true
is_own names = false

abbrev pub is_names : Use → Bool
is_names unused = false
is_names number = false
is_names natural = false
is_names own = false
is_names names = true

abbrev pub is_member : Kind → Bool
is_member field = false
is_member unknown = false
is_member (constraint k) = false
is_member (projector k) = false
is_member (member k) = true

abbrev pub is_field : Kind → Bool
is_field field = true
is_field unknown = false
is_field (constraint k) = false
is_field (projector k) = false
is_field (member k) = false

abbrev pub is_constraint : Kind → Bool
is_constraint field = false
is_constraint unknown = false
is_constraint (constraint k) = true
is_constraint (projector k) = false
is_constraint (member k) = false

-- The part of a file that the record of a kind number stands in: 0 fields, 1 constraints, 2 projector.
abbrev pub part_of : ℕ → ℕ
part_of n = cond (ltb n 10) 0 (cond (ltb n 30) 1 2)

-- The same by kind; a member stands in its head's part.
abbrev pub section_of : Kind → ℕ
section_of field = 0
section_of unknown = 3
section_of (constraint k) = 1
section_of (projector k) = 2
section_of (member k) = part_of (member_row k).list
