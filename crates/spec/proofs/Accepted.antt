-- What a file without faults decodes to: as many fields and constraints as it has groups of them, at most 32 and 256; no empty domain; constraints and a projector that name only its fields.
use mathlib.Core.Bool.{Bool, ◌&&◌, ◌||◌, false, false≢true, not, true, true≢false}
use mathlib.Core.List.{List, [], ◌++◌, ◌∷◌, foldl, map}
use mathlib.Core.Option.{none}
use mathlib.Core.Path.{◌∙◌, ◌≡◌, ap, ap₂, refl, subst, sym}
use Prim.Native.Nat.{◌%◌, ◌+◌, ◌<◌, ◌≤◌, suc, zero, ℕ}
use native.Mathlib.Nat.{zero-add}
use native.Mathlib.Omega.{arith}
use lib.Dec.{eqb, leb, ltb}
use lib.ListN.{length, length-map}
use Rattle.lists.specs.Lists.{concat_map, cons_if, is_empty}
use Rattle.lists.proofs.All.{All, All_append, []ᴬ, ◌∷ᴬ◌}
use Rattle.lists.proofs.Lists.{concat_map-filter, length-pos}
use Rattle.lists.proofs.Tests.{cond-zero, eqb_yes, ltb_no, no_ge, no_gt, or_split, yes_eq}
use Rattle.spec.specs.Domain.{domain, too_many}
use Rattle.spec.specs.Kind.{ConstraintKind, Kind, MemberKind, ProjectorKind, assign, axis, bitmask, constraint, cross, decompose, disable, enable_mask, enable_set, eq, even, field, ge, gt, identity, is_constraint, is_field, is_member, item, key, le, lt, member, member_row, names, neq, oneof, pair, parity, projector, range, row_of, sum, unknown, value}
use Rattle.spec.specs.Record.{Group, Record, assignment_of, constraint_by, constraint_in, constraint_of, decoded, field_by, field_in, field_of, group, groups, projector_by, projector_in, projector_of, records_of, spec_of}
use Rattle.spec.specs.Refusal.{Context, after, after_head, blank_by, context, file_fault, no_such_field, ragged, records_fault, refuse_if}
use Rattle.spec.specs.Spec.{FieldSpec, ProjectorSpec, Sum}
use Rattle.spec.proofs.Good.{ConstraintGood, Good, GoodBy, MembersGood, Whole, constraint_groups, field_groups, good_parts, head_is, list_good, records_whole, whole_records}
use Rattle.spec.proofs.Groups.{groups_proper}
use Rattle.spec.proofs.Named.{Named, NamesBelow, ProjectsBelow, WritesBelow}
use Rattle.spec.proofs.Refusals.{refuse_if_no, refuse_if_ok, ▷_left, ▷_none, ▷_right}

field_in_other : (k : Kind) (h : Record) (ms : List Record) → is_field k ≡ false → field_in k h ms ≡ []
field_in_other field h ms e = absurd (true≢false e)
field_in_other unknown h ms e = refl
field_in_other (constraint k) h ms e = refl
field_in_other (projector k) h ms e = refl
field_in_other (member k) h ms e = refl

constraint_in_other : (k : Kind) (h : Record) (ms : List Record) → is_constraint k ≡ false → constraint_in k h ms ≡ []
constraint_in_other field h ms e = refl
constraint_in_other unknown h ms e = refl
constraint_in_other (constraint k) h ms e = absurd (true≢false e)
constraint_in_other (projector k) h ms e = refl
constraint_in_other (member k) h ms e = refl

pub field_of_other : (g : Group) → head_is is_field g ≡ false → field_of g ≡ []
field_of_other (group h ms) e = field_in_other h.kind h ms e

pub constraint_of_other : (g : Group) → head_is is_constraint g ≡ false → constraint_of g ≡ []
constraint_of_other (group h ms) e = constraint_in_other h.kind h ms e

-- The fields and the constraints come from the groups of their sort alone.
pub fields_of-groups : (gs : List Group) → concat_map field_of (field_groups gs) ≡ concat_map field_of gs
fields_of-groups = concat_map-filter field_of (head_is is_field) field_of_other

pub constraints_of-groups : (gs : List Group) → concat_map constraint_of (constraint_groups gs) ≡ concat_map constraint_of gs
constraints_of-groups = concat_map-filter constraint_of (head_is is_constraint) constraint_of_other

pub count-fields : (gs : List Group) → length (field_groups gs) ≡ length (concat_map field_of gs)
count-fields [] = refl
count-fields (group h ms ∷ gs) = go h.kind h (count-fields gs)
  where
    go : (k : Kind) (h' : Record) → length (field_groups gs) ≡ length (concat_map field_of gs) → length (cons_if (is_field k) (group h ms) (field_groups gs)) ≡ length (field_in k h' ms ++ concat_map field_of gs)
    go field h' ih = ap suc ih
    go unknown h' ih = ih
    go (constraint k) h' ih = ih
    go (projector k) h' ih = ih
    go (member k) h' ih = ih

pub count-constraints : (gs : List Group) → length (constraint_groups gs) ≡ length (concat_map constraint_of gs)
count-constraints [] = refl
count-constraints (group h ms ∷ gs) = go h.kind h (count-constraints gs)
  where
    go : (k : Kind) (h' : Record) → length (constraint_groups gs) ≡ length (concat_map constraint_of gs)
        → length (cons_if (is_constraint k) (group h ms) (constraint_groups gs)) ≡ length (constraint_in k h' ms ++ concat_map constraint_of gs)
    go field h' ih = ih
    go unknown h' ih = ih
    go (constraint k) h' ih = ap suc ih
    go (projector k) h' ih = ih
    go (member k) h' ih = ih

-- ---- names
-- the lists of the enable records hold disables, 20, and assigns, 22, which name a field
abbrev pub is_writing : ℕ → Bool
is_writing list = eqb list 20 || eqb list 22

writer_row : (k : MemberKind) (list : ℕ) → is_writing list ≡ true → eqb list (member_row k).list ≡ true → (member_row k).a ≡ names
writer_row value list w e = absurd (false≢true (ap is_writing (sym (yes_eq list 1 e)) ∙ w))
writer_row item list w e = absurd (false≢true (ap is_writing (sym (yes_eq list 18 e)) ∙ w))
writer_row pair list w e = absurd (false≢true (ap is_writing (sym (yes_eq list 19 e)) ∙ w))
writer_row key list w e = absurd (false≢true (ap is_writing (sym (yes_eq list 19 e)) ∙ w))
writer_row disable list w e = refl
writer_row assign list w e = refl
writer_row axis list w e = absurd (false≢true (ap is_writing (sym (yes_eq list 33 e)) ∙ w))

pub writer_names : (k : Kind) (list b : ℕ) → is_writing list ≡ true → (is_member k && eqb list (row_of k b).list) ≡ true → (row_of k b).a ≡ names
writer_names field list b w e = absurd (false≢true e)
writer_names unknown list b w e = absurd (false≢true e)
writer_names (constraint k) list b w e = absurd (false≢true e)
writer_names (projector k) list b w e = absurd (false≢true e)
writer_names (member k) list b w e = writer_row k list w e

member_below : (k : Kind) (list n : ℕ) (m : Record) → is_writing list ≡ true → (is_member k && eqb list (row_of k m.b).list) ≡ true → no_such_field k n m ≡ false → m.a < n
member_below k list n m w e h = no_gt n m.a (or_split (leb n m.a) _ (rw (writer_names k list m.b w e) at h)).0

writes_below : (k : Kind) (n : ℕ) (h : Record) (before ms : List Record) → is_writing (row_of k h.b).list ≡ true → MembersGood k n h before ms → All (WritesBelow n) (map assignment_of ms)
writes_below k n h before [] w g = []ᴬ
writes_below k n h before (m ∷ ms) w g = ◌∷ᴬ◌ {x = assignment_of m} (member_below m.kind (row_of k h.b).list n m w g.0 g.1.named) (writes_below k n h (before ++ (m ∷ [])) ms w g.2)

module _ (n j x : ℕ) (h : Record) (ms : List Record) where
  -- a named number is below n
  a_below : (leb n h.a || false) ≡ false → h.a < n
  a_below e = no_gt n h.a (or_split (leb n h.a) false e).0

  both_below : (leb n h.a || leb n h.b) ≡ false → (h.a < n) × (h.b < n)
  both_below e = let s = or_split (leb n h.a) (leb n h.b) e in (no_gt n h.a s.0, no_gt n h.b s.1)

  constraint-named : (k : ConstraintKind) → GoodBy (constraint k) (context n j x) h ms → NamesBelow n (constraint_by k h ms)
  constraint-named range g = a_below g.0.named
  constraint-named even g = a_below g.0.named
  constraint-named eq g = both_below g.0.named
  constraint-named neq g = both_below g.0.named
  constraint-named lt g = a_below g.0.named
  constraint-named gt g = a_below g.0.named
  constraint-named le g = a_below g.0.named
  constraint-named ge g = a_below g.0.named
  constraint-named oneof g = a_below g.0.named
  constraint-named cross g = both_below g.0.named
  constraint-named enable_mask g = (a_below g.0.named, writes_below (constraint enable_mask) n h [] ms refl g.1)
  constraint-named bitmask g = a_below g.0.named
  constraint-named enable_set g = (a_below g.0.named, writes_below (constraint enable_set) n h [] ms refl g.1)

constraint_in-named : (k : Kind) (n : ℕ) (h : Record) (ms : List Record) → is_constraint k ≡ true → GoodBy k (context n 0 0) h ms → All (NamesBelow n) (constraint_in k h ms)
constraint_in-named field n h ms e g = []ᴬ
constraint_in-named unknown n h ms e g = []ᴬ
constraint_in-named (constraint k) n h ms e g = constraint-named n 0 0 h ms k g ∷ᴬ []ᴬ
constraint_in-named (projector k) n h ms e g = []ᴬ
constraint_in-named (member k) n h ms e g = []ᴬ

constraints-named : (n : ℕ) {gs : List Group} → All (ConstraintGood n) gs → All (NamesBelow n) (concat_map constraint_of gs)
constraints-named n []ᴬ = []ᴬ
constraints-named n (◌∷ᴬ◌ {x = group h ms} q t) = All_append (constraint_in-named h.kind n h ms q.0 q.1) (constraints-named n t)

-- Every field that a constraint names is one of the file's.
pub whole-named : (rs : List Record) → Whole rs → Named (spec_of (groups rs))
unfolding spec_of
whole-named rs w =
    subst (λ cs. All (NamesBelow (length (concat_map field_of (groups rs)))) cs) (constraints_of-groups (groups rs))
    (subst (λ (n : ℕ). All (NamesBelow n) (concat_map constraint_of (constraint_groups (groups rs)))) (zero-add (length (field_groups (groups rs))) ∙ count-fields (groups rs))
    (constraints-named (0 + length (field_groups (groups rs))) (good_parts (groups_proper rs) 0 w.good).1))

pub decoded-named : (file : List ℕ) → Whole (records_of file) → Named (decoded file)
unfolding decoded
decoded-named file w = whole-named (records_of file) w

projector_by-named : (k : ProjectorKind) (c : Context) (n : ℕ) (h : Record) (ms : List Record) → c.fields ≤ n → GoodBy (projector k) c h ms → ProjectsBelow n (projector_by k h ms)
projector_by-named sum c n h ms l g = tt
projector_by-named identity c n h ms l g = let b = a_below c.fields 0 0 h ms g.0.named in omega arith
projector_by-named parity c n h ms l g = let b = a_below c.fields 0 0 h ms g.0.named in omega arith
projector_by-named decompose c n h ms l g = let b = a_below c.fields 0 0 h ms g.0.named in omega arith

projector-named : (c : Context) (gs : List Group) (n : ℕ) (d : ProjectorSpec) → Good c gs → c.fields + length (field_groups gs) ≤ n → ProjectsBelow n d → ProjectsBelow n (foldl projector_of d gs)
projector-named c [] n d g l p = p
projector-named c (group h ms ∷ gs) n d g l p = one h.kind g.0 l (λ x. projector-named (after c (group h ms)) gs n x g.1)
  where
    one : (k : Kind) → GoodBy k c h ms → c.fields + length (cons_if (is_field k) (group h ms) (field_groups gs)) ≤ n
        → ((x : ProjectorSpec) → (after_head k c).fields + length (field_groups gs) ≤ n → ProjectsBelow n x → ProjectsBelow n (foldl projector_of x gs))
        → ProjectsBelow n (foldl projector_of (projector_in k h ms d) gs)
    one field q l rest = rest d (omega arith) p
    one unknown q l rest = rest d l p
    one (constraint k) q l rest = rest d l p
    one (projector k) q l rest = rest (projector_by k h ms) l (projector_by-named k c n h ms (omega arith) q)
    one (member k) q l rest = rest d l p

-- The field that the projector names, if it names one, is one of the file's.
pub decoded_projects : (file : List ℕ) → Whole (records_of file) → ProjectsBelow (length (decoded file).fields) (decoded file).projector
unfolding decoded spec_of
decoded_projects file w =
    projector-named (context 0 0 0) (groups (records_of file)) (length (concat_map field_of (groups (records_of file)))) Sum w.good (omega (arith, count-fields (groups (records_of file)))) tt

-- ---- sizes
-- A field whose domain is not empty.
abbrev pub Filled : FieldSpec → Type 0
Filled d = 0 < length (domain d)

field_filled : (c : Context) (h : Record) (ms : List Record) → GoodBy field c h ms → (b : ℕ) → h.b ≡ b → Filled (field_by b h ms)
field_filled c h ms g zero e = length-pos (domain (field_by 0 h [])) (sym (ap (λ (b : ℕ). blank_by b h) e) ∙ g.0.filled)
field_filled c h ms g (suc zero) e = length-pos (domain (field_by 1 h [])) (sym (ap (λ (b : ℕ). blank_by b h) e) ∙ g.0.filled)
field_filled c h ms g (suc (suc b)) e =
    let two : h.b ≡ 2 = let q = no_ge 2 h.b g.0.known in omega arith in
    let some-value = cond-zero (eqb h.b 2 && is_empty ms) 7 (list_good field (suc c.fields) h [] ms g.1) in
    let l = length-pos ms (sym (ap (λ t. t && is_empty ms) (eqb_yes h.b 2 two)) ∙ some-value) in
    rw (length-map ms (λ (m : Record). m.p)) l

fields-filled : (c : Context) (gs : List Group) → Good c gs → All Filled (concat_map field_of gs)
fields-filled c [] g = []ᴬ
fields-filled c (group h ms ∷ gs) g = All_append (one h.kind g.0) (fields-filled (after c (group h ms)) gs g.1)
  where
    one : (k : Kind) → GoodBy k c h ms → All Filled (field_in k h ms)
    one field q = field_filled c h ms q h.b refl ∷ᴬ []ᴬ
    one unknown q = []ᴬ
    one (constraint k) q = []ᴬ
    one (projector k) q = []ᴬ
    one (member k) q = []ᴬ

fields-few : (c : Context) (gs : List Group) → Good c gs → c.fields ≤ 32 → c.fields + length (field_groups gs) ≤ 32
fields-few c [] g l = omega arith
fields-few c (group h ms ∷ gs) g l = one h.kind g.0 (fields-few (after c (group h ms)) gs g.1)
  where
    one : (k : Kind) → GoodBy k c h ms → ((after_head k c).fields ≤ 32 → (after_head k c).fields + length (field_groups gs) ≤ 32) → c.fields + length (cons_if (is_field k) (group h ms) (field_groups gs)) ≤ 32
    one field q ih = let room = no_gt 32 c.fields q.0.roomy in let rest = ih (omega arith) in omega arith
    one unknown q ih = ih l
    one (constraint k) q ih = ih l
    one (projector k) q ih = ih l
    one (member k) q ih = ih l

constraints-few : (c : Context) (gs : List Group) → Good c gs → c.constraints ≤ 256 → c.constraints + length (constraint_groups gs) ≤ 256
constraints-few c [] g l = omega arith
constraints-few c (group h ms ∷ gs) g l = one h.kind g.0 (constraints-few (after c (group h ms)) gs g.1)
  where
    one : (k : Kind) → GoodBy k c h ms → ((after_head k c).constraints ≤ 256 → (after_head k c).constraints + length (constraint_groups gs) ≤ 256)
        → c.constraints + length (cons_if (is_constraint k) (group h ms) (constraint_groups gs)) ≤ 256
    one field q ih = ih l
    one unknown q ih = ih l
    one (constraint k) q ih = let room = no_gt 256 c.constraints q.0.roomy in let rest = ih (omega arith) in omega arith
    one (projector k) q ih = ih l
    one (member k) q ih = ih l

-- No field's domain is empty.
pub decoded-filled : (file : List ℕ) → Whole (records_of file) → All Filled (decoded file).fields
unfolding decoded spec_of
decoded-filled file w = fields-filled (context 0 0 0) (groups (records_of file)) w.good

-- At most 32 fields and 256 constraints.
pub decoded-few : (file : List ℕ) → Whole (records_of file) → (length (decoded file).fields ≤ 32) × (length (decoded file).constraints ≤ 256)
unfolding decoded spec_of
decoded-few file w = (
  (let few = fields-few (context 0 0 0) (groups (records_of file)) w.good (omega arith) in omega (arith, count-fields (groups (records_of file)))),
  (let few = constraints-few (context 0 0 0) (groups (records_of file)) w.good (omega arith) in omega (arith, count-constraints (groups (records_of file)))),
)

-- ---- the parts of "not refused by 1 to 10"
pub record FileGood (file : List ℕ) : Type 0 where
  pub whole32 : length file % 32 ≡ 0
  pub short : length file ≤ 65536
  pub whole : Whole (records_of file)
  pub sized : too_many (decoded file) ≡ false

pub file_good : (file : List ℕ) → file_fault file ≡ none → FileGood file
unfolding file_fault
file_good file e =
    let r = or_split (not (eqb (length file % 32) 0)) (ltb 65536 (length file)) (refuse_if_no (ragged file) 0 (▷_left (refuse_if (ragged file) 1) _ e)) in
    let c = ▷_right (refuse_if (ragged file) 1) _ e in
    record {
      whole32 = yes_eq (length file % 32) 0 (not-false (eqb (length file % 32) 0) r.0);
      short = no_ge 65536 (length file) r.1;
      whole = records_whole (records_of file) (▷_left (records_fault (records_of file)) _ c);
      sized = refuse_if_no (too_many (decoded file)) 9 (▷_right (records_fault (records_of file)) _ c);
    }
  where
    not-false : (b : Bool) → not b ≡ false → b ≡ true
    not-false true e = refl
    not-false false e = absurd (true≢false e)

pub good_file : (file : List ℕ) → FileGood file → file_fault file ≡ none
unfolding file_fault
good_file file g =
    ▷_none (refuse_if_ok (ragged file) 1 (ap₂ (λ (a : ℕ) (b : Bool). not (eqb a 0) || b) g.whole32 (ltb_no 65536 (length file) g.short)))
    (▷_none (whole_records (records_of file) g.whole) (refuse_if_ok (too_many (decoded file)) 10 g.sized))
