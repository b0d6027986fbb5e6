-- A file whose records have no fault, as facts about its groups.
use mathlib.Core.Bool.{Bool, ◌&&◌, ◌||◌, cond, false, false≢true, true, true≢false}
use mathlib.Core.List.{List, [], ◌++◌, ◌∷◌, append_assoc, append-nil}
use mathlib.Core.Option.{Option, none}
use mathlib.Core.Path.{◌∙◌, ◌≡◌, ap, ap₂, refl, subst, sym}
use Prim.Native.Nat.{◌+◌, ◌<◌, ◌≤◌, suc, ℕ}
use native.Mathlib.Nat.{add-zero}
use native.Mathlib.Omega.{arith}
use lib.Dec.{eqb, leb}
use lib.ListN.{length}
use Rattle.lists.specs.Lists.{cons_if, filter}
use Rattle.lists.proofs.All.{All, []ᴬ, ◌∷ᴬ◌}
use Rattle.lists.proofs.Tests.{eqb_no, leb_no, ltb_no, ltb_yes, no_gt, or_split}
use Rattle.spec.specs.Kind.{ConstraintKind, Kind, bitmask, constraint, constraint_row, cross, enable_mask, enable_set, eq, even, field, ge, gt, is_constraint, is_field, is_member, is_names, le, lt, member, names, neq, oneof, projector, range, row_of, unknown}
use Rattle.spec.specs.Record.{Group, Record, group, groups, member_run}
use Rattle.spec.specs.Refusal.{Context, Refused, after, after_head, bad_packing, belongs, blank_field, context, first_true, group_fault, groups_fault, head_tests, lead_fault, list_fault, member_fault, member_tests, members_fault, no_such_field, not_due, off_scale, out_of_order, overfull, records_fault, refuse, size_of, stray_byte, unknown_kind}
use Rattle.spec.proofs.Groups.{Proper, flat, records_flat}
use Rattle.spec.proofs.Refusals.{AllFalse, first_true-none, misfiled-refused, none-first_true, refuse-zero, ▷_left, ▷_none, ▷_right}

-- What the tests 2 to 8 of a head say when none is true.
pub record HeadGood (k : Kind) (c : Context) (h : Record) : Type 0 where
  pub known : unknown_kind k h ≡ false
  pub unstray : stray_byte k h ≡ false
  pub ordered : out_of_order k c h ≡ false
  pub roomy : overfull k c ≡ false
  pub named : no_such_field k c.fields h ≡ false
  pub scaled : off_scale k h ≡ false
  pub filled : blank_field k h ≡ false

-- What the tests 3 to 9 of a member say.
pub record MemberGood (k : Kind) (n : ℕ) (h : Record) (before : List Record) (m : Record) : Type 0 where
  pub unstray : stray_byte k m ≡ false
  pub due : not_due k h.a m ≡ false
  pub named : no_such_field k n m ≡ false
  pub scaled : off_scale k m ≡ false
  pub packed : bad_packing k before m ≡ false

-- A head of kind k takes the member.
abbrev pub belongs_by : Kind → Record → Record → Bool
belongs_by k h m = is_member m.kind && eqb (row_of k h.b).list (row_of m.kind m.b).list

-- The members ms of head h, of kind k, after those before; n fields stand before them.
abbrev pub MembersGood : Kind → ℕ → Record → List Record → List Record → Type 0
MembersGood k n h before [] = list_fault k h before ≡ 0
MembersGood k n h before (m ∷ ms) = (belongs_by k h m ≡ true) × MemberGood m.kind n h before m × MembersGood k n h (before ++ (m ∷ [])) ms

abbrev pub GoodBy : Kind → Context → Record → List Record → Type 0
GoodBy k c h ms = HeadGood k c h × MembersGood k (after_head k c).fields h [] ms

abbrev pub GroupGood : Context → Group → Type 0
GroupGood c (group h ms) = GoodBy h.kind c h ms

-- The groups after context c, up to and with a projector.
abbrev pub Good : Context → List Group → Type 0
Good c [] = eqb c.section 2 ≡ true
Good c (g ∷ gs) = GroupGood c g × Good (after c g) gs

-- ---- no fault, so good
head_good : (k : Kind) (c : Context) (h : Record) → AllFalse (head_tests k c h) → HeadGood k c h
head_good k c h t = record { known = t.0; unstray = t.1.0; ordered = t.1.1.0; roomy = t.1.1.1.0; named = t.1.1.1.1.0; scaled = t.1.1.1.1.1.0; filled = t.1.1.1.1.1.1.0 }

good_head : (k : Kind) (c : Context) (h : Record) → HeadGood k c h → AllFalse (head_tests k c h)
good_head k c h g = (g.known, (g.unstray, (g.ordered, (g.roomy, (g.named, (g.scaled, (g.filled, tt)))))))

member_good : (k : Kind) (n : ℕ) (h : Record) (before : List Record) (m : Record) → AllFalse (member_tests k n h before m) → MemberGood k n h before m
member_good k n h before m t = record { unstray = t.1.0; due = t.1.1.0; named = t.1.1.1.1.0; scaled = t.1.1.1.1.1.0; packed = t.1.1.1.1.1.1.1.0 }

good_member : (k : Kind) (n : ℕ) (h : Record) (before : List Record) (m : Record) → MemberGood k n h before m → AllFalse (member_tests k n h before m)
good_member k n h before m g = (refl, (g.unstray, (g.due, (refl, (g.named, (g.scaled, (refl, (g.packed, tt))))))))

module _ (n : ℕ) (h : Record) (i : ℕ) where
  members_good : (before ms : List Record) (j : ℕ) → members_fault n h i before ms j ≡ none → MembersGood h.kind n h before ms
  members_good before [] j e = refuse-zero (list_fault h.kind h before) i e
  members_good before (m ∷ ms) j e = go (belongs h m) refl e (members_good (before ++ (m ∷ [])) ms (suc j))
    where
      rest : Option Refused
      rest = members_fault n h i (before ++ (m ∷ [])) ms (suc j)

      go : (b : Bool) → belongs h m ≡ b → member_fault n h i b before m j rest ≡ none → (rest ≡ none → MembersGood h.kind n h (before ++ (m ∷ [])) ms)
          → (belongs h m ≡ true) × MemberGood m.kind n h before m × MembersGood h.kind n h (before ++ (m ∷ [])) ms
      go true q e ih =
          (q, member_good m.kind n h before m (first_true-none 1 (member_tests m.kind n h before m) (refuse-zero _ j (▷_left _ _ e))), ih (▷_right (refuse (first_true 2 (member_tests m.kind n h before m)) j) _ e))
      go false q e ih = absurd (misfiled-refused m j (▷_right (refuse (list_fault h.kind h before) i) _ e))

  good_members : (before ms : List Record) (j : ℕ) → MembersGood h.kind n h before ms → members_fault n h i before ms j ≡ none
  good_members before [] j g = rw g
  good_members before (m ∷ ms) j g = rw (g.0, none-first_true 2 (member_tests m.kind n h before m) (good_member m.kind n h before m g.1)) (good_members (before ++ (m ∷ [])) ms (suc j) g.2)

group_good : (c : Context) (i : ℕ) (g : Group) → group_fault c i g ≡ none → GroupGood c g
group_good c i (group h ms) e = (
  head_good h.kind c h (first_true-none 1 (head_tests h.kind c h) (refuse-zero _ i (▷_left _ _ e))),
  members_good (after_head h.kind c).fields h i [] ms (suc i) (▷_right (refuse (first_true 2 (head_tests h.kind c h)) i) _ e),
)

good_group : (c : Context) (i : ℕ) (g : Group) → GroupGood c g → group_fault c i g ≡ none
good_group c i (group h ms) g = rw (none-first_true 2 (head_tests h.kind c h) (good_head h.kind c h g.0)) (good_members (after_head h.kind c).fields h i [] ms (suc i) g.1)

pub groups_good : (c : Context) (i : ℕ) (gs : List Group) → groups_fault c i gs ≡ none → Good c gs
groups_good c i [] e = go (eqb c.section 2) e
  where
    go : (b : Bool) → cond b none (refuse 4 i) ≡ none → b ≡ true
    go true e = refl
    go false e = absurd (let z : ◌≡◌ {A = ℕ} 0 1 = cc in omega arith)
groups_good c i (g ∷ gs) e = (group_good c i g (▷_left _ _ e), groups_good (after c g) (i + size_of g) gs (▷_right (group_fault c i g) _ e))

pub good_groups : (c : Context) (i : ℕ) (gs : List Group) → Good c gs → groups_fault c i gs ≡ none
good_groups c i [] g = rw g
good_groups c i (x ∷ gs) g = ▷_none (good_group c i x g.0) (good_groups (after c x) (i + size_of x) gs g.1)

-- A list of good members has no fault as a whole.
pub list_good : (k : Kind) (n : ℕ) (h : Record) (before ms : List Record) → MembersGood k n h before ms → list_fault k h (before ++ ms) ≡ 0
list_good k n h before [] g = ap (list_fault k h) (append-nil before) ∙ g
list_good k n h before (m ∷ ms) g = ap (list_fault k h) (sym (append_assoc before (m ∷ []) ms)) ∙ list_good k n h (before ++ (m ∷ [])) ms g.2

-- ---- a whole file
-- The records are their groups laid end to end, and the groups are good.
pub record Whole (rs : List Record) : Type 0 where
  pub led : member_run rs ≡ []
  pub good : Good (context 0 0 0) (groups rs)

pub records_whole : (rs : List Record) → records_fault rs ≡ none → Whole rs
unfolding records_fault
records_whole rs e = go (member_run rs) refl e
  where
    go : (lead : List Record) → member_run rs ≡ lead → lead_fault lead (groups_fault (context 0 0 0) 1 (groups rs)) ≡ none → Whole rs
    go [] q e = record { led = q; good = groups_good (context 0 0 0) 1 (groups rs) e }
    go (m ∷ ms) q e = absurd (misfiled-refused m 1 e)

pub whole_records : (rs : List Record) → Whole rs → records_fault rs ≡ none
unfolding records_fault
whole_records rs w = ap (λ lead. lead_fault lead (groups_fault (context 0 0 0) 1 (groups rs))) w.led ∙ good_groups (context 0 0 0) 1 (groups rs) w.good

pub whole_flat : {rs : List Record} → Whole rs → rs ≡ flat (groups rs)
whole_flat {rs} w = records_flat rs ∙ ap (λ l. l ++ flat (groups rs)) w.led

-- ---- fields first, then constraints
-- A test of the head's kind.
abbrev pub head_is : (Kind → Bool) → Group → Bool
head_is test (group h ms) = test h.kind

abbrev pub field_groups : List Group → List Group
field_groups gs = filter (head_is is_field) gs

abbrev pub constraint_groups : List Group → List Group
constraint_groups gs = filter (head_is is_constraint) gs

-- A constraint's group in a file of f fields.
abbrev pub ConstraintGood : ℕ → Group → Type 0
ConstraintGood f g = (head_is is_constraint g ≡ true) × GroupGood (context f 0 0) g

-- Fields numbered from f on.
abbrev pub FieldsGood : ℕ → List Group → Type 0
FieldsGood f [] = Unit {0}
FieldsGood f (g ∷ gs) = (head_is is_field g ≡ true) × GroupGood (context f 0 0) g × FieldsGood (suc f) gs

-- ---- a constraint's group in another context
leb_more : (a b c : ℕ) → leb a c ≡ false → a ≤ b → leb b c ≡ false
leb_more a b c e h = leb_no b c (let q = no_gt a c e in omega arith)

named_more : (k : Kind) (n m : ℕ) (h : Record) → n ≤ m → no_such_field k n h ≡ false → no_such_field k m h ≡ false
named_more k n m h l e =
    let s = or_split (is_names (row_of k h.b).a && leb n h.a) (is_names (row_of k h.b).b && leb n h.b) e in
    ap₂ ◌||◌ (and_more (is_names (row_of k h.b).a) h.a s.0) (and_more (is_names (row_of k h.b).b) h.b s.1)
  where
    and_more : (x : Bool) (a : ℕ) → (x && leb n a) ≡ false → (x && leb m a) ≡ false
    and_more true a e = leb_more n m a e l
    and_more false a e = refl

members_more : (k : Kind) (n m : ℕ) (h : Record) (before ms : List Record) → n ≤ m → MembersGood k n h before ms → MembersGood k m h before ms
members_more k n m h before [] l g = g
members_more k n m h before (x ∷ ms) l g =
    let t = g.1 in
    (g.0, record { unstray = t.unstray; due = t.due; named = named_more x.kind n m x l t.named; scaled = t.scaled; packed = t.packed }, members_more k n m h (before ++ (x ∷ [])) ms l g.2)

-- what a constraint's row always says
pub constraint-row : (k : ConstraintKind) → ((constraint_row k).a ≡ names) × (eqb (constraint_row k).list 33 ≡ false)
constraint-row range = (refl, refl)
constraint-row even = (refl, refl)
constraint-row eq = (refl, refl)
constraint-row neq = (refl, refl)
constraint-row lt = (refl, refl)
constraint-row gt = (refl, refl)
constraint-row le = (refl, refl)
constraint-row ge = (refl, refl)
constraint-row oneof = (refl, refl)
constraint-row cross = (refl, refl)
constraint-row enable_mask = (refl, refl)
constraint-row bitmask = (refl, refl)
constraint-row enable_set = (refl, refl)

pub constraint_ordered : (k : ConstraintKind) (c : Context) (h : Record) → c.section < 2 → out_of_order (constraint k) c h ≡ false
constraint_ordered k c h l = rw (ltb_no 1 c.section (omega arith), eqb_no c.section 2 (omega arith), (constraint-row k).0)

pub constraint_more : (k : Kind) (f f' j j' x x' : ℕ) (h : Record) (ms : List Record) → is_constraint k ≡ true → f ≤ f' → j' < 256 → x' < 2
    → GoodBy k (context f j x) h ms → GoodBy k (context f' j' x') h ms
constraint_more field f f' j j' x x' h ms e l c d g = absurd (false≢true e)
constraint_more unknown f f' j j' x x' h ms e l c d g = absurd (false≢true e)
constraint_more (constraint k) f f' j j' x x' h ms e l c d g =
    let t = g.0 in (
      record {
        known = refl;
        unstray = t.unstray;
        ordered = constraint_ordered k (context f' j' x') h d;
        roomy = leb_no 256 j' c;
        named = named_more (constraint k) f f' h l t.named;
        scaled = t.scaled;
        filled = refl;
      },
      members_more (constraint k) f f' h [] ms l g.1,
    )
constraint_more (projector k) f f' j j' x x' h ms e l c d g = absurd (false≢true e)
constraint_more (member k) f f' j j' x x' h ms e l c d g = absurd (false≢true e)

-- after the first constraint or the projector no field follows
abbrev Late : ℕ → List Group → Type 0
Late f gs = (field_groups gs ≡ []) × All (ConstraintGood f) (constraint_groups gs)

late : {gs : List Group} → All Proper gs → (f j x : ℕ) → Good (context f j (suc x)) gs → Late f gs
late []ᴬ f j x g = (refl, []ᴬ)
late (◌∷ᴬ◌ {x = group h ms} {xs = gs} p t) f j x g = step h.kind refl g.0 g.1 (λ j x. late t f j x)
  where
    step : (k : Kind) → h.kind ≡ k → GoodBy k (context f j (suc x)) h ms → Good (after_head k (context f j (suc x))) gs → ((j x : ℕ) → Good (context f j (suc x)) gs → Late f gs)
        → (cons_if (is_field k) (group h ms) (field_groups gs) ≡ []) × All (ConstraintGood f) (cons_if (is_constraint k) (group h ms) (constraint_groups gs))
    step field e a b ih = absurd (true≢false (sym (ap (λ c. c || eqb (suc x) 2 || not_due field f h) (ltb_yes 0 (suc x) (omega arith))) ∙ a.0.ordered))
    step unknown e a b ih = absurd (true≢false a.0.known)
    step (constraint r) e a b ih =
        let l = ih (suc j) 0 b in
        (l.0, subst (λ (k : Kind). (is_constraint k ≡ true) × GoodBy k (context f 0 0) h ms) (sym e) (refl, constraint_more (constraint r) f f j 0 (suc x) 0 h ms refl (omega arith) (omega arith) (omega arith) a) ∷ᴬ l.1)
    step (projector r) e a b ih = ih j 1 b
    step (member r) e a b ih = absurd (true≢false (sym (ap is_member e) ∙ p.0))

-- A good file has its fields in order, and constraints that name only them.
abbrev pub Parts : ℕ → List Group → Type 0
Parts f gs = FieldsGood f (field_groups gs) × All (ConstraintGood (f + length (field_groups gs))) (constraint_groups gs)

parts_late : (f : ℕ) (fs cs : List Group) → fs ≡ [] → All (ConstraintGood f) cs → FieldsGood f fs × All (ConstraintGood (f + length fs)) cs
parts_late f fs cs e h = rw e (tt, rw (add-zero f) h)

pub good_parts : {gs : List Group} → All Proper gs → (f : ℕ) → Good (context f 0 0) gs → Parts f gs
good_parts []ᴬ f g = (tt, []ᴬ)
good_parts (◌∷ᴬ◌ {x = group h ms} {xs = gs} p t) f g = step h.kind refl g.0 g.1 (good_parts t)
  where
    step : (k : Kind) → h.kind ≡ k → GoodBy k (context f 0 0) h ms → Good (after_head k (context f 0 0)) gs → ((f : ℕ) → Good (context f 0 0) gs → Parts f gs)
        → FieldsGood f (cons_if (is_field k) (group h ms) (field_groups gs)) × All (ConstraintGood (f + length (cons_if (is_field k) (group h ms) (field_groups gs)))) (cons_if (is_constraint k) (group h ms) (constraint_groups gs))
    step field e a b ih =
        let l = ih (suc f) b in
        ((ap is_field e, subst (λ (k : Kind). GoodBy k (context f 0 0) h ms) (sym e) a, l.0), subst (λ (n : ℕ). All (ConstraintGood n) (constraint_groups gs)) (omega arith) l.1)
    step unknown e a b ih = absurd (true≢false a.0.known)
    step (constraint r) e a b ih =
        let l = late t f 1 0 b in
        parts_late f (field_groups gs) (group h ms ∷ constraint_groups gs) l.0
        (subst (λ (k : Kind). (is_constraint k ≡ true) × GoodBy k (context f 0 0) h ms) (sym e) (refl, a) ∷ᴬ l.1)
    step (projector r) e a b ih = let l = late t f 0 1 b in parts_late f (field_groups gs) (constraint_groups gs) l.0 l.1
    step (member r) e a b ih = absurd (true≢false (sym (ap is_member e) ∙ p.0))
