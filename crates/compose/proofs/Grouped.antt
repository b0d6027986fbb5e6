-- The groups of a file without faults: the fields', then the constraints', then one projector's; and what each of them names.
use mathlib.Core.Bool.{Bool, ◌&&◌, ◌||◌, false, false≢true, not, true, true≢false}
use mathlib.Core.List.{List, [], ◌++◌, ◌∷◌}
use mathlib.Core.Path.{◌∙◌, ◌≡◌, ap, refl, subst, sym}
use Prim.Native.Nat.{◌+◌, ◌<◌, suc, ℕ}
use native.Mathlib.Nat.{add-zero}
use native.Mathlib.Omega.{arith}
use lib.Dec.{eqb, leb, ltb}
use lib.IntN.{negsuc, pos, ℤ}
use lib.ListN.{length}
use lib.Signed.{le_z}
use Rattle.lists.specs.Integers.{eq_z}
use Rattle.lists.specs.Lists.{any, cons_if, is_empty}
use Rattle.lists.proofs.All.{All, []ᴬ, ◌∷ᴬ◌}
use Rattle.lists.proofs.Integers.{eq_z_eq}
use Rattle.lists.proofs.Tests.{and_split, cond-zero, eqb_yes, leb_yes, no_ge, no_gt, or_split, yes_eq}
use Rattle.spec.specs.Kind.{ConstraintKind, Kind, MemberKind, ProjectorKind, Row, Use, assign, axis, bitmask, constraint, constraint_row, cross, decompose, disable, enable_mask, enable_set, eq, even, field, ge, gt, identity, is_constraint, is_field, is_member, is_names, is_own, is_unused, item, key, le, lt, member, member_row, names, natural, neq, number, oneof, own, pair, parity, projector, projector_row, range, row_of, sum, unknown, unused, value}
use Rattle.spec.specs.Record.{Group, Record, group}
use Rattle.spec.specs.Refusal.{Context, after_head, bad_axis, bad_offset, bad_packing, bad_radix, context, negative, not_due, off_scale, on_scale, overlaps, stray_by}
use Rattle.spec.proofs.Good.{Good, GoodBy, MemberGood, MembersGood, constraint-row, constraint_groups, field_groups, list_good}
use Rattle.spec.proofs.Groups.{Proper}
use Rattle.spec.proofs.Uses.{not_off}
use Rattle.registry.specs.Code.{AxisIn, mask_by, mask_in}

-- ---- in which order
-- A projector's group behind n fields.
pub record Last (n : ℕ) (h : Record) (ms : List Record) : Type 0 where
  pub sort : ProjectorKind
  pub before : Context
  pub is_sort : h.kind ≡ projector sort
  pub fields-are : before.fields ≡ n
  pub good : GoodBy (projector sort) before h ms

-- Groups gs are fs, then cs, then a projector's, where f fields stand before.
pub record Laid (f : ℕ) (gs fs cs : List Group) : Type 0 where
  pub head : Record
  pub members : List Record
  pub split : gs ≡ fs ++ (cs ++ (group head members ∷ []))
  pub last : Last (f + length fs) head members

none_left : (c : Context) (gs : List Group) → c.section ≡ 2 → Good c gs → gs ≡ []
none_left c [] e g = refl
none_left c (group h ms ∷ gs) e g =
    let s = or_split (ltb _ c.section || eqb c.section 2) (not_due h.kind c.fields h) g.0.0.ordered in
    absurd (true≢false (sym (eqb_yes c.section 2 e) ∙ (or_split (ltb _ c.section) (eqb c.section 2) s.0).1))

-- What is laid when a projector is reached.
laid_last : (f : ℕ) (c : Context) (h : Record) (ms : List Record) (gs : List Group) (k : ProjectorKind) → h.kind ≡ projector k → c.fields ≡ f → GoodBy (projector k) c h ms → gs ≡ []
    → (field_groups gs ≡ []) × Laid f (group h ms ∷ gs) [] (constraint_groups gs)
laid_last f c h ms gs k e n a z = (
  ap field_groups z,
  record {
    head = h;
    members = ms;
    split = ap (λ (l : List Group). group h ms ∷ l) z ∙ sym (ap (λ (l : List Group). constraint_groups l ++ (group h ms ∷ [])) z);
    last = record { sort = k; before = c; is_sort = e; fields-are = n ∙ sym (add-zero f); good = a };
  },
)

laid_more : (f : ℕ) (g : Group) (gs cs : List Group) → Laid f gs [] cs → Laid f (g ∷ gs) [] (g ∷ cs)
laid_more f g gs cs l = record { head = l.head; members = l.members; split = ap (λ (x : List Group). g ∷ x) l.split; last = l.last }

laid_late : {gs : List Group} → All Proper gs → (f j : ℕ) → Good (context f j 1) gs → (field_groups gs ≡ []) × Laid f gs [] (constraint_groups gs)
laid_late []ᴬ f j g = absurd (false≢true g)
laid_late (◌∷ᴬ◌ {x = group h ms} {xs = gs} p t) f j g = step h.kind refl g.0 g.1 (laid_late t f (suc j))
  where
    step : (k : Kind) → h.kind ≡ k → GoodBy k (context f j 1) h ms → Good (after_head k (context f j 1)) gs → (Good (context f (suc j) 1) gs → (field_groups gs ≡ []) × Laid f gs [] (constraint_groups gs))
        → (cons_if (is_field k) (group h ms) (field_groups gs) ≡ []) × Laid f (group h ms ∷ gs) [] (cons_if (is_constraint k) (group h ms) (constraint_groups gs))
    step field e a b ih = absurd (true≢false a.0.ordered)
    step unknown e a b ih = absurd (true≢false a.0.known)
    step (constraint r) e a b ih = let l = ih b in (l.0, laid_more f (group h ms) gs (constraint_groups gs) l.1)
    step (projector r) e a b ih = laid_last f (context f j 1) h ms gs r e refl a (none_left (context f j 2) gs refl b)
    step (member r) e a b ih = absurd (true≢false (sym (ap is_member e) ∙ p.0))

laid_early : (f : ℕ) (gs fs cs : List Group) → fs ≡ [] → Laid f gs [] cs → Laid f gs fs cs
laid_early f gs fs cs e l = subst (λ (x : List Group). Laid f gs x cs) (sym e) l

pub good_laid : {gs : List Group} → All Proper gs → (f : ℕ) → Good (context f 0 0) gs → Laid f gs (field_groups gs) (constraint_groups gs)
good_laid []ᴬ f g = absurd (false≢true g)
good_laid (◌∷ᴬ◌ {x = group h ms} {xs = gs} p t) f g = step h.kind refl g.0 g.1 (good_laid t (suc f))
  where
    step : (k : Kind) → h.kind ≡ k → GoodBy k (context f 0 0) h ms → Good (after_head k (context f 0 0)) gs → (Good (context (suc f) 0 0) gs → Laid (suc f) gs (field_groups gs) (constraint_groups gs))
        → Laid f (group h ms ∷ gs) (cons_if (is_field k) (group h ms) (field_groups gs)) (cons_if (is_constraint k) (group h ms) (constraint_groups gs))
    step field e a b ih =
        let l = ih b in
        let n : suc f + length (field_groups gs) ≡ f + suc (length (field_groups gs)) = omega arith in
        record { head = l.head; members = l.members; split = ap (λ (x : List Group). group h ms ∷ x) l.split; last = subst (λ (k : ℕ). Last k l.head l.members) n l.last }
    step unknown e a b ih = absurd (true≢false a.0.known)
    step (constraint r) e a b ih =
        let l = laid_late t f 1 b in
        laid_early f (group h ms ∷ gs) (field_groups gs) (group h ms ∷ constraint_groups gs) l.0 (laid_more f (group h ms) gs (constraint_groups gs) l.1)
    step (projector r) e a b ih =
        let l = laid_last f (context f 0 0) h ms gs r e refl a (none_left (context f 0 2) gs refl b) in
        laid_early f (group h ms ∷ gs) (field_groups gs) (constraint_groups gs) l.0 l.1
    step (member r) e a b ih = absurd (true≢false (sym (ap is_member e) ∙ p.0))

-- ---- what a record names
pub unnot : (b : Bool) → not b ≡ false → b ≡ true
unnot true e = refl
unnot false e = absurd (true≢false e)

-- What test 3 says of the parts that a row does not use.
pub record Unstray (w : Row) (h : Record) : Type 0 where
  pub a_unused : (is_unused w.a && not (eqb h.a 0)) ≡ false
  pub b-unused : (is_unused w.b && not (eqb h.b 0)) ≡ false
  pub q_unused : (is_unused w.q && not (eq_z h.q (pos 0))) ≡ false

pub unstrayed : (w : Row) (h : Record) → stray_by w h ≡ false → Unstray w h
unstrayed w h e =
    let padding = not (eqb h.padding 0) in
    let a = is_unused w.a && not (eqb h.a 0) in
    let b = is_unused w.b && not (eqb h.b 0) in
    let p = is_unused w.p && not (eq_z h.p (pos 0)) in
    let q = is_unused w.q && not (eq_z h.q (pos 0)) in
    let r = is_unused w.r && not (eq_z h.r (pos 0)) in
    let s = or_split (padding || a || b || p || q) r e in
    let t = or_split (padding || a || b || p) q s.0 in
    let u = or_split (padding || a || b) p t.0 in
    let v = or_split (padding || a) b u.0 in
    record { a_unused = (or_split padding a v.0).1; b-unused = v.1; q_unused = t.1 }

-- A number that is not used is 0, and one that names a field is below n.
use_below : (u : Use) (x n : ℕ) → 0 < n → (is_unused u || is_names u) ≡ true → (is_unused u && not (eqb x 0)) ≡ false → (is_names u && leb n x) ≡ false → x < n
use_below unused x n l e s t = let z = yes_eq x 0 (unnot (eqb x 0) s) in omega arith
use_below number x n l e s t = absurd (false≢true e)
use_below natural x n l e s t = absurd (false≢true e)
use_below own x n l e s t = absurd (false≢true e)
use_below names x n l e s t = no_gt n x t

-- ---- a constraint
second_use : (k : ConstraintKind) → (is_unused (constraint_row k).b || is_names (constraint_row k).b) ≡ true
second_use range = refl
second_use even = refl
second_use eq = refl
second_use neq = refl
second_use lt = refl
second_use gt = refl
second_use le = refl
second_use ge = refl
second_use oneof = refl
second_use cross = refl
second_use enable_mask = refl
second_use bitmask = refl
second_use enable_set = refl

mask_good : (k : ConstraintKind) (h : Record) → off_scale (constraint k) h ≡ false → mask_by k h.p ≡ true
mask_good range h e = refl
mask_good even h e = refl
mask_good eq h e = refl
mask_good neq h e = refl
mask_good lt h e = refl
mask_good gt h e = refl
mask_good le h e = refl
mask_good ge h e = refl
mask_good oneof h e = refl
mask_good cross h e = refl
mask_good enable_mask h e = refl
mask_good bitmask h e =
    let s = or_split (not (on_scale h.p) || not (on_scale h.q) || not (on_scale h.r) || negative h.p) false e in
    rw (or_split (not (on_scale h.p) || not (on_scale h.q) || not (on_scale h.r)) (negative h.p) s.0).1
mask_good enable_set h e = refl

-- A member that is no axis: its a is not used, is that of its head, or names a field.
member_below : (k : Kind) (n : ℕ) (h : Record) (before : List Record) (m : Record) → h.a < n → is_member k ≡ true → eqb (row_of k m.b).list 33 ≡ false → MemberGood k n h before m → m.a < n
member_below field n h before m l e x g = absurd (false≢true e)
member_below unknown n h before m l e x g = absurd (false≢true e)
member_below (constraint k) n h before m l e x g = absurd (false≢true e)
member_below (projector k) n h before m l e x g = absurd (false≢true e)
member_below (member k) n h before m l e x g = by k x (unstrayed (member_row k) m g.unstray) g.due (or_split (is_names (member_row k).a && leb n m.a) (is_names (member_row k).b && leb n m.b) g.named).0
  where
    some_field : 0 < n
    some_field = omega arith

    by : (k : MemberKind) → eqb (member_row k).list 33 ≡ false → Unstray (member_row k) m → (is_own (member_row k).a && not (eqb m.a h.a)) ≡ false → (is_names (member_row k).a && leb n m.a) ≡ false → m.a < n
    by value x s d c = let z = yes_eq m.a h.a (unnot (eqb m.a h.a) d) in omega arith
    by item x s d c = use_below unused m.a n some_field refl s.a_unused c
    by pair x s d c = use_below unused m.a n some_field refl s.a_unused c
    by key x s d c = use_below unused m.a n some_field refl s.a_unused c
    by disable x s d c = no_gt n m.a c
    by assign x s d c = no_gt n m.a c
    by axis x s d c = absurd (true≢false x)

members_below : (k : Kind) (n : ℕ) (h : Record) (before ms : List Record) → h.a < n → eqb (row_of k h.b).list 33 ≡ false → MembersGood k n h before ms → All (λ (m : Record). m.a < n) ms
members_below k n h before [] l x g = []ᴬ
members_below k n h before (m ∷ ms) l x g =
    let s = and_split (is_member m.kind) (eqb (row_of k h.b).list (row_of m.kind m.b).list) g.0 in
    let list = yes_eq (row_of k h.b).list (row_of m.kind m.b).list s.1 in
    member_below m.kind n h before m l s.0 (ap (λ (i : ℕ). eqb i 33) (sym list) ∙ x) g.1 ∷ᴬ members_below k n h (before ++ (m ∷ [])) ms l x g.2

-- What a constraint and its members name, in a file of n fields.
pub record Names (k : Kind) (n : ℕ) (h : Record) (ms : List Record) : Type 0 where
  pub a_below : h.a < n
  pub b-below : h.b < n
  pub mask : mask_in k h.p ≡ true
  pub members_named : All (λ (m : Record). m.a < n) ms

pub constraint-names : (k : Kind) (n : ℕ) (h : Record) (ms : List Record) → is_constraint k ≡ true → GoodBy k (context n 0 0) h ms → Names k n h ms
constraint-names field n h ms e g = absurd (false≢true e)
constraint-names unknown n h ms e g = absurd (false≢true e)
constraint-names (constraint k) n h ms e g =
    let row = constraint_row k in
    let s = or_split (is_names row.a && leb n h.a) (is_names row.b && leb n h.b) g.0.named in
    let a : h.a < n = no_gt n h.a (sym (ap (λ (u : Use). is_names u && leb n h.a) (constraint-row k).0) ∙ s.0) in
    record {
      a_below = a;
      b-below = use_below row.b h.b n (omega arith) (second_use k) (unstrayed row h g.0.unstray).b-unused s.1;
      mask = mask_good k h g.0.scaled;
      members_named = members_below (constraint k) n h [] ms a (constraint-row k).1 g.1;
    }
constraint-names (projector k) n h ms e g = absurd (false≢true e)
constraint-names (member k) n h ms e g = absurd (false≢true e)

-- ---- a projector
-- The lists that projectors take: none, 0, or axes, 33.
abbrev is_packing : ℕ → Bool
is_packing list = eqb list 0 || eqb list 33

packing_row : (k : ProjectorKind) → is_packing (projector_row k).list ≡ true
packing_row sum = refl
packing_row identity = refl
packing_row parity = refl
packing_row decompose = refl

packing_axis : (k : MemberKind) (list : ℕ) → is_packing list ≡ true → eqb list (member_row k).list ≡ true → eqb (member_row k).list 33 ≡ true
packing_axis value list w e = absurd (false≢true (ap is_packing (sym (yes_eq list 1 e)) ∙ w))
packing_axis item list w e = absurd (false≢true (ap is_packing (sym (yes_eq list 18 e)) ∙ w))
packing_axis pair list w e = absurd (false≢true (ap is_packing (sym (yes_eq list 19 e)) ∙ w))
packing_axis key list w e = absurd (false≢true (ap is_packing (sym (yes_eq list 19 e)) ∙ w))
packing_axis disable list w e = absurd (false≢true (ap is_packing (sym (yes_eq list 20 e)) ∙ w))
packing_axis assign list w e = absurd (false≢true (ap is_packing (sym (yes_eq list 22 e)) ∙ w))
packing_axis axis list w e = refl

radix-natural : (width : ℕ) (radix : ℤ) → bad_radix width radix ≡ false → negative radix ≡ false
radix-natural width (pos k) e = refl
radix-natural width (negsuc k) e = absurd (true≢false e)

axis_in : (before : List Record) (m : Record) → bad_axis before m ≡ false → AxisIn m
axis_in before m e =
    let s = or_split (eqb m.a 0 || ltb 63 (m.b + m.a) || bad_radix m.a m.p) (any (overlaps m) before) e in
    let t = or_split (eqb m.a 0 || ltb 63 (m.b + m.a)) (bad_radix m.a m.p) s.0 in
    let l = no_ge 63 (m.b + m.a) (or_split (eqb m.a 0) (ltb 63 (m.b + m.a)) t.0).1 in
    record { width = omega arith; shift = omega arith; radix = radix-natural m.a m.p t.1 }

member_axis : (k : Kind) (list : ℕ) (before : List Record) (m : Record) → is_packing list ≡ true → (is_member k && eqb list (row_of k m.b).list) ≡ true → bad_packing k before m ≡ false → AxisIn m
member_axis field list before m w e b = absurd (false≢true e)
member_axis unknown list before m w e b = absurd (false≢true e)
member_axis (constraint k) list before m w e b = absurd (false≢true e)
member_axis (projector k) list before m w e b = absurd (false≢true e)
member_axis (member k) list before m w e b = axis_in before m (sym (ap (λ t. t && bad_axis before m) (packing_axis k list w e)) ∙ b)

axes_in : (k : ProjectorKind) (n : ℕ) (h : Record) (before ms : List Record) → MembersGood (projector k) n h before ms → All AxisIn ms
axes_in k n h before [] g = []ᴬ
axes_in k n h before (m ∷ ms) g = member_axis m.kind (projector_row k).list before m (packing_row k) g.0 g.1.packed ∷ᴬ axes_in k n h (before ++ (m ∷ [])) ms g.2

first_use : (k : ProjectorKind) → (is_unused (projector_row k).a || is_names (projector_row k).a) ≡ true
first_use sum = refl
first_use identity = refl
first_use parity = refl
first_use decompose = refl

zero_offset : (q : ℤ) → not (eq_z q (pos 0)) ≡ false → le_z q (pos 63) ≡ true
zero_offset q e = ap (λ (x : ℤ). le_z x (pos 63)) (eq_z_eq q (pos 0) (unnot (eq_z q (pos 0)) e))

good_offset : (ms : List Record) (q : ℤ) → bad_offset ms q ≡ false → le_z q (pos 63) ≡ true
good_offset ms (pos k) e = leb_yes k 63 (no_ge 63 k (or_split (ltb 63 k) (any (λ (m : Record). ltb k (m.b + m.a)) ms) e).0)
good_offset ms (negsuc k) e = refl

offset_in : (k : ProjectorKind) (h : Record) (ms : List Record) (c : Context) → GoodBy (projector k) c h ms → le_z h.q (pos 63) ≡ true
offset_in sum h ms c g = zero_offset h.q (unstrayed (projector_row sum) h g.0.unstray).q_unused
offset_in identity h ms c g = zero_offset h.q (unstrayed (projector_row identity) h g.0.unstray).q_unused
offset_in parity h ms c g = zero_offset h.q (unstrayed (projector_row parity) h g.0.unstray).q_unused
offset_in decompose h ms c g =
    good_offset ms h.q (or_split (is_empty ms) (bad_offset ms h.q) (cond-zero (is_empty ms || bad_offset ms h.q) 8 (list_good (projector decompose) c.fields h [] ms g.1))).1

-- What a projector names and how it packs, in a file of n fields.
pub record Packs (n : ℕ) (h : Record) (ms : List Record) : Type 0 where
  pub a_below : h.a < n
  pub base_in : on_scale h.p ≡ true
  pub offset_low : le_z h.q (pos 63) ≡ true
  pub axes_good : All AxisIn ms

pub projector_packs : (n : ℕ) (h : Record) (ms : List Record) → 0 < n → Last n h ms → Packs n h ms
projector_packs n h ms l t =
    let k = t.sort in
    let g = t.good in
    let c = t.before in
    let named = (or_split (is_names (projector_row k).a && leb c.fields h.a) (is_names (projector_row k).b && leb c.fields h.b) g.0.named).0 in
    record {
      a_below = use_below (projector_row k).a h.a n l (first_use k) (unstrayed (projector_row k) h g.0.unstray).a_unused (ap (λ (x : ℕ). is_names (projector_row k).a && leb x h.a) (sym t.fields-are) ∙ named);
      base_in = (not_off (projector k) h g.0.scaled).0;
      offset_low = offset_in k h ms c g;
      axes_good = axes_in k c.fields h [] ms g.1;
    }
