-- A renumbered record: it has the faults, in the joined file, that the record had in its own.
use mathlib.Core.Bool.{Bool, ◌&&◌, ◌||◌, cond, false, false≢true, not, true}
use mathlib.Core.List.{List, [], ◌++◌, ◌∷◌, map}
use mathlib.Core.Path.{◌∙◌, ◌≡◌, ap, ap₂, refl, subst, sym}
use Prim.Native.Nat.{◌+◌, ◌<◌, ◌≤◌, suc, zero, ℕ}
use native.Mathlib.Nat.{add-suc, add-zero, zero-add}
use native.Mathlib.Omega.{arith}
use lib.Dec.{eqb, leb, ltb}
use lib.IntN.{pos}
use lib.ListN.{length, length-map}
use Rattle.lists.specs.Lists.{is_empty}
use Rattle.lists.proofs.All.{All, []ᴬ, ◌∷ᴬ◌}
use Rattle.lists.proofs.Lists.{map_append}
use Rattle.lists.proofs.Numbers.{eqb_add}
use Rattle.lists.proofs.Tests.{and_split, eqb_no, leb_ext, leb_no, ltb_no, yes_eq}
use Rattle.spec.specs.Kind.{Kind, Row, Use, constraint, field, field_row, is_constraint, is_field, is_member, is_names, is_natural, is_own, is_unused, member, names, natural, number, own, projector, row_of, sum, unknown, unused}
use Rattle.spec.specs.Record.{Group, Record, group}
use Rattle.spec.specs.Refusal.{after_head, bad_axis, bad_packing, blank_by, context, list_fault, negative, no_such_field, not_due, off_scale, on_scale, stray_by, stray_byte}
use Rattle.spec.proofs.Good.{ConstraintGood, FieldsGood, Good, GoodBy, MemberGood, MembersGood, belongs_by, constraint_more, constraint_ordered, constraint-row, constraint_groups, field_groups, good_parts}
use Rattle.spec.proofs.Groups.{Proper}
use Rattle.classifier.specs.Page.{due}
use Rattle.join.specs.Join.{add_if, moves}

abbrev pub move_by : Kind → ℕ → Record → Record
move_by k n h = record {
  code = h.code;
  kind = h.kind;
  a = add_if (moves (row_of k h.b).a) n h.a;
  b = add_if (moves (row_of k h.b).b) n h.b;
  padding = h.padding;
  p = h.p;
  q = h.q;
  r = h.r;
}

abbrev pub move_record : ℕ → Record → Record
move_record n h = move_by h.kind n h

abbrev pub move_group : ℕ → Group → Group
move_group n (group h ms) = group (move_record n h) (map (move_record n) ms)

-- ---- one number of a record, by its use
leb_add : (n a b : ℕ) → leb (n + a) (n + b) ≡ leb a b
leb_add n a b = leb_ext (n + a) (n + b) a b (λ h. omega arith) (λ h. omega arith)

unused-move : (u : Use) (n a : ℕ) → (is_unused u && not (eqb (add_if (moves u) n a) 0)) ≡ (is_unused u && not (eqb a 0))
unused-move unused n a = refl
unused-move number n a = refl
unused-move natural n a = refl
unused-move own n a = refl
unused-move names n a = refl

names-move : (u : Use) (n f a : ℕ) → (is_names u && leb (n + f) (add_if (moves u) n a)) ≡ (is_names u && leb f a)
names-move unused n f a = refl
names-move number n f a = refl
names-move natural n f a = refl
names-move own n f a = refl
names-move names n f a = leb_add n f a

own-move : (u : Use) (n due a : ℕ) → (is_own u && not (eqb (add_if (moves u) n a) (n + due))) ≡ (is_own u && not (eqb a due))
own-move unused n due a = refl
own-move number n due a = refl
own-move natural n due a = refl
own-move own n due a = ap not (eqb_add n a due)
own-move names n due a = refl

-- ---- one record
module _ (n : ℕ) where
  -- a form is not moved
  pub field_form : (b : ℕ) → add_if (moves (field_row b).b) n b ≡ b
  field_form zero = refl
  field_form (suc zero) = refl
  field_form (suc (suc b)) = refl

  field_number : (b a : ℕ) → add_if (moves (field_row b).a) n a ≡ n + a
  field_number zero a = refl
  field_number (suc zero) a = refl
  field_number (suc (suc b)) a = refl

  pub row_move : (k : Kind) (h : Record) → row_of k (move_by k n h).b ≡ row_of k h.b
  row_move field h = ap field_row (field_form h.b)
  row_move unknown h = refl
  row_move (constraint k) h = refl
  row_move (projector k) h = refl
  row_move (member k) h = refl

  stray_move : (k : Kind) (h : Record) → stray_byte k (move_by k n h) ≡ stray_byte k h
  stray_move k h = ap (λ (w : Row). stray_by w (move_by k n h)) (row_move k h) ∙ rw (unused-move (row_of k h.b).a n h.a, unused-move (row_of k h.b).b n h.b)

  not_due-move : (k : Kind) (due : ℕ) (h : Record) → not_due k (n + due) (move_by k n h) ≡ not_due k due h
  not_due-move k due h = ap (λ (w : Row). is_own w.a && not (eqb (move_by k n h).a (n + due))) (row_move k h) ∙ own-move (row_of k h.b).a n due h.a

  named-move : (k : Kind) (f : ℕ) (h : Record) → no_such_field k (n + f) (move_by k n h) ≡ no_such_field k f h
  named-move k f h =
      ap (λ (w : Row). (is_names w.a && leb (n + f) (move_by k n h).a) || (is_names w.b && leb (n + f) (move_by k n h).b)) (row_move k h)
      ∙ ap₂ ◌||◌ (names-move (row_of k h.b).a n f h.a) (names-move (row_of k h.b).b n f h.b)

  scaled-move : (k : Kind) (h : Record) → off_scale k (move_by k n h) ≡ off_scale k h
  scaled-move k h =
      ap (λ (w : Row). not (on_scale h.p) || not (on_scale h.q) || not (on_scale h.r) || (is_natural w.p && negative h.p) || (is_natural w.r && negative h.r)) (row_move k h)

  -- ---- a list of members, whose head moves and takes no axes
  module _ (k : Kind) (h : Record) (head : moves (row_of k h.b).a ≡ true) (axes : eqb (row_of k h.b).list 33 ≡ false) where
    belongs-move : (m : Record) → belongs_by k (move_by k n h) (move_record n m) ≡ belongs_by k h m
    belongs-move m = ap₂ (λ (w v : Row). is_member m.kind && eqb w.list v.list) (row_move k h) (row_move m.kind m)

    unpacked : (j : Kind) (before : List Record) (m : Record) → (is_member j && eqb (row_of k h.b).list (row_of j m.b).list) ≡ true → bad_packing j before (move_by j n m) ≡ false
    unpacked j before m e =
        ap (λ (w : Row). eqb w.list 33 && bad_axis before (move_by j n m)) (row_move j m)
        ∙ ap (λ (l : ℕ). eqb l 33 && bad_axis before (move_by j n m)) (sym (yes_eq (row_of k h.b).list (row_of j m.b).list (and_split (is_member j) _ e).1))
        ∙ ap (λ b. b && bad_axis before (move_by j n m)) axes

    member-move : (j : Kind) (f : ℕ) (before before' : List Record) (m : Record) → (is_member j && eqb (row_of k h.b).list (row_of j m.b).list) ≡ true
        → MemberGood j f h before m → MemberGood j (n + f) (move_by k n h) before' (move_by j n m)
    member-move j f before before' m e g = record {
      unstray = stray_move j m ∙ g.unstray;
      due = ap (λ b. not_due j (add_if b n h.a) (move_by j n m)) head ∙ not_due-move j h.a m ∙ g.due;
      named = named-move j f m ∙ g.named;
      scaled = scaled-move j m ∙ g.scaled;
      packed = unpacked j before' m e;
    }

    members_move : ((before : List Record) → list_fault k h before ≡ 0 → list_fault k (move_by k n h) (map (move_record n) before) ≡ 0)
        → (f : ℕ) (before ms : List Record) → MembersGood k f h before ms → MembersGood k (n + f) (move_by k n h) (map (move_record n) before) (map (move_record n) ms)
    members_move closes f before [] g = closes before g
    members_move closes f before (m ∷ ms) g = (
      belongs-move m ∙ g.0,
      member-move m.kind f before (map (move_record n) before) m g.0 g.1,
      subst (λ l. MembersGood k (n + f) (move_by k n h) l (map (move_record n) ms)) (map_append (move_record n) before (m ∷ [])) (members_move closes f (before ++ (m ∷ [])) ms g.2),
    )

  -- ---- a group
  constraint_moved : (k : Kind) (f j x : ℕ) (h : Record) (ms : List Record) → is_constraint k ≡ true → GoodBy k (context f j x) h ms → GoodBy k (context (n + f) 0 0) (move_by k n h) (map (move_record n) ms)
  constraint_moved field f j x h ms e g = absurd (false≢true e)
  constraint_moved unknown f j x h ms e g = absurd (false≢true e)
  constraint_moved (constraint k) f j x h ms e g =
      let t = g.0 in (
        record {
          known = refl;
          unstray = stray_move (constraint k) h ∙ t.unstray;
          ordered = constraint_ordered k (context (n + f) 0 0) (move_by (constraint k) n h) (omega arith);
          roomy = refl;
          named = named-move (constraint k) f h ∙ t.named;
          scaled = scaled-move (constraint k) h ∙ t.scaled;
          filled = refl;
        },
        members_move (constraint k) h (ap moves (constraint-row k).0) (constraint-row k).1 (λ before e. refl) f [] ms g.1,
      )
  constraint_moved (projector k) f j x h ms e g = absurd (false≢true e)
  constraint_moved (member k) f j x h ms e g = absurd (false≢true e)

  blank_move : (b : ℕ) (h : Record) → blank_by b (move_by field n h) ≡ blank_by b h
  blank_move zero h = refl
  blank_move (suc zero) h = refl
  blank_move (suc (suc b)) h = refl

  field_list : (b : ℕ) → eqb (field_row b).list 33 ≡ false
  field_list zero = refl
  field_list (suc zero) = refl
  field_list (suc (suc b)) = refl

  field_moves : (b : ℕ) → moves (field_row b).a ≡ true
  field_moves zero = refl
  field_moves (suc zero) = refl
  field_moves (suc (suc b)) = refl

  is_empty-map : (l : List Record) → is_empty (map (move_record n) l) ≡ is_empty l
  is_empty-map [] = refl
  is_empty-map (x ∷ l) = refl

  field_moved : (k : Kind) (f : ℕ) (h : Record) (ms : List Record) → is_field k ≡ true → n + f < 32 → GoodBy k (context f 0 0) h ms → GoodBy k (context (n + f) 0 0) (move_by k n h) (map (move_record n) ms)
  field_moved field f h ms e l g =
      let t = g.0 in (
        record {
          known = ap (ltb 2) (field_form h.b) ∙ t.known;
          unstray = stray_move field h ∙ t.unstray;
          ordered = not_due-move field f h ∙ t.ordered;
          roomy = leb_no 32 (n + f) l;
          named = named-move field f h ∙ t.named;
          scaled = scaled-move field h ∙ t.scaled;
          filled = ap (λ (b : ℕ). blank_by b (move_by field n h)) (field_form h.b) ∙ blank_move h.b h ∙ t.filled;
        },
        subst (λ (i : ℕ). MembersGood field i (move_by field n h) [] (map (move_record n) ms)) (add-suc n f)
            (members_move field h (field_moves h.b) (field_list h.b)
            (λ before e. ap₂ (λ (b : ℕ) (c : Bool). cond (eqb b 2 && c) 8 0) (field_form h.b) (is_empty-map before) ∙ e) (suc f) [] ms g.1),
      )
  field_moved unknown f h ms e l g = absurd (false≢true e)
  field_moved (constraint k) f h ms e l g = absurd (false≢true e)
  field_moved (projector k) f h ms e l g = absurd (false≢true e)
  field_moved (member k) f h ms e l g = absurd (false≢true e)

-- ---- the joined groups
abbrev pub sum_record : Record
sum_record = record { code = 30; kind = projector sum; a = 0; b = 0; padding = 0; p = pos 0; q = pos 0; r = pos 0 }

-- the first has n fields
abbrev pub join_groups : ℕ → List Group → List Group → List Group
join_groups n F G = field_groups F ++ (map (move_group n) (field_groups G) ++ (constraint_groups F ++ (map (move_group n) (constraint_groups G) ++ (group sum_record [] ∷ []))))

after_field : (k : Kind) (f : ℕ) → is_field k ≡ true → after_head k (context f 0 0) ≡ context (suc f) 0 0
after_field field f e = refl
after_field unknown f e = absurd (false≢true e)
after_field (constraint k) f e = absurd (false≢true e)
after_field (projector k) f e = absurd (false≢true e)
after_field (member k) f e = absurd (false≢true e)

after-constraint : (k : Kind) (f j x : ℕ) → is_constraint k ≡ true → after_head k (context f j x) ≡ context f (suc j) 1
after-constraint field f j x e = absurd (false≢true e)
after-constraint unknown f j x e = absurd (false≢true e)
after-constraint (constraint k) f j x e = refl
after-constraint (projector k) f j x e = absurd (false≢true e)
after-constraint (member k) f j x e = absurd (false≢true e)

add_fields : (gs : List Group) (f : ℕ) (rest : List Group) → FieldsGood f gs → Good (context (f + length gs) 0 0) rest → Good (context f 0 0) (gs ++ rest)
add_fields [] f rest h t = subst (λ (n : ℕ). Good (context n 0 0) rest) (add-zero f) t
add_fields (group h ms ∷ gs) f rest q t =
    (q.1, subst (λ c. Good c (gs ++ rest)) (sym (after_field h.kind f q.0)) (add_fields gs (suc f) rest q.2 (subst (λ (n : ℕ). Good (context n 0 0) rest) (omega arith) t)))

move-fields : (n : ℕ) (gs : List Group) (f : ℕ) → n + f + length gs ≤ 32 → FieldsGood f gs → FieldsGood (n + f) (map (move_group n) gs)
move-fields n [] f l h = tt
move-fields n (group h ms ∷ gs) f l q =
    (q.0, field_moved n h.kind f h ms q.0 (omega arith) q.1, subst (λ (a : ℕ). FieldsGood a (map (move_group n) gs)) (add-suc n f) (move-fields n gs (suc f) (omega arith) q.2))

move-constraints : (n m : ℕ) {gs : List Group} → All (ConstraintGood m) gs → All (ConstraintGood (n + m)) (map (move_group n) gs)
move-constraints n m []ᴬ = []ᴬ
move-constraints n m (◌∷ᴬ◌ {x = group h ms} q t) = (q.0, constraint_moved n h.kind m 0 0 h ms q.0 q.1) ∷ᴬ move-constraints n m t

more_constraints : (n m : ℕ) {gs : List Group} → All (ConstraintGood n) gs → All (ConstraintGood (n + m)) gs
more_constraints n m []ᴬ = []ᴬ
more_constraints n m (◌∷ᴬ◌ {x = group h ms} q t) = (q.0, constraint_more h.kind n (n + m) 0 0 0 0 h ms q.0 (omega arith) (omega arith) (omega arith) q.1) ∷ᴬ more_constraints n m t

add_constraints : (f : ℕ) {gs : List Group} (rest : List Group) (j x : ℕ) → All (ConstraintGood f) gs → x < 2 → j + length gs ≤ 256
    → ((y : ℕ) → y < 2 → Good (context f (j + length gs) y) rest) → Good (context f j x) (gs ++ rest)
add_constraints f rest j x []ᴬ e l t = subst (λ (a : ℕ). Good (context f a x) rest) (add-zero j) (t x e)
add_constraints f rest j x (◌∷ᴬ◌ {x = group h ms} {xs = gs} q r) e l t = (
  constraint_more h.kind f f 0 j 0 x h ms q.0 (omega arith) (omega arith) e q.1,
  subst (λ c. Good c (gs ++ rest)) (sym (after-constraint h.kind f j x q.0))
      (add_constraints f rest (suc j) 1 r (omega arith) (omega arith) (λ y d. subst (λ (a : ℕ). Good (context f a y) rest) (omega arith) (t y d))),
)

sum_good : (f j x : ℕ) → x < 2 → Good (context f j x) (group sum_record [] ∷ [])
sum_good f j x l = ((record { known = refl; unstray = refl; ordered = rw (ltb_no 2 x (omega arith), eqb_no x 2 (omega arith)); roomy = refl; named = refl; scaled = refl; filled = refl }, refl), refl)

module _ {F G : List Group} (pF : All Proper F) (pG : All Proper G) (few : length (field_groups F) + length (field_groups G) ≤ 32) (fewer : length (constraint_groups F) + length (constraint_groups G) ≤ 256)
    (a : Good (context 0 0 0) F) (b : Good (context 0 0 0) G) where
  constraints_good : (x : ℕ) → x < 2
      → Good (context (length (field_groups F) + length (field_groups G)) 0 x) (constraint_groups F ++ (map (move_group (length (field_groups F))) (constraint_groups G) ++ (group sum_record [] ∷ [])))
  constraints_good x e =
      let n = length (field_groups F) in
      let m = length (field_groups G) in
      let p : All (ConstraintGood n) (constraint_groups F) = subst (λ (k : ℕ). All (ConstraintGood k) (constraint_groups F)) (zero-add n) (good_parts pF 0 a).1 in
      let q : All (ConstraintGood m) (constraint_groups G) = subst (λ (k : ℕ). All (ConstraintGood k) (constraint_groups G)) (zero-add m) (good_parts pG 0 b).1 in
      add_constraints (n + m) (map (move_group n) (constraint_groups G) ++ (group sum_record [] ∷ [])) 0 x (more_constraints n m p) e (omega arith)
      (λ y d. add_constraints (n + m) (group sum_record [] ∷ []) (0 + length (constraint_groups F)) y (move-constraints n m q) d (rw (length-map (constraint_groups G) (move_group n)) (omega arith))
      (λ z c. sum_good (n + m) (0 + length (constraint_groups F) + length (map (move_group n) (constraint_groups G))) z c))

  -- The groups of two good files join to the groups of a good file.
  pub join_good : Good (context 0 0 0) (join_groups (length (field_groups F)) F G)
  join_good =
      let n = length (field_groups F) in
      let rest = constraint_groups F ++ (map (move_group n) (constraint_groups G) ++ (group sum_record [] ∷ [])) in
      let p : FieldsGood 0 (field_groups F) = (good_parts pF 0 a).0 in
      let q : FieldsGood 0 (field_groups G) = (good_parts pG 0 b).0 in
      let w : FieldsGood n (map (move_group n) (field_groups G)) = subst (λ (k : ℕ). FieldsGood k (map (move_group n) (field_groups G))) (add-zero n) (move-fields n (field_groups G) 0 (omega arith) q) in
      add_fields (field_groups F) 0 (map (move_group n) (field_groups G) ++ rest) p
      (subst (λ (k : ℕ). Good (context k 0 0) (map (move_group n) (field_groups G) ++ rest)) (sym (zero-add n))
      (add_fields (map (move_group n) (field_groups G)) n rest w
      (subst (λ (k : ℕ). Good (context (n + k) 0 0) rest) (sym (length-map (field_groups G) (move_group n))) (constraints_good 0 (omega arith)))))
