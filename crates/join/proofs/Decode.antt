-- The joined groups decode to the joined specification.
use mathlib.Core.Bool.{Bool, false, false≢true, true, true≢false}
use mathlib.Core.List.{List, [], ◌++◌, ◌∷◌, append-nil, foldl, foldl-append, map}
use mathlib.Core.Path.{◌∙◌, ◌≡◌, ap, ap₂, refl, sym}
use Prim.Native.Nat.{◌+◌, suc, zero, ℕ}
use lib.ListN.{length}
use Rattle.lists.specs.Lists.{concat_map}
use Rattle.lists.proofs.All.{All, All_imp, []ᴬ, ◌∷ᴬ◌, filter-all}
use Rattle.lists.proofs.Lists.{concat_map_append, concat_map_nil, map_append}
use Rattle.spec.specs.Kind.{ConstraintKind, Kind, Use, bitmask, constraint, cross, enable_mask, enable_set, eq, even, field, ge, gt, is_constraint, is_field, le, lt, member, neq, oneof, projector, range, row_of, unknown}
use Rattle.spec.specs.Record.{Group, Record, assignment_of, constraint_by, constraint_in, constraint_of, entry_of, field_by, field_in, field_of, group, projector_in, projector_of, spec_of}
use Rattle.spec.specs.Refusal.{Context, context}
use Rattle.spec.specs.Spec.{Assign, Check, Cross, Enable, Listed, Oneof, ProjectorSpec, Sum, by_mask, by_set}
use Rattle.spec.proofs.Accepted.{constraint_of_other, constraints_of-groups, count-fields, field_of_other, fields_of-groups, is_writing, writer_names}
use Rattle.spec.proofs.Good.{ConstraintGood, GoodBy, MembersGood, constraint_groups, field_groups, head_is}
use Rattle.join.specs.Join.{add_if, join_spec, move, move_assignment, moves}
use Rattle.join.proofs.Moved.{field_form, join_groups, move_by, move_group, move_record, sum_record}

-- ---- decoding a renumbered group
module _ (n : ℕ) where
  ps_move : (ms : List Record) → map (λ (m : Record). m.p) (map (move_record n) ms) ≡ map (λ (m : Record). m.p) ms
  ps_move [] = refl
  ps_move (m ∷ ms) = ap (λ l. m.p ∷ l) (ps_move ms)

  entries_move : (ms : List Record) → map entry_of (map (move_record n) ms) ≡ map entry_of ms
  entries_move [] = refl
  entries_move (m ∷ ms) = ap (λ l. entry_of m ∷ l) (entries_move ms)

  writes_move : (k : Kind) (f : ℕ) (h : Record) (before ms : List Record) → is_writing (row_of k h.b).list ≡ true → MembersGood k f h before ms
      → map assignment_of (map (move_record n) ms) ≡ map (move_assignment n) (map assignment_of ms)
  writes_move k f h before [] w g = refl
  writes_move k f h before (m ∷ ms) w g = ap₂ ◌∷◌
      (ap (λ (u : Use). Assign (add_if (moves u) n m.a) m.p) (writer_names m.kind (row_of k h.b).list m.b w g.0))
      (writes_move k f h (before ++ (m ∷ [])) ms w g.2)

  field_by-move : (form : ℕ) (h : Record) (ms : List Record) → field_by form (move_by field n h) (map (move_record n) ms) ≡ field_by form h ms
  field_by-move zero h ms = refl
  field_by-move (suc zero) h ms = refl
  field_by-move (suc (suc k)) h ms = ap Listed (ps_move ms)

  field_in-move : (k : Kind) (h : Record) (ms : List Record) → field_in k (move_by k n h) (map (move_record n) ms) ≡ field_in k h ms
  field_in-move field h ms = ap (λ d. d ∷ []) (ap (λ (b : ℕ). field_by b (move_by field n h) (map (move_record n) ms)) (field_form n h.b) ∙ field_by-move h.b h ms)
  field_in-move unknown h ms = refl
  field_in-move (constraint k) h ms = refl
  field_in-move (projector k) h ms = refl
  field_in-move (member k) h ms = refl

  constraint_by-move : (k : ConstraintKind) (f : ℕ) (h : Record) (ms : List Record) → MembersGood (constraint k) f h [] ms
      → constraint_by k (move_by (constraint k) n h) (map (move_record n) ms) ≡ move n (constraint_by k h ms)
  constraint_by-move range f h ms g = refl
  constraint_by-move even f h ms g = refl
  constraint_by-move eq f h ms g = refl
  constraint_by-move neq f h ms g = refl
  constraint_by-move lt f h ms g = refl
  constraint_by-move gt f h ms g = refl
  constraint_by-move le f h ms g = refl
  constraint_by-move ge f h ms g = refl
  constraint_by-move oneof f h ms g = ap (λ l. Check (n + h.a) (Oneof l)) (ps_move ms)
  constraint_by-move cross f h ms g = ap (λ l. Cross (n + h.a) (n + h.b) l) (entries_move ms)
  constraint_by-move enable_mask f h ms g = ap (λ l. Enable by_mask (n + h.a) h.p l) (writes_move (constraint enable_mask) f h [] ms refl g)
  constraint_by-move bitmask f h ms g = refl
  constraint_by-move enable_set f h ms g = ap (λ l. Enable by_set (n + h.a) h.p l) (writes_move (constraint enable_set) f h [] ms refl g)

  constraint_in-move : (k : Kind) (c : Context) (h : Record) (ms : List Record) → GoodBy k c h ms → constraint_in k (move_by k n h) (map (move_record n) ms) ≡ map (move n) (constraint_in k h ms)
  constraint_in-move field c h ms g = refl
  constraint_in-move unknown c h ms g = refl
  constraint_in-move (constraint k) c h ms g = ap (λ r. r ∷ []) (constraint_by-move k c.fields h ms g.1)
  constraint_in-move (projector k) c h ms g = refl
  constraint_in-move (member k) c h ms g = refl

  fields-move : (gs : List Group) → concat_map field_of (map (move_group n) gs) ≡ concat_map field_of gs
  fields-move [] = refl
  fields-move (group h ms ∷ gs) = ap₂ ◌++◌ (field_in-move h.kind h ms) (fields-move gs)

  constraints-move : (f : ℕ) {gs : List Group} → All (ConstraintGood f) gs → concat_map constraint_of (map (move_group n) gs) ≡ map (move n) (concat_map constraint_of gs)
  constraints-move f []ᴬ = refl
  constraints-move f (◌∷ᴬ◌ {x = group h ms} {xs = gs} q t) =
      ap₂ ◌++◌ (constraint_in-move h.kind (context f 0 0) h ms q.1) (constraints-move f t) ∙ sym (map_append (move n) (constraint_in h.kind h ms) (concat_map constraint_of gs))

-- ---- groups of one sort
field_no_constraint : (k : Kind) → is_field k ≡ true → is_constraint k ≡ false
field_no_constraint field e = refl
field_no_constraint unknown e = refl
field_no_constraint (constraint k) e = absurd (false≢true e)
field_no_constraint (projector k) e = refl
field_no_constraint (member k) e = refl

constraint_no_field : (k : Kind) → is_constraint k ≡ true → is_field k ≡ false
constraint_no_field k e = go (is_field k) refl
  where
    go : (b : Bool) → is_field k ≡ b → b ≡ false
    go true h = absurd (true≢false (sym e ∙ field_no_constraint k h))
    go false h = refl

constraints_of_field : (g : Group) → head_is is_field g ≡ true → constraint_of g ≡ []
constraints_of_field (group h ms) e = constraint_of_other (group h ms) (field_no_constraint h.kind e)

fields_of-constraint : (g : Group) → head_is is_constraint g ≡ true → field_of g ≡ []
fields_of-constraint (group h ms) e = field_of_other (group h ms) (constraint_no_field h.kind e)

projector_of_field : (k : Kind) → is_field k ≡ true → (h : Record) (ms : List Record) (d : ProjectorSpec) → projector_in k h ms d ≡ d
projector_of_field field e h ms d = refl
projector_of_field unknown e h ms d = refl
projector_of_field (constraint k) e h ms d = refl
projector_of_field (projector k) e h ms d = absurd (false≢true e)
projector_of_field (member k) e h ms d = refl

projector_of-constraint : (k : Kind) → is_constraint k ≡ true → (h : Record) (ms : List Record) (d : ProjectorSpec) → projector_in k h ms d ≡ d
projector_of-constraint field e h ms d = refl
projector_of-constraint unknown e h ms d = refl
projector_of-constraint (constraint k) e h ms d = refl
projector_of-constraint (projector k) e h ms d = absurd (false≢true e)
projector_of-constraint (member k) e h ms d = refl

-- renumbering keeps the kinds
moved_all : (n : ℕ) (test : Kind → Bool) {gs : List Group} → All (λ g. head_is test g ≡ true) gs → All (λ g. head_is test g ≡ true) (map (move_group n) gs)
moved_all n test []ᴬ = []ᴬ
moved_all n test (◌∷ᴬ◌ {x = group h ms} e t) = ◌∷ᴬ◌ {x = move_group n (group h ms)} e (moved_all n test t)

projector-kept : (test : Kind → Bool) → ((k : Kind) → test k ≡ true → (h : Record) (ms : List Record) (d : ProjectorSpec) → projector_in k h ms d ≡ d)
    → (d : ProjectorSpec) {gs : List Group} → All (λ g. head_is test g ≡ true) gs → foldl projector_of d gs ≡ d
projector-kept test keeps d []ᴬ = refl
projector-kept test keeps d (◌∷ᴬ◌ {x = group h ms} e t) = rw (keeps h.kind e h ms d) (projector-kept test keeps d t)

-- ---- five parts in a row
module _ {B : Type 0} (f : Group → List B) (n : ℕ) (F G : List Group) where
  five : concat_map f (join_groups n F G)
      ≡ concat_map f (field_groups F) ++ (concat_map f (map (move_group n) (field_groups G)) ++ (concat_map f (constraint_groups F) ++ (concat_map f (map (move_group n) (constraint_groups G)) ++ (f (group sum_record []) ++ []))))
  five =
      concat_map_append f (field_groups F) _ ∙ ap (λ l. concat_map f (field_groups F) ++ l)
      (concat_map_append f (map (move_group n) (field_groups G)) _ ∙ ap (λ l. concat_map f (map (move_group n) (field_groups G)) ++ l)
      (concat_map_append f (constraint_groups F) _ ∙ ap (λ l. concat_map f (constraint_groups F) ++ l)
      (concat_map_append f (map (move_group n) (constraint_groups G)) _)))

fields_joined : (n : ℕ) (F G : List Group) → concat_map field_of (join_groups n F G) ≡ concat_map field_of F ++ concat_map field_of G
fields_joined n F G = five field_of n F G ∙ ap₂ ◌++◌ (fields_of-groups F)
    (ap₂ ◌++◌ (fields-move n (field_groups G) ∙ fields_of-groups G)
    (ap₂ ◌++◌ (concat_map_nil field_of (All_imp fields_of-constraint (filter-all (head_is is_constraint) F)))
    (ap₂ ◌++◌ (concat_map_nil field_of (All_imp fields_of-constraint (moved_all n is_constraint (filter-all (head_is is_constraint) G)))) refl))
    ∙ append-nil (concat_map field_of G))

constraints_joined : (n f : ℕ) (F G : List Group) → All (ConstraintGood f) (constraint_groups G) → concat_map constraint_of (join_groups n F G) ≡ concat_map constraint_of F ++ map (move n) (concat_map constraint_of G)
constraints_joined n f F G good = five constraint_of n F G ∙ ap₂ ◌++◌ (concat_map_nil constraint_of (All_imp constraints_of_field (filter-all (head_is is_field) F)))
    (ap₂ ◌++◌ (concat_map_nil constraint_of (All_imp constraints_of_field (moved_all n is_field (filter-all (head_is is_field) G))))
    (ap₂ ◌++◌ (constraints_of-groups F)
    (ap₂ ◌++◌ (constraints-move n f good ∙ ap (map (move n)) (constraints_of-groups G)) refl
    ∙ append-nil (map (move n) (concat_map constraint_of G)))))

projector_joined : (n : ℕ) (F G : List Group) → foldl projector_of Sum (join_groups n F G) ≡ Sum
projector_joined n F G =
    foldl-append projector_of Sum (field_groups F) _ ∙ rw (projector-kept is_field projector_of_field Sum (filter-all (head_is is_field) F))
    (foldl-append projector_of Sum (map (move_group n) (field_groups G)) _ ∙ rw (projector-kept is_field projector_of_field Sum (moved_all n is_field (filter-all (head_is is_field) G)))
    (foldl-append projector_of Sum (constraint_groups F) _ ∙ rw (projector-kept is_constraint projector_of-constraint Sum (filter-all (head_is is_constraint) F))
    (foldl-append projector_of Sum (map (move_group n) (constraint_groups G)) _)))

pub spec_joined : (f : ℕ) (F G : List Group) → All (ConstraintGood f) (constraint_groups G) → spec_of (join_groups (length (field_groups F)) F G) ≡ join_spec (spec_of F) (spec_of G)
unfolding spec_of join_spec
spec_joined f F G good = λ i. record {
  fields = fields_joined (length (field_groups F)) F G i;
  constraints = (constraints_joined (length (field_groups F)) f F G good ∙ ap (λ (n : ℕ). concat_map constraint_of F ++ map (move n) (concat_map constraint_of G)) (count-fields F)) i;
  projector = projector_joined (length (field_groups F)) F G i;
}
