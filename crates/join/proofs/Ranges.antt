-- The sections of an accepted file are ranges of its parts, its projector is the record behind them, and the numbers in those ranges are small.
use mathlib.Core.Bool.{Bool, ◌&&◌, ◌||◌, false, false≢true, not, true}
use mathlib.Core.List.{List, [], ◌++◌, ◌∷◌, append_assoc, append-nil, foldl, foldl-append, map}
use mathlib.Core.Option.{none}
use mathlib.Core.Path.{◌∙◌, ◌≡◌, ap, ap₂, refl, subst, sym}
use Prim.Native.Nat.{◌+◌, ◌-◌, ◌/◌, ◌<◌, ◌≤◌, suc, zero, ℕ}
use native.Mathlib.Omega.{arith}
use lib.Dec.{eqb, leb, ltb}
use lib.ListN.{drop, get_or, length, length-append, length-map, take, take-append-drop}
use lib.Seq.{drop_at, get_or_at, length-take-le, take_at}
use Rattle.lists.specs.Lists.{filter}
use Rattle.lists.proofs.All.{All, All_append, All_at, All-filter, All_imp, []ᴬ, ◌∷ᴬ◌, filter-all}
use Rattle.lists.proofs.Lists.{concat_map_append, filter_append, filter_every, filter_none, get_d_left}
use Rattle.lists.proofs.Range.{in_range}
use Rattle.lists.proofs.Tests.{and_split, eqb_no, ltb_no, ltb_yes, no_ge, no_gt, or_split, yes_eq, yes_lt}
use Rattle.spec.specs.Kind.{Kind, MemberKind, ProjectorKind, Use, assign, axis, constraint, decompose, disable, field, field_row, identity, is_constraint, is_field, is_member, is_names, is_own, item, key, kind_of, member, member_row, own, pair, parity, projector, row_of, section_of, sum, unknown, value}
use Rattle.spec.specs.Record.{Group, Record, decoded, group, groups, parts_of, projector_by, projector_in, projector_of, record_at, record_of, records_of, spec_of}
use Rattle.spec.specs.Refusal.{after_head, context, file_fault}
use Rattle.spec.specs.Shape.{stands_at}
use Rattle.spec.specs.Spec.{Sum}
use Rattle.spec.proofs.Accepted.{count-fields, decoded-few, file_good}
use Rattle.spec.proofs.Fields.{kind_of_lem, length_records, record_get_d}
use Rattle.spec.proofs.Good.{ConstraintGood, FieldsGood, GoodBy, MemberGood, MembersGood, Whole, constraint_groups, field_groups, good_parts, head_is, whole_flat}
use Rattle.spec.proofs.Groups.{flat, groups_proper, records_in}
use Rattle.spec.proofs.Sections.{OneSection, constraint_records, field_records, good_sections, in_part}
use Rattle.compose.proofs.Opening.{kind_beyond}
use Rattle.compose.proofs.Grouped.{Laid, Unstray, constraint-names, good_laid, unnot, unstrayed}
use Rattle.join.specs.Code.{MovesIn, bytes_at}
use Rattle.join.specs.Join.{add_if, in_section, is_sum, moves, projector_at, section}

-- ---- records in three sections, laid end to end
module _ (v : ℕ) where
  stands_append : {xs : List Record} (ys : List Record) → All (λ h. section_of h.kind < v) xs → All (λ h. v ≤ section_of h.kind) ys → stands_at v (xs ++ ys) ≡ length xs
  stands_append [] []ᴬ []ᴬ = refl
  stands_append (y ∷ ys) []ᴬ (h ∷ᴬ t) = rw (ltb_no (section_of y.kind) v h)
  stands_append ys (◌∷ᴬ◌ {x = x} {xs = xs} h t) u = rw (ltb_yes (section_of x.kind) v h) (ap suc (stands_append ys t u))

-- The same records as parts.
map-take : (n : ℕ) (ps : List (List ℕ)) → map record_of (take n ps) ≡ take n (map record_of ps)
map-take zero ps = refl
map-take (suc n) [] = refl
map-take (suc n) (p ∷ ps) = ap (λ (l : List Record). record_of p ∷ l) (map-take n ps)

map-drop : (n : ℕ) (ps : List (List ℕ)) → map record_of (drop n ps) ≡ drop n (map record_of ps)
map-drop zero ps = refl
map-drop (suc n) [] = refl
map-drop (suc n) (p ∷ ps) = map-drop n ps

All_unmap : {P : Record → Type 0} (ps : List (List ℕ)) → All P (map record_of ps) → All (λ b. P (record_of b)) ps
All_unmap [] []ᴬ = []ᴬ
All_unmap (p ∷ ps) (h ∷ᴬ t) = h ∷ᴬ All_unmap ps t

-- A record of section i.
abbrev In : ℕ → Record → Type 0
In i h = section_of h.kind ≡ i

module _ (ps : List (List ℕ)) (A B C : List Record) (e : map record_of ps ≡ A ++ (B ++ C)) (a : All (In 0) A) (b : All (In 1) B) (c : All (In 2) C) where
  front : List (List ℕ)
  front = take (length A) ps

  mid : List (List ℕ)
  mid = take (length B) (drop (length A) ps)

  last : List (List ℕ)
  last = drop (length B) (drop (length A) ps)

  cut : ps ≡ front ++ (mid ++ last)
  unfolding front mid last
  cut = sym (take-append-drop (length A) ps) ∙ ap (λ (l : List (List ℕ)). take (length A) ps ++ l) (sym (take-append-drop (length B) (drop (length A) ps)))

  behind : map record_of (drop (length A) ps) ≡ B ++ C
  behind = map-drop (length A) ps ∙ ap (drop (length A)) e ∙ drop_at A (B ++ C) (length A) refl

  front_in : All (λ p. In 0 (record_of p)) front
  unfolding front
  front_in = All_unmap front (subst (All (In 0)) (sym (map-take (length A) ps ∙ ap (take (length A)) e ∙ take_at A (B ++ C) (length A) refl)) a)

  mid_in : All (λ p. In 1 (record_of p)) mid
  unfolding mid
  mid_in = All_unmap mid (subst (All (In 1)) (sym (map-take (length B) (drop (length A) ps) ∙ ap (take (length B)) behind ∙ take_at B C (length B) refl)) b)

  last_in : All (λ p. In 2 (record_of p)) last
  unfolding last
  last_in = All_unmap last (subst (All (In 2)) (sym (map-drop (length B) (drop (length A) ps) ∙ ap (drop (length B)) behind ∙ drop_at B C (length B) refl)) c)

  -- a test by the section keeps or leaves each of the three
  module _ (t : ℕ → Bool) where
    abbrev sees : List ℕ → Bool
    sees p = t (section_of (record_of p).kind)

    keep : (i : ℕ) → t i ≡ true → {xs : List (List ℕ)} → All (λ p. In i (record_of p)) xs → filter sees xs ≡ xs
    keep i h x = filter_every sees (All_imp (λ p q. ap t q ∙ h) x)

    leave : (i : ℕ) → t i ≡ false → {xs : List (List ℕ)} → All (λ p. In i (record_of p)) xs → filter sees xs ≡ []
    leave i h x = filter_none sees (All_imp (λ p q. ap t q ∙ h) x)

    three : filter sees ps ≡ filter sees front ++ (filter sees mid ++ filter sees last)
    three = ap (filter sees) cut ∙ filter_append sees front (mid ++ last) ∙ ap (λ (l : List (List ℕ)). filter sees front ++ l) (filter_append sees mid last)

  fields_front : filter (in_section 0) ps ≡ take (length A) ps
  unfolding front
  fields_front = three (λ i. eqb i 0) ∙ ap₂ ◌++◌ (keep (λ i. eqb i 0) 0 refl front_in) (ap₂ ◌++◌ (leave (λ i. eqb i 0) 1 refl mid_in) (leave (λ i. eqb i 0) 2 refl last_in)) ∙ append-nil front

  constraints_mid : filter (in_section 1) ps ≡ take (length B) (drop (length A) ps)
  unfolding mid
  constraints_mid = three (λ i. eqb i 1) ∙ ap₂ ◌++◌ (leave (λ i. eqb i 1) 0 refl front_in) (ap₂ ◌++◌ (keep (λ i. eqb i 1) 1 refl mid_in) (leave (λ i. eqb i 1) 2 refl last_in)) ∙ append-nil mid

  both_front : length (filter (λ p. in_section 0 p || in_section 1 p) ps) ≡ length A + length B
  unfolding front mid
  both_front =
      let t : ℕ → Bool = λ i. eqb i 0 || eqb i 1 in
      let size : length (map record_of ps) ≡ length (A ++ (B ++ C)) = ap length e in
      let l : length ps ≡ length A + (length B + length C) = sym (length-map ps record_of) ∙ size ∙ length-append A (B ++ C) ∙ ap (λ (n : ℕ). length A + n) (length-append B C) in
      let l' : length (drop (length A) ps) ≡ length B + length C = sym (length-map (drop (length A) ps) record_of) ∙ ap length behind ∙ length-append B C in
      ap length (three t ∙ ap₂ ◌++◌ (keep t 0 refl front_in) (ap₂ ◌++◌ (keep t 1 refl mid_in) (leave t 2 refl last_in) ∙ append-nil mid)) ∙ length-append front mid
      ∙ ap₂ ◌+◌ (length-take-le (length A) ps (omega (arith, l))) (length-take-le (length B) (drop (length A) ps) (omega (arith, l')))

-- ---- small numbers
-- Both numbers of a record are below 32.
abbrev Small : Record → Type 0
Small h = (h.a < 32) × (h.b < 32)

zero_small : (x : ℕ) → not (eqb x 0) ≡ false → x < 32
zero_small x e = let z = yes_eq x 0 (unnot (eqb x 0) e) in omega arith

member_small : (k : Kind) (n : ℕ) (h : Record) (before : List Record) (m : Record) → is_member k ≡ true → section_of k < 2 → h.a < 32 → n ≤ 32 → MemberGood k n h before m → Small m
member_small field n h before m e l a f g = absurd (false≢true e)
member_small unknown n h before m e l a f g = absurd (false≢true e)
member_small (constraint k) n h before m e l a f g = absurd (false≢true e)
member_small (projector k) n h before m e l a f g = absurd (false≢true e)
member_small (member k) n h before m e l a f g = by k l (unstrayed (member_row k) m g.unstray) g.due (or_split (is_names (member_row k).a && leb n m.a) (is_names (member_row k).b && leb n m.b) g.named).0
  where
    by : (k : MemberKind) → section_of (member k) < 2 → Unstray (member_row k) m → (is_own (member_row k).a && not (eqb m.a h.a)) ≡ false → (is_names (member_row k).a && leb n m.a) ≡ false → Small m
    by value l s d c = ((let z = yes_eq m.a h.a (unnot (eqb m.a h.a) d) in omega arith), zero_small m.b s.b-unused)
    by item l s d c = (zero_small m.a s.a_unused, zero_small m.b s.b-unused)
    by pair l s d c = (zero_small m.a s.a_unused, zero_small m.b s.b-unused)
    by key l s d c = (zero_small m.a s.a_unused, zero_small m.b s.b-unused)
    by disable l s d c = ((let z = no_gt n m.a c in omega arith), zero_small m.b s.b-unused)
    by assign l s d c = ((let z = no_gt n m.a c in omega arith), zero_small m.b s.b-unused)
    by axis l s d c = absurd (omega arith)

members_small : (k : Kind) (n : ℕ) (h : Record) (before ms : List Record) → section_of k < 2 → h.a < 32 → n ≤ 32 → MembersGood k n h before ms → All (λ (m : Record). section_of m.kind ≡ section_of k) ms → All Small ms
members_small k n h before [] l a f g []ᴬ = []ᴬ
members_small k n h before (m ∷ ms) l a f g (s ∷ᴬ t) =
    ◌∷ᴬ◌ {x = m} (member_small m.kind n h before m (and_split (is_member m.kind) (eqb (row_of k h.b).list (row_of m.kind m.b).list) g.0).0 (omega arith) a f g.1) (members_small k n h (before ++ (m ∷ [])) ms l a f g.2 t)

field_own_lem : (b : ℕ) → (field_row b).a ≡ own
field_own_lem zero = refl
field_own_lem (suc zero) = refl
field_own_lem (suc (suc b)) = refl

-- A field's group.
field_small : (k : Kind) (f : ℕ) (h : Record) (ms : List Record) → is_field k ≡ true → GoodBy k (context f 0 0) h ms → All (λ (m : Record). section_of m.kind ≡ section_of k) ms → All Small (h ∷ ms)
field_small field f h ms e g s =
    let room = no_gt 32 f g.0.roomy in
    let form = no_ge 2 h.b g.0.known in
    let due : not (eqb h.a f) ≡ false = sym (ap (λ (u : Use). is_own u && not (eqb h.a f)) (field_own_lem h.b)) ∙ g.0.ordered in
    let z = yes_eq h.a f (unnot (eqb h.a f) due) in
    let a : h.a < 32 = omega arith in
    let b : h.b < 32 = omega arith in
    ◌∷ᴬ◌ {x = h} (a, b) (members_small field (suc f) h [] ms (omega arith) a (omega arith) g.1 s)
field_small unknown f h ms e g s = absurd (false≢true e)
field_small (constraint k) f h ms e g s = absurd (false≢true e)
field_small (projector k) f h ms e g s = absurd (false≢true e)
field_small (member k) f h ms e g s = absurd (false≢true e)

-- A constraint's group.
constraint_small : (k : Kind) (n : ℕ) (h : Record) (ms : List Record) → n ≤ 32 → is_constraint k ≡ true → GoodBy k (context n 0 0) h ms → All (λ (m : Record). section_of m.kind ≡ section_of k) ms → All Small (h ∷ ms)
constraint_small field n h ms l e g s = absurd (false≢true e)
constraint_small unknown n h ms l e g s = absurd (false≢true e)
constraint_small (constraint k) n h ms l e g s =
    let w = constraint-names (constraint k) n h ms e g in
    let x = w.a_below in
    let y = w.b-below in
    let a : h.a < 32 = omega arith in
    let b : h.b < 32 = omega arith in
    ◌∷ᴬ◌ {x = h} (a, b) (members_small (constraint k) n h [] ms (omega arith) a l g.1 s)
constraint_small (projector k) n h ms l e g s = absurd (false≢true e)
constraint_small (member k) n h ms l e g s = absurd (false≢true e)

fields_small : (f : ℕ) (gs : List Group) → FieldsGood f gs → All OneSection gs → All Small (flat gs)
fields_small f [] g []ᴬ = []ᴬ
fields_small f (group h ms ∷ gs) g (s ∷ᴬ t) = All_append (field_small h.kind f h ms g.0 g.1 s) (fields_small (suc f) gs g.2 t)

constraints_small : (n : ℕ) {gs : List Group} → n ≤ 32 → All (ConstraintGood n) gs → All OneSection gs → All Small (flat gs)
constraints_small n l []ᴬ []ᴬ = []ᴬ
constraints_small n l (◌∷ᴬ◌ {x = group h ms} q u) (s ∷ᴬ t) = All_append (constraint_small h.kind n h ms l q.0 q.1 s) (constraints_small n l u t)

-- So its moved numbers are bytes.
add_byte : (t : Bool) (n x : ℕ) → n ≤ 32 → x < 32 → add_if t n x < 256
add_byte true n x l h = omega arith
add_byte false n x l h = omega arith

small_moves : (n : ℕ) (bytes : List ℕ) → n ≤ 32 → Small (record_of bytes) → MovesIn n bytes
unfolding record_of
small_moves n bytes l s =
    let w = row_of (kind_of (get_or bytes 0 0)) (get_or bytes 2 0) in
    record { a_byte = add_byte (moves w.a) n (get_or bytes 1 0) l s.0; b-byte = add_byte (moves w.b) n (get_or bytes 2 0) l s.1 }

-- ---- the projector
abbrev is_sum_kind : Kind → Bool
is_sum_kind field = false
is_sum_kind unknown = false
is_sum_kind (constraint k) = false
is_sum_kind (projector sum) = true
is_sum_kind (projector identity) = false
is_sum_kind (projector parity) = false
is_sum_kind (projector decompose) = false
is_sum_kind (member k) = false

-- Kind number 30 alone is a sum.
sum_code : (n : ℕ) → is_sum_kind (kind_of n) ≡ eqb n 30
unfolding kind_of
sum_code n = go (ltb n 34) refl
  where
    go : (b : Bool) → ltb n 34 ≡ b → is_sum_kind (kind_of n) ≡ eqb n 30
    go true q = in_range (λ k. is_sum_kind (kind_of k)) (λ k. eqb k 30) 0 34 refl n (omega arith) (yes_lt n 34 q)
    go false q = let l = no_ge n 34 q in ap is_sum_kind (kind_beyond n l) ∙ sym (eqb_no n 30 (omega arith))

sum_sort : (k : ProjectorKind) (h : Record) (ms : List Record) → is_sum (projector_by k h ms) ≡ is_sum_kind (projector k)
sum_sort sum h ms = refl
sum_sort identity h ms = refl
sum_sort parity h ms = refl
sum_sort decompose h ms = refl

-- ---- an accepted file
-- Its fields' records stand before c, its constraints' from c on and before d, and its projector at d.
pub record Ranged (file : List ℕ) (c d : ℕ) : Type 0 where
  pub rising : c ≤ d
  pub inside : d < length file / 32
  pub fields_range : section 0 file ≡ take c (parts_of file)
  pub constraints_range : section 1 file ≡ take (d - c) (drop c (parts_of file))
  pub projector_range : projector_at file ≡ suc d
  pub sum_is : is_sum (decoded file).projector ≡ eqb (record_at file d).code 30
  pub moves_in : (n i : ℕ) → n ≤ 32 → i < d → MovesIn n (bytes_at file i)

module _ (file : List ℕ) (good : file_fault file ≡ none) where
  whole : Whole (records_of file)
  whole = (file_good file good).whole

  A : List Record
  A = filter (in_part 0) (records_of file)

  B : List Record
  B = filter (in_part 1) (records_of file)

  laid : Laid 0 (groups (records_of file)) (field_groups (groups (records_of file))) (constraint_groups (groups (records_of file)))
  laid = good_laid (groups_proper (records_of file)) 0 whole.good

  h : Record
  h = laid.head

  ms : List Record
  ms = laid.members

  split : records_of file ≡ A ++ (B ++ (h ∷ ms))
  unfolding A B h ms
  split =
      let gs = groups (records_of file) in
      let g = group laid.head laid.members in
      whole_flat whole ∙ ap flat laid.split ∙ concat_map_append records_in (field_groups gs) (constraint_groups gs ++ (g ∷ []))
      ∙ ap₂ ◌++◌ (sym (field_records whole)) (concat_map_append records_in (constraint_groups gs) (g ∷ []) ∙ ap₂ ◌++◌ (sym (constraint_records whole)) (append-nil (laid.head ∷ laid.members)))

  A_in : All (In 0) A
  unfolding A
  A_in = All_imp (λ x q. yes_eq (section_of x.kind) 0 q) (filter-all (in_part 0) (records_of file))

  B_in : All (In 1) B
  unfolding B
  B_in = All_imp (λ x q. yes_eq (section_of x.kind) 1 q) (filter-all (in_part 1) (records_of file))

  C_in : All (In 2) (h ∷ ms)
  unfolding h ms
  C_in =
      let l = laid.last in
      let one : section_of laid.head.kind ≡ 2 = ap section_of l.is_sort in
      rest one (good_sections l.before (group laid.head laid.members ∷ [])
      (subst (λ (k : Kind). GoodBy k l.before laid.head laid.members × (eqb (after_head k l.before).section 2 ≡ true)) (sym l.is_sort) (l.good, refl)))
    where
      rest : section_of laid.head.kind ≡ 2 → All OneSection (group laid.head laid.members ∷ []) → All (In 2) (laid.head ∷ laid.members)
      rest e (s ∷ᴬ []ᴬ) = ◌∷ᴬ◌ {x = laid.head} e (All_imp (λ (m : Record) q. q ∙ e) s)

  -- as many records before a section
  before-constraints : stands_at 1 (records_of file) ≡ length A
  before-constraints = ap (stands_at 1) split ∙ stands_append 1 (B ++ (h ∷ ms)) (All_imp (λ x q. omega arith) A_in) (All_append (All_imp (λ x q. omega arith) B_in) (All_imp (λ x q. omega arith) C_in))

  before-projector : stands_at 2 (records_of file) ≡ length A + length B
  before-projector =
      ap (stands_at 2) (split ∙ sym (append_assoc A B (h ∷ ms))) ∙ stands_append 2 (h ∷ ms) (All_append (All_imp (λ x q. omega arith) A_in) (All_imp (λ x q. omega arith) B_in)) (All_imp (λ x q. omega arith) C_in)
      ∙ length-append A B

  parts_split : map record_of (parts_of file) ≡ A ++ (B ++ (h ∷ ms))
  parts_split = opened ∙ split
    where
      opened : map record_of (parts_of file) ≡ records_of file
      opened = unfold records_of in refl

  long : length file / 32 ≡ length A + (length B + suc (length ms))
  long = sym (length_records file) ∙ ap length split ∙ length-append A (B ++ (h ∷ ms)) ∙ ap (λ (n : ℕ). length A + n) (length-append B (h ∷ ms))

  -- the projector is the record behind the two sections
  stands_projector : record_at file (length A + length B) ≡ h
  stands_projector =
      sym (record_get_d h file (length A + length B) (omega (arith, long))) ∙ ap (λ (l : List Record). get_or l (length A + length B) h) (split ∙ sym (append_assoc A B (h ∷ ms)))
      ∙ get_or_at (A ++ B) h ms h (length A + length B) (length-append A B)

  decoded_sum : is_sum (decoded file).projector ≡ is_sum_kind h.kind
  unfolding decoded spec_of h
  decoded_sum =
      let gs = groups (records_of file) in
      let l = laid.last in
      let g = group laid.head laid.members in
      let d = foldl projector_of (foldl projector_of Sum (field_groups gs)) (constraint_groups gs) in
      ap is_sum (ap (foldl projector_of Sum) laid.split ∙ foldl-append projector_of Sum (field_groups gs) (constraint_groups gs ++ (g ∷ [])) ∙ foldl-append projector_of (foldl projector_of Sum (field_groups gs)) (constraint_groups gs) (g ∷ [])
      ∙ ap (λ (k : Kind). projector_in k laid.head laid.members d) l.is_sort)
      ∙ sum_sort l.sort laid.head laid.members ∙ sym (ap is_sum_kind l.is_sort)

  -- the numbers of the two sections are small
  sections_small : All Small (A ++ B)
  unfolding A B decoded spec_of
  sections_small =
      let gs = groups (records_of file) in
      let parts = good_parts (groups_proper (records_of file)) 0 whole.good in
      let one = good_sections (context 0 0 0) gs whole.good in
      let few = (decoded-few file whole).0 in
      let n : 0 + length (field_groups gs) ≤ 32 = omega (arith, few, count-fields gs) in
      All_append (subst (All Small) (sym (field_records whole)) (fields_small 0 (field_groups gs) parts.0 (All-filter (head_is is_field) one)))
      (subst (All Small) (sym (constraint_records whole)) (constraints_small (0 + length (field_groups gs)) n parts.1 (All-filter (head_is is_constraint) one)))

  small_at : (i : ℕ) → i < length A + length B → Small (record_at file i)
  small_at i l =
      let many = length-append A B in
      subst Small (sym (ap (λ (x : List Record). get_or x i h) (split ∙ sym (append_assoc A B (h ∷ ms))) ∙ get_d_left (A ++ B) (h ∷ ms) h i many l) ∙ record_get_d h file i (omega (arith, long))) (All_at h (A ++ B) sections_small i (omega arith))

  pub ranged : Ranged file (stands_at 1 (records_of file)) (stands_at 2 (records_of file))
  ranged = rw (before-constraints, before-projector) (record {
    rising = omega arith;
    inside = omega (arith, long);
    fields_range = fields_front (parts_of file) A B (h ∷ ms) parts_split A_in B_in C_in;
    constraints_range = constraints_mid (parts_of file) A B (h ∷ ms) parts_split A_in B_in C_in ∙ ap (λ (n : ℕ). take n (drop (length A) (parts_of file))) (let e : length B ≡ length A + length B - length A = omega arith in e);
    projector_range = ap suc (both_front (parts_of file) A B (h ∷ ms) parts_split A_in B_in C_in);
    sum_is = decoded_sum ∙ ap is_sum_kind (sym (ap (λ (r : Record). r.kind) stands_projector) ∙ kind_of_lem file (length A + length B)) ∙ sum_code (record_at file (length A + length B)).code;
    moves_in = λ n i l b. small_moves n (bytes_at file i) l (small_at i b);
  })
