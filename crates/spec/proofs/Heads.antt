-- Going through a file from head to head: its groups stand in the order of their sections, so the groups of a section end where a head of another stands.
use mathlib.Core.Bool.{Bool, ◌||◌, cond, false, true, true≢false}
use mathlib.Core.List.{List, [], ◌++◌, ◌∷◌}
use mathlib.Core.Option.{none}
use mathlib.Core.Path.{◌∙◌, ◌≡◌, ap, refl, subst, sym}
use Prim.Native.Nat.{◌+◌, ◌/◌, ◌<◌, ◌≤◌, suc, zero, ℕ}
use native.Mathlib.Omega.{arith}
use lib.Dec.{eqb, ltb}
use lib.ListN.{drop, drop_of_length-le, length}
use lib.Seq.{drop-append-add, drop_at, drop-drop}
use Rattle.lists.specs.Lists.{cons_if, filter}
use Rattle.lists.proofs.All.{All, []ᴬ, ◌∷ᴬ◌}
use Rattle.lists.proofs.Tests.{eqb_no, eqb_yes, ltb_no, ltb_yes, no_ge, or_split, yes_lt}
use Rattle.spec.specs.Code.{section_at}
use Rattle.spec.specs.Kind.{Kind, constraint, field, is_constraint, is_field, is_member, member, projector, section_of, unknown}
use Rattle.spec.specs.Record.{Group, Record, group, groups, member_run, record_at, records_of, unless_member, while_member}
use Rattle.spec.specs.Refusal.{Context, after_head, context, not_due, out_of_order, records_fault}
use Rattle.spec.specs.Shape.{stands_at}
use Rattle.spec.proofs.Fields.{length_records, records_from}
use Rattle.spec.proofs.Good.{Good, HeadGood, constraint_groups, head_is, records_whole, whole_flat}
use Rattle.spec.proofs.Groups.{Proper, flat, groups_flat, groups_proper, records_flat}
use Rattle.spec.proofs.Runs.{run_inside, run_length}
use Rattle.spec.proofs.Sections.{OneSection, constraint-section, field_section, members_section}

-- ---- past a run of members
module _ (rs : List Record) where
  -- What follows the members at the front.
  abbrev pub past : List Record
  past = drop (length (member_run rs)) rs

  past_flat : past ≡ flat (groups rs)
  past_flat = ap (drop (length (member_run rs))) (records_flat rs) ∙ drop_at (member_run rs) (flat (groups rs)) (length (member_run rs)) refl

  pub past_led : member_run past ≡ []
  past_led = ap member_run past_flat ∙ (groups_flat (groups_proper rs)).0

  pub past_groups : groups past ≡ groups rs
  past_groups = ap groups past_flat ∙ (groups_flat (groups_proper rs)).1

  run_past : rs ≡ member_run rs ++ past
  run_past = records_flat rs ∙ ap (λ l. member_run rs ++ l) (sym past_flat)

-- What follows the members after record i.
pub past_members_lem : (file : List ℕ) (i end : ℕ) → end ≡ i + 1 + run_length file (suc i) → past (drop (suc i) (records_of file)) ≡ drop end (records_of file)
past_members_lem file i end e =
    let n : suc i + run_length file (suc i) ≡ end = omega arith in
    drop-drop (run_length file (suc i)) (suc i) (records_of file) ∙ ap (λ (k : ℕ). drop k (records_of file)) n

-- ---- how many records stand before a section
-- Those known to stand before it, and what stands before it of the rest.
stands_known : (section i : ℕ) (ms : List Record) → i ≤ stands_at section ms → i + stands_at section (drop i ms) ≡ stands_at section ms
stands_known section zero ms h = omega arith
stands_known section (suc i) [] h = absurd (omega arith)
stands_known section (suc i) (m ∷ ms) h = go (ltb (section_of m.kind) section) h (stands_known section i ms)
  where
    go : (b : Bool) → suc i ≤ cond b (suc (stands_at section ms)) 0 → (i ≤ stands_at section ms → i + stands_at section (drop i ms) ≡ stands_at section ms) → suc i + stands_at section (drop i ms) ≡ cond b (suc (stands_at section ms)) 0
    go true l e = omega (arith, e (omega arith))
    go false l e = absurd (omega arith)

-- What stands before a section stands before a later one.
stands_later : (a b : ℕ) (ms : List Record) → a ≤ b → stands_at a ms ≤ stands_at b ms
stands_later a b [] h = omega arith
stands_later a b (m ∷ ms) h = go (ltb (section_of m.kind) a) refl (stands_later a b ms h)
  where
    go : (t : Bool) → ltb (section_of m.kind) a ≡ t → stands_at a ms ≤ stands_at b ms → cond t (suc (stands_at a ms)) 0 ≤ stands_at b (m ∷ ms)
    go true e l = let g = yes_lt (section_of m.kind) a e in rw (ltb_yes (section_of m.kind) b (omega arith)) (omega arith)
    go false e l = omega arith

stands_le : (section : ℕ) (ms : List Record) → stands_at section ms ≤ length ms
stands_le section [] = omega arith
stands_le section (m ∷ ms) = go (ltb (section_of m.kind) section) (stands_le section ms)
  where
    go : (b : Bool) → stands_at section ms ≤ length ms → cond b (suc (stands_at section ms)) 0 ≤ suc (length ms)
    go true l = omega arith
    go false l = omega arith

-- A group of an earlier section stands before it whole.
module _ (section : ℕ) (rs : List Record) where
  stands_run : (x : ℕ) → x < section → {ms : List Record} → All (λ (m : Record). section_of m.kind ≡ x) ms → stands_at section (ms ++ rs) ≡ length ms + stands_at section rs
  stands_run x l []ᴬ = omega arith
  stands_run x l (◌∷ᴬ◌ {x = m} {xs = ms} e t) = rw (ltb_yes (section_of m.kind) section (omega arith)) (let ih = stands_run x l t in omega arith)

  stands_group : (h : Record) (ms : List Record) → OneSection (group h ms) → section_of h.kind < section → stands_at section (h ∷ (ms ++ rs)) ≡ suc (length ms + stands_at section rs)
  stands_group h ms o l = rw (ltb_yes (section_of h.kind) section l) (ap suc (stands_run (section_of h.kind) l o))

-- ---- groups in the order of their sections
-- The sections do not go down, from x on, and members stand in the section of their head.
abbrev pub Ordered : ℕ → List Group → Type 0
Ordered x [] = Unit {0}
Ordered x (group h ms ∷ gs) = (x ≤ section_of h.kind) × OneSection (group h ms) × Ordered (section_of h.kind) gs

section_reached : (k : Kind) (c : Context) (h : Record) → out_of_order k c h ≡ false → c.section ≤ section_of k
section_reached k c h e =
    no_ge (section_of k) c.section (or_split (ltb (section_of k) c.section) (eqb c.section 2) (or_split (ltb (section_of k) c.section || eqb c.section 2) (not_due k c.fields h) e).0).0

good_ordered : {gs : List Group} → All Proper gs → (c : Context) → Good c gs → Ordered c.section gs
good_ordered []ᴬ c g = tt
good_ordered (◌∷ᴬ◌ {x = group h ms} {xs = gs} p t) c g =
    let s = go h.kind p.0 g.0.0 g.1 (good_ordered t) in
    (s.0, members_section h.kind _ h [] ms g.0.1, s.1)
  where
    go : (k : Kind) → is_member k ≡ false → HeadGood k c h → Good (after_head k c) gs → ((d : Context) → Good d gs → Ordered d.section gs) → (c.section ≤ section_of k) × Ordered (section_of k) gs
    go field m q b ih =
        let l = section_reached field c h q.ordered in
        let e : c.section ≡ 0 = omega arith in
        (l, subst (λ (x : ℕ). Ordered x gs) e (ih (after_head field c) b))
    go unknown m q b ih = absurd (true≢false q.known)
    go (constraint k) m q b ih = (section_reached (constraint k) c h q.ordered, ih (after_head (constraint k) c) b)
    go (projector k) m q b ih = (section_reached (projector k) c h q.ordered, ih (after_head (projector k) c) b)
    go (member k) m q b ih = absurd (true≢false m)

-- Records that are groups laid end to end, ordered from section x on.
pub record InOrder (x : ℕ) (rs : List Record) : Type 0 where
  pub led : member_run rs ≡ []
  pub ordered : Ordered x (groups rs)

-- ---- the groups of section x, which are those of the kinds in the test
module _ (x : ℕ) (test : Kind → Bool) (agree : (k : Kind) → is_member k ≡ false → test k ≡ eqb (section_of k) x) where
  abbrev pub groups_of : List Record → List Group
  groups_of rs = filter (head_is test) (groups rs)

  none-later : {gs : List Group} → All Proper gs → (y : ℕ) → x < y → Ordered y gs → filter (head_is test) gs ≡ []
  none-later []ᴬ y l o = refl
  none-later (◌∷ᴬ◌ {x = group h ms} {xs = gs} p t) y l o =
      ap (λ (b : Bool). cons_if b (group h ms) (filter (head_is test) gs)) (agree h.kind p.0 ∙ eqb_no (section_of h.kind) x (let g = o.0 in omega arith))
      ∙ none-later t (section_of h.kind) (let g = o.0 in omega arith) o.2

  module _ (h : Record) (hs : List Record) (o : InOrder x (h ∷ hs)) where
    is_head : is_member h.kind ≡ false
    is_head = go (is_member h.kind) o.led
      where
        go : (b : Bool) → while_member b h (member_run hs) ≡ [] → b ≡ false
        go true e = let z = ap length e in absurd (omega arith)
        go false e = refl

    first_group : groups (h ∷ hs) ≡ group h (member_run hs) ∷ groups hs
    first_group = ap (λ (b : Bool). unless_member b h (member_run hs) (groups hs)) is_head

    at_first : Ordered x (group h (member_run hs) ∷ groups hs)
    at_first = subst (Ordered x) first_group o.ordered

    -- at a head of the section
    module _ (e : section_of h.kind ≡ x) where
      go_on : InOrder x (past hs)
      go_on = record { led = past_led hs; ordered = subst (Ordered x) (sym (past_groups hs)) (subst (λ (y : ℕ). Ordered y (groups hs)) e at_first.2) }

      one_more : length (groups_of (h ∷ hs)) ≡ suc (length (groups_of (past hs)))
      one_more =
          ap (λ (gs : List Group). length (filter (head_is test) gs)) first_group
          ∙ ap (λ (b : Bool). length (cons_if b (group h (member_run hs)) (groups_of hs))) (agree h.kind is_head ∙ eqb_yes (section_of h.kind) x e)
          ∙ ap (λ (gs : List Group). suc (length (filter (head_is test) gs))) (sym (past_groups hs))

      stands_on : stands_at (suc x) (h ∷ hs) ≡ suc (length (member_run hs) + stands_at (suc x) (past hs))
      stands_on = ap (λ (l : List Record). stands_at (suc x) (h ∷ l)) (run_past hs) ∙ stands_group (suc x) (past hs) h (member_run hs) at_first.1 (omega arith)

    -- at another head
    module _ (n : ¬ (section_of h.kind ≡ x)) where
      later : x < section_of h.kind
      later = let l = at_first.0 in omega arith

      no_more : groups_of (h ∷ hs) ≡ []
      no_more = ap (filter (head_is test)) first_group ∙ none-later (subst (All Proper) first_group (groups_proper (h ∷ hs))) (suc x) (omega arith) (later, at_first.1, at_first.2)

      stands_none : stands_at (suc x) (h ∷ hs) ≡ 0
      stands_none = rw (ltb_no (section_of h.kind) (suc x) later)

  -- ---- in a file
  module _ (file : List ℕ) where
    -- The records before i are gone through, and so many groups of the section are among them.
    pub record Gone (i count : ℕ) : Type 0 where
      pub inside : i ≤ length file / 32
      pub few : count ≤ i
      pub in_order : InOrder x (drop i (records_of file))
      pub counted : count + length (groups_of (drop i (records_of file))) ≡ length (groups_of (records_of file))
      pub stands : i + stands_at (suc x) (drop i (records_of file)) ≡ stands_at (suc x) (records_of file)

    -- No group of the section is left.
    pub record Done (i : ℕ) : Type 0 where
      pub none_left : groups_of (drop i (records_of file)) ≡ []
      pub none_stands : stands_at (suc x) (drop i (records_of file)) ≡ 0

    pub done-count : (i count : ℕ) → Gone i count → Done i → count ≡ length (groups_of (records_of file))
    done-count i count g d = omega (arith, g.counted, ap length d.none_left)

    pub done_stands : (i count : ℕ) → Gone i count → Done i → i ≡ stands_at (suc x) (records_of file)
    done_stands i count g d = omega (arith, g.stands, d.none_stands)

    pub end_done : (i : ℕ) → length file / 32 ≤ i → Done i
    end_done i h =
        let e = drop_of_length-le (records_of file) {i = i} (omega (arith, length_records file)) in
        record { none_left = ap groups_of e; none_stands = ap (stands_at (suc x)) e }

    module _ (i count : ℕ) (g : Gone i count) (h : i < length file / 32) where
      abbrev rest : List Record
      rest = drop (suc i) (records_of file)

      here : InOrder x (record_at file i ∷ rest)
      here = subst (InOrder x) (records_from file i h) g.in_order

      pub gone_head : is_member (record_at file i).kind ≡ false
      gone_head = is_head (record_at file i) rest here

      pub stop-done : ¬ (section_of (record_at file i).kind ≡ x) → Done i
      stop-done n = record {
        none_left = ap groups_of (records_from file i h) ∙ no_more (record_at file i) rest here n;
        none_stands = ap (stands_at (suc x)) (records_from file i h) ∙ stands_none (record_at file i) rest here n;
      }

      pub gone_on : section_of (record_at file i).kind ≡ x → (end : ℕ) → end ≡ i + 1 + run_length file (suc i) → Gone end (count + 1)
      gone_on e end q =
          let p = past_members_lem file i end q in
          let more = ap (λ (l : List Record). length (groups_of l)) (records_from file i h) ∙ one_more (record_at file i) rest here e ∙ ap (λ (l : List Record). suc (length (groups_of l))) p in
          let on = ap (stands_at (suc x)) (records_from file i h) ∙ stands_on (record_at file i) rest here e ∙ ap (λ (l : List Record). suc (run_length file (suc i) + stands_at (suc x) l)) p in
          record {
            inside = omega (arith, run_inside file (suc i) (omega arith));
            few = omega (arith, g.few);
            in_order = subst (InOrder x) p (go_on (record_at file i) rest here e);
            counted = omega (arith, g.counted);
            stands = omega (arith, g.stands);
          }

    -- where the code finds no record of the section
    pub other_done : (i count : ℕ) → Gone i count → ¬ (section_at file i ≡ x) → Done i
    other_done i count g n = go (ltb i (length file / 32)) refl
      where
        go : (b : Bool) → ltb i (length file / 32) ≡ b → Done i
        go true e = stop-done i count g (yes_lt i (length file / 32) e) (λ q. n (ap (λ (b : Bool). cond b (section_of (record_at file i).kind) 3) e ∙ q))
        go false e = end_done i (no_ge i (length file / 32) e)

-- where it finds one
pub section_here : (file : List ℕ) (i x : ℕ) → x < 3 → section_at file i ≡ x → (i < length file / 32) × (section_of (record_at file i).kind ≡ x)
section_here file i x known = go (ltb i (length file / 32)) refl
  where
    go : (b : Bool) → ltb i (length file / 32) ≡ b → cond b (section_of (record_at file i).kind) 3 ≡ x → (i < length file / 32) × (section_of (record_at file i).kind ≡ x)
    go true e s = (yes_lt i (length file / 32) e, s)
    go false e s = absurd (omega arith)

-- A head of the first section is a field.
pub field_here : (k : Kind) → is_member k ≡ false → section_of k ≡ 0 → k ≡ field
field_here field m e = refl
field_here unknown m e = absurd (omega arith)
field_here (constraint k) m e = absurd (omega arith)
field_here (projector k) m e = absurd (omega arith)
field_here (member k) m e = absurd (true≢false m)

-- ---- where the sections begin
-- What follows the fields.
abbrev onward : List Record → List Record
onward rs = drop (stands_at 1 rs) rs

-- It is ordered from the constraints on, and no constraint stands before it.
onward_groups : {gs : List Group} → All Proper gs → Ordered 0 gs → InOrder 1 (onward (flat gs)) × (constraint_groups (groups (onward (flat gs))) ≡ constraint_groups gs)
onward_groups []ᴬ o = (record { led = refl; ordered = tt }, refl)
onward_groups (◌∷ᴬ◌ {x = group h ms} {xs = gs} p t) o = go (section_of h.kind) refl (onward_groups t)
  where
    all : List Record
    all = flat (group h ms ∷ gs)

    go : (y : ℕ) → section_of h.kind ≡ y → (Ordered 0 gs → InOrder 1 (onward (flat gs)) × (constraint_groups (groups (onward (flat gs))) ≡ constraint_groups gs))
        → InOrder 1 (onward all) × (constraint_groups (groups (onward all)) ≡ constraint_groups (group h ms ∷ gs))
    go zero e ih =
        let q : onward all ≡ onward (flat gs) = ap (λ (n : ℕ). drop n all) (stands_group 1 (flat gs) h ms o.1 (omega arith)) ∙ drop-append-add ms (flat gs) (stands_at 1 (flat gs)) in
        let r = ih (subst (λ (y : ℕ). Ordered y gs) e o.2) in
        (subst (InOrder 1) (sym q) r.0, ap (λ (l : List Record). constraint_groups (groups l)) q ∙ r.1 ∙ ap (λ (b : Bool). cons_if b (group h ms) (constraint_groups gs)) (sym (constraint-section h.kind p.0 ∙ eqb_no (section_of h.kind) 1 (omega arith))))
    go (suc y) e ih =
        let q : onward all ≡ all = ap (λ (b : Bool). drop (cond b (suc (stands_at 1 (ms ++ flat gs))) 0) all) (ltb_no (section_of h.kind) 1 (omega arith)) in
        let f = groups_flat (◌∷ᴬ◌ {x = group h ms} p t) in
        let l : 1 ≤ section_of h.kind = omega arith in
        (subst (InOrder 1) (sym q) (record { led = f.0; ordered = subst (Ordered 1) (sym f.1) (l, o.1, o.2) }), ap (λ (l : List Record). constraint_groups (groups l)) q ∙ ap constraint_groups f.1)

module _ (file : List ℕ) (sound : records_fault (records_of file) ≡ none) where
  whole_ordered : Ordered 0 (groups (records_of file))
  whole_ordered = good_ordered (groups_proper (records_of file)) (context 0 0 0) (records_whole (records_of file) sound).good

  pub fields_begin : Gone 0 is_field field_section file 0 0
  fields_begin = record { inside = omega arith; few = omega arith; in_order = record { led = (records_whole (records_of file) sound).led; ordered = whole_ordered }; counted = omega arith; stands = omega arith }

  pub constraints_begin : (from : ℕ) → from ≡ stands_at 1 (records_of file) → Gone 1 is_constraint constraint-section file from 0
  constraints_begin from e =
      let rs = records_of file in
      let f : flat (groups rs) ≡ rs = sym (whole_flat (records_whole rs sound)) in
      let at : onward rs ≡ drop from rs = ap (λ (n : ℕ). drop n rs) (sym e) in
      let r = onward_groups (groups_proper rs) whole_ordered in
      let begun = ap (λ (l : List Record). onward l) f ∙ at in
      record {
        inside = omega (arith, stands_le 1 rs, length_records file);
        few = omega arith;
        in_order = subst (InOrder 1) begun r.0;
        counted = omega (arith, ap length (sym (ap (λ (l : List Record). constraint_groups (groups l)) begun) ∙ r.1));
        stands = stands_known 2 from rs (omega (arith, stands_later 1 2 rs (omega arith)));
      }
