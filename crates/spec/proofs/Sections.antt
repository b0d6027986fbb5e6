-- The members of a good group stand in their head's section, so a section's records are the groups of its sort.
use mathlib.Core.Bool.{Bool, ◌&&◌, ◌||◌, false, false≢true, true, true≢false}
use mathlib.Core.List.{List, [], ◌++◌, ◌∷◌}
use mathlib.Core.Path.{◌∙◌, ◌≡◌, ap, refl, sym}
use Prim.Native.Nat.{suc, zero, ℕ}
use lib.Dec.{eqb}
use lib.ListN.{length}
use Rattle.lists.specs.Lists.{cons_if, filter}
use Rattle.lists.proofs.All.{All, All_imp, []ᴬ, ◌∷ᴬ◌}
use Rattle.lists.proofs.Lists.{filter_append, filter_every, filter_none}
use Rattle.lists.proofs.Tests.{eqb_yes, or_true, yes_eq}
use Rattle.spec.specs.Kind.{Kind, MemberKind, assign, axis, bitmask, constraint, cross, decompose, disable, enable_mask, enable_set, eq, even, field, ge, gt, identity, is_constraint, is_field, is_member, item, key, le, lt, member, member_row, neq, oneof, pair, parity, part_of, projector, range, row_of, section_of, sum, unknown, value}
use Rattle.spec.specs.Record.{Group, Record, group, groups}
use Rattle.spec.specs.Refusal.{Context, after, context}
use Rattle.spec.proofs.Good.{Good, MembersGood, Whole, constraint_groups, field_groups, head_is, whole_flat}
use Rattle.spec.proofs.Groups.{Proper, flat, groups_proper}

-- the list of a row, where there is one, is in the section of its kind
pub row-section : (k : Kind) (b : ℕ) → (eqb (row_of k b).list 0 || eqb (part_of (row_of k b).list) (section_of k)) ≡ true
row-section field zero = refl
row-section field (suc zero) = refl
row-section field (suc (suc b)) = refl
row-section unknown b = refl
row-section (constraint range) b = refl
row-section (constraint even) b = refl
row-section (constraint eq) b = refl
row-section (constraint neq) b = refl
row-section (constraint lt) b = refl
row-section (constraint gt) b = refl
row-section (constraint le) b = refl
row-section (constraint ge) b = refl
row-section (constraint oneof) b = refl
row-section (constraint cross) b = refl
row-section (constraint enable_mask) b = refl
row-section (constraint bitmask) b = refl
row-section (constraint enable_set) b = refl
row-section (projector sum) b = refl
row-section (projector identity) b = refl
row-section (projector parity) b = refl
row-section (projector decompose) b = refl
row-section (member k) b = ap (λ c. eqb (member_row k).list 0 || c) (eqb_yes (part_of (member_row k).list) (part_of (member_row k).list) refl) ∙ or_true (eqb (member_row k).list 0)

member-list : (k : MemberKind) → eqb (member_row k).list 0 ≡ false
member-list value = refl
member-list item = refl
member-list pair = refl
member-list key = refl
member-list disable = refl
member-list assign = refl
member-list axis = refl

member-section : (k j : Kind) (b b' : ℕ) → (is_member j && eqb (row_of k b).list (row_of j b').list) ≡ true → section_of j ≡ section_of k
member-section k field b b' e = absurd (false≢true e)
member-section k unknown b b' e = absurd (false≢true e)
member-section k (constraint j) b b' e = absurd (false≢true e)
member-section k (projector j) b b' e = absurd (false≢true e)
member-section k (member j) b b' e =
    let l : (row_of k b).list ≡ (member_row j).list = yes_eq (row_of k b).list (member_row j).list e in
    yes_eq (part_of (member_row j).list) (section_of k)
    (sym (ap (λ c. c || eqb (part_of (member_row j).list) (section_of k)) (member-list j)) ∙ ap (λ (x : ℕ). eqb x 0 || eqb (part_of x) (section_of k)) (sym l) ∙ row-section k b)

abbrev pub OneSection : Group → Type 0
OneSection (group h ms) = All (λ (m : Record). section_of m.kind ≡ section_of h.kind) ms

pub members_section : (k : Kind) (n : ℕ) (h : Record) (before ms : List Record) → MembersGood k n h before ms → All (λ (m : Record). section_of m.kind ≡ section_of k) ms
members_section k n h before [] g = []ᴬ
members_section k n h before (m ∷ ms) g = member-section k m.kind h.b m.b g.0 ∷ᴬ members_section k n h (before ++ (m ∷ [])) ms g.2

pub good_sections : (c : Context) (gs : List Group) → Good c gs → All OneSection gs
good_sections c [] g = []ᴬ
good_sections c (group h ms ∷ gs) g = ◌∷ᴬ◌ {x = group h ms} (members_section h.kind _ h [] ms g.0.1) (good_sections (after c (group h ms)) gs g.1)

-- A record of section i.
abbrev pub in_part : ℕ → Record → Bool
in_part i h = eqb (section_of h.kind) i

module _ (i : ℕ) (test : Kind → Bool) (agree : (k : Kind) → is_member k ≡ false → test k ≡ eqb (section_of k) i) where
  section_flat : {gs : List Group} → All Proper gs → All OneSection gs → filter (in_part i) (flat gs) ≡ flat (filter (head_is test) gs)
  section_flat []ᴬ []ᴬ = refl
  section_flat (◌∷ᴬ◌ {x = group h ms} {xs = gs} p t) (q ∷ᴬ u) =
      ap (cons_if (in_part i h) h) (filter_append (in_part i) ms (flat gs) ∙ ap (λ l. filter (in_part i) ms ++ l) (section_flat t u))
      ∙ go (eqb (section_of h.kind) i) refl
      ∙ ap (λ (b : Bool). flat (cons_if b (group h ms) (filter (head_is test) gs))) (sym (agree h.kind p.0))
    where
      go : (b : Bool) → eqb (section_of h.kind) i ≡ b → cons_if b h (filter (in_part i) ms ++ flat (filter (head_is test) gs)) ≡ flat (cons_if b (group h ms) (filter (head_is test) gs))
      go true e = ap (λ l. h ∷ (l ++ flat (filter (head_is test) gs))) (filter_every (in_part i) (All_imp (λ m w. ap (λ (k : ℕ). eqb k i) w ∙ e) q))
      go false e = ap (λ l. l ++ flat (filter (head_is test) gs)) (filter_none (in_part i) (All_imp (λ m w. ap (λ (k : ℕ). eqb k i) w ∙ e) q))

pub field_section : (k : Kind) → is_member k ≡ false → is_field k ≡ eqb (section_of k) 0
field_section field e = refl
field_section unknown e = refl
field_section (constraint k) e = refl
field_section (projector k) e = refl
field_section (member k) e = absurd (true≢false e)

pub constraint-section : (k : Kind) → is_member k ≡ false → is_constraint k ≡ eqb (section_of k) 1
constraint-section field e = refl
constraint-section unknown e = refl
constraint-section (constraint k) e = refl
constraint-section (projector k) e = refl
constraint-section (member k) e = absurd (true≢false e)

pub not_field : (k : Kind) → is_member k ≡ true → is_field k ≡ false
not_field field e = absurd (false≢true e)
not_field unknown e = refl
not_field (constraint k) e = refl
not_field (projector k) e = refl
not_field (member k) e = refl

module _ {rs : List Record} (w : Whole rs) where
  in_part_lem : (i : ℕ) (test : Kind → Bool) → ((k : Kind) → is_member k ≡ false → test k ≡ eqb (section_of k) i) → filter (in_part i) rs ≡ flat (filter (head_is test) (groups rs))
  in_part_lem i test agree = ap (filter (in_part i)) (whole_flat w) ∙ section_flat i test agree (groups_proper rs) (good_sections (context 0 0 0) (groups rs) w.good)

  -- The records of the fields' section are the field groups, those of the constraints' section the constraint groups.
  pub field_records : filter (in_part 0) rs ≡ flat (field_groups (groups rs))
  field_records = in_part_lem 0 is_field field_section

  pub constraint_records : filter (in_part 1) rs ≡ flat (constraint_groups (groups rs))
  constraint_records = in_part_lem 1 is_constraint constraint-section

  -- There are as many field records as field groups.
  pub field_heads : length (filter (λ h. is_field h.kind) rs) ≡ length (field_groups (groups rs))
  field_heads = ap (λ l. length (filter (λ h. is_field h.kind) l)) (whole_flat w) ∙ count (groups_proper rs)
    where
      count : {gs : List Group} → All Proper gs → length (filter (λ h. is_field h.kind) (flat gs)) ≡ length (field_groups gs)
      count []ᴬ = refl
      count (◌∷ᴬ◌ {x = group h ms} {xs = gs} p t) = go (is_field h.kind) (count t)
        where
          rest : filter (λ m. is_field m.kind) (ms ++ flat gs) ≡ filter (λ m. is_field m.kind) (flat gs)
          rest = filter_append (λ m. is_field m.kind) ms (flat gs)
              ∙ ap (λ l. l ++ filter (λ m. is_field m.kind) (flat gs)) (filter_none (λ m. is_field m.kind) (All_imp (λ m e. not_field m.kind e) p.1))

          go : (b : Bool) → length (filter (λ m. is_field m.kind) (flat gs)) ≡ length (field_groups gs)
              → length (cons_if b h (filter (λ m. is_field m.kind) (ms ++ flat gs))) ≡ length (cons_if b (group h ms) (field_groups gs))
          go true ih = ap suc (ap length rest ∙ ih)
          go false ih = ap length rest ∙ ih
