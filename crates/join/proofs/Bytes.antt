-- The bytes that join writes are the joined groups.
use mathlib.Core.Bool.{false}
use mathlib.Core.List.{List, [], ◌++◌, ◌∷◌, map}
use mathlib.Core.Path.{◌∙◌, ◌≡◌, ap, ap₂, refl, subst, sym}
use Prim.Native.Nat.{◌%◌, ◌+◌, ◌≤◌, ℕ}
use native.Mathlib.Omega.{arith}
use lib.Dec.{ltb}
use lib.ListN.{drop, get_or, length, length-map, length-set, set, take}
use lib.Seq.{drop-set-lt, get_or-set_other, get_or-set_same}
use Rattle.lists.specs.Integers.{little_endian, signed64}
use Rattle.lists.specs.Lists.{filter}
use Rattle.lists.proofs.All.{All, All_append, All-filter, All_imp, All-mapped, []ᴬ, ◌∷ᴬ◌}
use Rattle.lists.proofs.Lists.{concat_map_append, filter_map, map_append}
use Rattle.lists.proofs.Tests.{no_ge, or_split}
use Rattle.spec.specs.Kind.{Kind, is_constraint, is_field, kind_of, row_of}
use Rattle.spec.specs.Record.{Group, Record, decoded, group, groups, member_run, parts_of, record_of, records_of, spec_of}
use Rattle.spec.specs.Refusal.{context}
use Rattle.spec.proofs.Accepted.{count-constraints, count-fields}
use Rattle.spec.proofs.Files.{Full, length_laid, parts_full, parts_laid}
use Rattle.spec.proofs.Good.{Good, Whole, constraint_groups, field_groups, good_parts, head_is}
use Rattle.spec.proofs.Groups.{Proper, flat, groups_flat, groups_proper, records_in}
use Rattle.spec.proofs.Sections.{constraint_records, field_heads, field_records, in_part}
use Rattle.join.specs.Join.{add_if, field_count, in_section, join_bytes, join_parts, join_spec, move_bytes, move_bytes_by, moves, section, sum_bytes, too_many_records}
use Rattle.join.proofs.Decode.{spec_joined}
use Rattle.join.proofs.Moved.{join_good, join_groups, move_group, move_record, sum_record}

-- ---- records
join_records : ℕ → List Record → List Record → List Record
join_records n rs ts = filter (in_part 0) rs ++ (map (move_record n) (filter (in_part 0) ts) ++ (filter (in_part 1) rs ++ (map (move_record n) (filter (in_part 1) ts) ++ (sum_record ∷ []))))

move_flat : (n : ℕ) (gs : List Group) → map (move_record n) (flat gs) ≡ flat (map (move_group n) gs)
move_flat n [] = refl
move_flat n (group h ms ∷ gs) = ap (λ l. move_record n h ∷ l) (map_append (move_record n) ms (flat gs) ∙ ap (λ l. map (move_record n) ms ++ l) (move_flat n gs))

proper_move : (n : ℕ) {gs : List Group} → All Proper gs → All Proper (map (move_group n) gs)
proper_move n []ᴬ = []ᴬ
proper_move n (◌∷ᴬ◌ {x = group h ms} p t) = ◌∷ᴬ◌ {x = move_group n (group h ms)} (p.0, All-mapped (move_record n) p.1) (proper_move n t)

proper_joined : (n : ℕ) {F G : List Group} → All Proper F → All Proper G → All Proper (join_groups n F G)
proper_joined n p q = All_append (All-filter (head_is is_field) p) (All_append (proper_move n (All-filter (head_is is_field) q)) (All_append (All-filter (head_is is_constraint) p)
    (All_append (proper_move n (All-filter (head_is is_constraint) q)) (◌∷ᴬ◌ {x = group sum_record []} (refl, []ᴬ) []ᴬ))))

module _ {rs ts : List Record} (wr : Whole rs) (wt : Whole ts) where
  flat_joined : (n : ℕ) → join_records n rs ts ≡ flat (join_groups n (groups rs) (groups ts))
  unfolding join_records
  flat_joined n = ap₂ ◌++◌ (field_records wr) (ap₂ ◌++◌ (ap (map (move_record n)) (field_records wt) ∙ move_flat n (field_groups (groups ts)))
      (ap₂ ◌++◌ (constraint_records wr) (ap (λ l. l ++ (sum_record ∷ [])) (ap (map (move_record n)) (constraint_records wt) ∙ move_flat n (constraint_groups (groups ts))))))
      ∙ sym (concat_map_append records_in (field_groups (groups rs)) _ ∙ ap (λ l. flat (field_groups (groups rs)) ++ l)
      (concat_map_append records_in (map (move_group n) (field_groups (groups ts))) _ ∙ ap (λ l. flat (map (move_group n) (field_groups (groups ts))) ++ l)
      (concat_map_append records_in (constraint_groups (groups rs)) _ ∙ ap (λ l. flat (constraint_groups (groups rs)) ++ l)
      (concat_map_append records_in (map (move_group n) (constraint_groups (groups ts))) _))))

-- ---- bytes
drop_moved : (k : Kind) (n : ℕ) (bytes : List ℕ) (i : ℕ) → 3 ≤ i → drop i (move_bytes_by k n bytes) ≡ drop i bytes
drop_moved k n bytes i h = drop-set-lt i (set bytes 1 _) 2 _ (omega arith) ∙ drop-set-lt i bytes 1 _ (omega arith)

record_of-move : (n : ℕ) (bytes : List ℕ) → length bytes ≡ 32 → record_of (move_bytes n bytes) ≡ move_record n (record_of bytes)
unfolding record_of move_bytes
record_of-move n bytes e =
    let k = kind_of (get_or bytes 0 0) in
    let x = add_if (moves (row_of k (get_or bytes 2 0)).a) n (get_or bytes 1 0) in
    let y = add_if (moves (row_of k (get_or bytes 2 0)).b) n (get_or bytes 2 0) in
    let first : get_or (set (set bytes 1 x) 2 y) 0 0 ≡ get_or bytes 0 0 = get_or-set_other (set bytes 1 x) 2 0 y 0 (omega arith) ∙ get_or-set_other bytes 1 0 x 0 (omega arith) in
    λ i. record {
      code = first i;
      kind = ap kind_of first i;
      a = (get_or-set_other (set bytes 1 x) 2 1 y 0 (omega arith) ∙ get_or-set_same bytes 1 x 0 (omega arith)) i;
      b = get_or-set_same (set bytes 1 x) 2 y 0 (omega (arith, length-set bytes 1 x)) i;
      padding = ap (λ (l : List ℕ). little_endian (take 5 l)) (drop_moved k n bytes 3 (omega arith)) i;
      p = ap (λ (l : List ℕ). signed64 (little_endian (take 8 l))) (drop_moved k n bytes 8 (omega arith)) i;
      q = ap (λ (l : List ℕ). signed64 (little_endian (take 8 l))) (drop_moved k n bytes 16 (omega arith)) i;
      r = ap (λ (l : List ℕ). signed64 (little_endian (take 8 l))) (drop_moved k n bytes 24 (omega arith)) i;
    }

record_of_sum : record_of sum_bytes ≡ sum_record
unfolding record_of sum_bytes kind_of
record_of_sum = refl

moved_full : (n : ℕ) {parts : List (List ℕ)} → Full parts → Full (map (move_bytes n) parts)
moved_full n h = All-mapped (move_bytes n) (All_imp full h)
  where
    full : (bytes : List ℕ) → length bytes ≡ 32 → length (move_bytes n bytes) ≡ 32
    full bytes e = unfold move_bytes in length-set (set bytes 1 _) 2 _ ∙ length-set bytes 1 _ ∙ e

sum_full : length sum_bytes ≡ 32
unfolding sum_bytes
sum_full = refl

records_move : (n : ℕ) {parts : List (List ℕ)} → Full parts → map record_of (map (move_bytes n) parts) ≡ map (move_record n) (map record_of parts)
records_move n []ᴬ = refl
records_move n (◌∷ᴬ◌ {x = bytes} e t) = ap₂ ◌∷◌ (record_of-move n bytes e) (records_move n t)

section_records : (i : ℕ) (file : List ℕ) → map record_of (section i file) ≡ filter (in_part i) (records_of file)
unfolding records_of
section_records i file = sym (filter_map (in_part i) record_of (parts_of file))

pub field_count_records : (file : List ℕ) → field_count file ≡ length (filter (λ h. is_field h.kind) (records_of file))
unfolding records_of
field_count_records file = sym (length-map (filter (λ bytes. is_field (record_of bytes).kind) (parts_of file)) record_of) ∙ ap length (sym (filter_map (λ h. is_field h.kind) record_of (parts_of file)))

-- ---- two whole files
module _ (f g : List ℕ) (lf : length f % 32 ≡ 0) (lg : length g % 32 ≡ 0) where
  pub joined_full : Full (join_parts f g)
  unfolding join_parts
  joined_full = All_append (All-filter (in_section 0) (parts_full f lf)) (All_append (moved_full (field_count f) (All-filter (in_section 0) (parts_full g lg)))
      (All_append (All-filter (in_section 1) (parts_full f lf)) (All_append (moved_full (field_count f) (All-filter (in_section 1) (parts_full g lg))) (sum_full ∷ᴬ []ᴬ))))

  -- The joined file is whole records.
  pub join_whole32 : length (join_bytes f g) % 32 ≡ 0
  unfolding join_bytes
  join_whole32 = let e = length_laid joined_full in omega arith

  parts_records : map record_of (join_parts f g) ≡ join_records (field_count f) (records_of f) (records_of g)
  unfolding join_parts join_records
  parts_records =
      map_append record_of (section 0 f) _ ∙ ap₂ ◌++◌ (section_records 0 f)
      (map_append record_of (map (move_bytes (field_count f)) (section 0 g)) _ ∙ ap₂ ◌++◌ (moved 0)
      (map_append record_of (section 1 f) _ ∙ ap₂ ◌++◌ (section_records 1 f)
      (map_append record_of (map (move_bytes (field_count f)) (section 1 g)) _ ∙ ap₂ ◌++◌ (moved 1) (ap (λ r. r ∷ []) record_of_sum))))
    where
      moved : (i : ℕ) → map record_of (map (move_bytes (field_count f)) (section i g)) ≡ map (move_record (field_count f)) (filter (in_part i) (records_of g))
      moved i = records_move (field_count f) (All-filter (in_section i) (parts_full g lg)) ∙ ap (map (move_record (field_count f))) (section_records i g)

  join_records_lem : records_of (join_bytes f g) ≡ join_records (field_count f) (records_of f) (records_of g)
  join_records_lem = open_records ∙ parts_records
    where
      open_records : records_of (join_bytes f g) ≡ map record_of (join_parts f g)
      open_records = unfold records_of join_bytes in ap (map record_of) (parts_laid joined_full)

  module _ (wf : Whole (records_of f)) (wg : Whole (records_of g)) where
    abbrev n : ℕ
    n = length (field_groups (groups (records_of f)))

    join_flat : records_of (join_bytes f g) ≡ flat (join_groups n (groups (records_of f)) (groups (records_of g)))
    join_flat = join_records_lem ∙ ap (λ (k : ℕ). join_records k (records_of f) (records_of g)) (field_count_records f ∙ field_heads wf) ∙ flat_joined wf wg n

    cuts : (member_run (records_of (join_bytes f g)) ≡ []) × (groups (records_of (join_bytes f g)) ≡ join_groups n (groups (records_of f)) (groups (records_of g)))
    cuts = let c = groups_flat (proper_joined n (groups_proper (records_of f)) (groups_proper (records_of g))) in (ap member_run join_flat ∙ c.0, ap groups join_flat ∙ c.1)

    -- It decodes to the joined specification.
    pub join-decoded : decoded (join_bytes f g) ≡ join_spec (decoded f) (decoded g)
    unfolding decoded
    join-decoded = ap spec_of cuts.1 ∙ spec_joined _ (groups (records_of f)) (groups (records_of g)) (good_parts (groups_proper (records_of g)) 0 wg.good).1

    -- It has no fault in its records, where there are not too many of them.
    pub join_records-whole : too_many_records (decoded f) (decoded g) ≡ false → Whole (records_of (join_bytes f g))
    join_records-whole few = record { led = cuts.0; good = subst (Good (context 0 0 0)) (sym cuts.1) (join_good (groups_proper (records_of f)) (groups_proper (records_of g)) counts.0 counts.1 wf.good wg.good) }
      where
        counts : (length (field_groups (groups (records_of f))) + length (field_groups (groups (records_of g))) ≤ 32)
            × (length (constraint_groups (groups (records_of f))) + length (constraint_groups (groups (records_of g))) ≤ 256)
        counts = unfold decoded spec_of in
            let s = or_split (ltb 32 (length (decoded f).fields + length (decoded g).fields)) (ltb 256 (length (decoded f).constraints + length (decoded g).constraints)) few in
            (rw (count-fields (groups (records_of f)), count-fields (groups (records_of g))) (no_ge 32 _ s.0), rw (count-constraints (groups (records_of f)), count-constraints (groups (records_of g))) (no_ge 256 _ s.1))
