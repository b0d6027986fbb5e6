-- Lists of fields, laid one behind the other.
use mathlib.Core.List.{List, [], ◌++◌, ◌∷◌, append-nil, map}
use mathlib.Core.Path.{◌∙◌, ◌≡◌, ap, ap₂, refl, subst, sym}
use Prim.Native.Nat.{◌+◌, ◌-◌, ◌/◌, ◌<◌, ◌≤◌, suc, ℕ}
use native.Mathlib.Nat.{add-zero, zero-add}
use native.Mathlib.Omega.{arith}
use lib.IntN.{pos, ℤ}
use lib.ListN.{drop, drop_of_length-le, get_or, length, length-append, length-drop, length-map, length-take, replicate, set, take}
use lib.Seq.{append_snoc, length-take-le, set_at, take-append-add, take-append-le}
use Rattle.lists.specs.Lists.{concat_map, map_from, sum_n}
use Rattle.lists.proofs.Lists.{concat_map_append, map_append}
use Rattle.spec.specs.Code.{InScale, as_record, domain_length, lengths}
use Rattle.spec.specs.Domain.{domain}
use Rattle.spec.specs.Kind.{Kind, kind_of}
use Rattle.spec.specs.Record.{Group, Record, field_by, field_in, field_of, record_at, records_of}
use Rattle.spec.specs.Spec.{ConstraintSpec, FieldSpec}
use Rattle.spec.specs.declared.records.Record as code
use Rattle.spec.proofs.Fields.{kind_of_lem, length_records}
use Rattle.spec.proofs.Shapes.{field_kind, length-domain}
use Rattle.registry.specs.Code.{group_in}
use Rattle.compose.specs.Maps.{allowed}
use Rattle.compose.specs.Code.{FieldIn, fields_in, list_places, lists_by, packed_lists, span_of, spans_from, used_by}
use Rattle.compose.specs.declared.places.Span.{Span}
use Rattle.compose.proofs.Packed.{length_spans}
use Rattle.compose.proofs.Allowed.{allowed_le}
use Rattle.compose.proofs.Positions.{groups-done, groups_loop}

-- ---- a field where it lies
abbrev pub field_at : List ℕ → ℕ → ℕ → FieldSpec
field_at file head end = field_by (record_at file head).b (record_at file head) (take (end - suc head) (drop (suc head) (records_of file)))

pub field_group : (file : List ℕ) (head end : ℕ) → FieldIn file head end → field_of (group_in file head end) ≡ field_at file head end ∷ []
field_group file head end is = ap (λ (k : Kind). field_in k (record_at file head) (take (end - suc head) (drop (suc head) (records_of file)))) (kind_of_lem file head ∙ ap kind_of is.field_is ∙ field_kind)

-- read as h, with the bytes of its values
pub domain_long : (h : code.Record) (values : List ℕ) → domain_length (as_record h) (length values / 32) ≡ length (domain (field_by h.b (as_record h) (records_of values)))
domain_long h values = ap (domain_length (as_record h)) (sym (length_records values)) ∙ length-domain h.b (as_record h) (records_of values)

module _ (h : code.Record) (file values : List ℕ) (head end : ℕ) (is : FieldIn file head end) (e : as_record h ≡ record_at file head) (ms : records_of values ≡ take (end - suc head) (drop (suc head) (records_of file))) where
  abbrev field_here : FieldSpec
  field_here = field_by h.b (as_record h) (records_of values)

  pub field_here_lem : field_of (group_in file head end) ≡ field_here ∷ []
  field_here_lem = field_group file head end is ∙ ap₂ (λ (r : Record) (l : List Record). field_by r.b r l ∷ []) (sym e) (sym ms)

  pub field_length : domain_length (as_record h) (length values / 32) ≡ length (domain field_here)
  field_length = domain_long h values

  pub field_room : (n : ℕ) → sum_n (lengths (field_of (group_in file head end))) ≤ n → length (domain field_here) ≤ n
  field_room n r = let q = subst (λ (ds : List FieldSpec). sum_n (lengths ds) ≤ n) field_here_lem r in omega arith

  pub field_allowed : (cs : List ConstraintSpec) (f : ℕ) → allowed cs f field_here ≡ concat_map (λ d. allowed cs f d) (field_of (group_in file head end))
  field_allowed cs f = sym (ap (λ (ds : List FieldSpec). concat_map (λ d. allowed cs f d) ds) field_here_lem ∙ append-nil (allowed cs f field_here))

pub field_scaled : (h : code.Record) (file : List ℕ) (head end : ℕ) → FieldIn file head end → as_record h ≡ record_at file head → InScale h.p h.q h.r
field_scaled h file head end is e = subst (λ (r : Record). InScale r.p r.q r.r) (sym e) is.scaled

-- What stands in front of a part stands in front of the whole.
pub front_part : (r : ℕ) (new part rest : List ℤ) → r ≡ length new → take r part ≡ new → take r (part ++ rest) ≡ new
front_part r new part rest e t = take-append-le r part rest (omega (arith, ap length t, length-take r part)) ∙ t

-- ---- where lists of given lengths lie, with one list more
spans_more : (a : ℕ) (ns : List ℕ) (n : ℕ) → spans_from a (ns ++ (n ∷ [])) ≡ spans_from a ns ++ (span_of (a + sum_n ns) n ∷ [])
spans_more a [] n = ap (λ (x : ℕ). span_of x n ∷ []) (sym (add-zero a))
spans_more a (m ∷ ns) n =
    let e : a + m + sum_n ns ≡ a + (m + sum_n ns) = omega arith in
    ap (λ (l : List Span). span_of a m ∷ l) (spans_more (a + m) ns n ∙ ap (λ (x : ℕ). spans_from (a + m) ns ++ (span_of x n ∷ [])) e)

places_more : (ns : List ℕ) (j n : ℕ) → length ns ≡ j → j < 32 → list_places (ns ++ (n ∷ [])) ≡ set (list_places ns) j (span_of (sum_n ns) n)
places_more ns j n e h =
    let spans = spans_from 0 ns in
    let new = span_of (sum_n ns) n in
    let m : 32 - length ns ≡ suc (32 - suc j) = omega arith in
    let q : 32 - length (ns ++ (n ∷ [])) ≡ 32 - suc j = omega (arith, length-append ns (n ∷ [])) in
    ap₂ (λ (l : List Span) (k : ℕ). l ++ replicate k (span_of 0 0)) (spans_more 0 ns n ∙ ap (λ (x : ℕ). spans ++ (span_of x n ∷ [])) (zero-add (sum_n ns))) q
    ∙ append_snoc spans new (replicate (32 - suc j) (span_of 0 0))
    ∙ sym (ap (λ (k : ℕ). set (spans ++ replicate k (span_of 0 0)) j new) m ∙ set_at spans (span_of 0 0) (replicate (32 - suc j) (span_of 0 0)) new j (length_spans 0 ns ∙ e))

-- ---- the lists of the first k − 1 fields are laid, and end before `at`
abbrev joined : List (List ℤ) → List ℤ
joined ls = concat_map (λ l. l) ls

pub record Laid (file fields : List ℕ) (cs : List ConstraintSpec) (size : ℕ) (scratch : List ℤ) (places : List Span) (at k : ℕ) : Type 0 where
  pub done : List (List ℤ)
  pub first : 1 ≤ k
  pub counted : length done ≡ k - 1
  pub whole : done ++ map_from (allowed cs) (k - 1) (fields_in file (drop (k - 1) fields)) ≡ lists_by cs (fields_in file fields)
  pub long : length scratch ≡ size
  pub front : take at scratch ≡ concat_map (λ l. l) done
  pub ends : at ≡ length (concat_map (λ l. l) done)
  pub room : at + sum_n (lengths (fields_in file (drop (k - 1) fields))) ≤ size
  pub places-are : places ≡ list_places (map length done)

joined_more : (ls : List (List ℤ)) (l : List ℤ) → joined (ls ++ (l ∷ [])) ≡ joined ls ++ l
joined_more ls l = concat_map_append (λ (z : List ℤ). z) ls (l ∷ []) ∙ ap (λ (z : List ℤ). joined ls ++ z) (append-nil l)

length_joined : (ls : List (List ℤ)) → length (joined ls) ≡ sum_n (map length ls)
length_joined [] = refl
length_joined (l ∷ ls) = length-append l (joined ls) ∙ ap (λ (n : ℕ). length l + n) (length_joined ls)

sum_append : (a b : List ℕ) → sum_n (a ++ b) ≡ sum_n a + sum_n b
sum_append [] b = sym (zero-add (sum_n b))
sum_append (x ∷ a) b = let e = sum_append a b in omega arith

module _ (file fields : List ℕ) (cs : List ConstraintSpec) (size : ℕ) (scratch : List ℤ) (places : List Span) (at k : ℕ) (m : Laid file fields cs size scratch places at k) where
  -- the part from `at` on
  part_length : length (take (length scratch - at) (drop at scratch)) ≡ size - at
  part_length = let n = m.long in length-take-le (length scratch - at) (drop at scratch) (omega (arith, length-drop at scratch)) ∙ omega arith

  -- the field at number k − 1
  module _ (l : k < length fields) where
    abbrev head : ℕ
    head = get_or fields (k - 1) 0

    abbrev end : ℕ
    end = get_or fields k 0

    left : fields_in file (drop (k - 1) fields) ≡ field_of (group_in file head end) ++ fields_in file (drop (k + 1 - 1) fields)
    left = ap (concat_map field_of) (groups_loop file fields k m.first l)

    room_left : sum_n (lengths (fields_in file (drop (k - 1) fields))) ≡ sum_n (lengths (field_of (group_in file head end))) + sum_n (lengths (fields_in file (drop (k + 1 - 1) fields)))
    room_left = ap (λ (ds : List FieldSpec). sum_n (lengths ds)) left ∙ ap sum_n (map_append (λ d. length (domain d)) (field_of (group_in file head end)) (fields_in file (drop (k + 1 - 1) fields))) ∙ sum_append (lengths (field_of (group_in file head end))) (lengths (fields_in file (drop (k + 1 - 1) fields)))

    pub laid_room : sum_n (lengths (field_of (group_in file head end))) ≤ length (take (length scratch - at) (drop at scratch))
    laid_room = let r = m.room in omega (arith, room_left, part_length)

    module _ (is : FieldIn file head end) (few : k ≤ 32) (r : ℕ) (part rest : List ℤ) (count : r ≡ length (concat_map (λ d. allowed cs (k - 1) d) (field_of (group_in file head end))))
        (front : take r part ≡ concat_map (λ d. allowed cs (k - 1) d) (field_of (group_in file head end))) (long : length (take at scratch ++ (part ++ rest)) ≡ size) where
      abbrev here : FieldSpec
      here = field_at file head end

      abbrev new : List ℤ
      new = allowed cs (k - 1) here

      one : field_of (group_in file head end) ≡ here ∷ []
      one = field_group file head end is

      new_is : concat_map (λ d. allowed cs (k - 1) d) (field_of (group_in file head end)) ≡ new
      new_is = ap (λ (ds : List FieldSpec). concat_map (λ d. allowed cs (k - 1) d) ds) one ∙ append-nil new

      r_is : r ≡ length new
      r_is = count ∙ ap length new_is

      pub laid_turn : Laid file fields cs size (take at scratch ++ (part ++ rest)) (set places (k - 1) (span_of at r)) (at + r) (k + 1)
      laid_turn =
          let ls = m.done in
          let f = m.first in
          let n = m.counted in
          let z = m.room in
          let next : suc (k - 1) ≡ k + 1 - 1 = omega arith in
          let lens : length (map length ls) ≡ k - 1 = length-map ls length ∙ m.counted in
          let q = room_left in
          let fits = allowed_le cs (k - 1) here in
          let ds = ap (λ (y : List FieldSpec). sum_n (lengths y)) one in
          let at-is : at ≡ length (take at scratch) = m.ends ∙ ap length (sym m.front) in
          let most : k - 1 < 32 = omega arith in
          record {
            done = ls ++ (new ∷ []);
            first = omega arith;
            counted = length-append ls (new ∷ []) ∙ omega arith;
            whole = append_snoc ls new (map_from (allowed cs) (k + 1 - 1) (fields_in file (drop (k + 1 - 1) fields)))
                ∙ ap (λ (a : ℕ). ls ++ (new ∷ map_from (allowed cs) a (fields_in file (drop (k + 1 - 1) fields)))) (sym next)
                ∙ ap (λ (y : List FieldSpec). ls ++ map_from (allowed cs) (k - 1) y) (sym (left ∙ ap (λ (y : List FieldSpec). y ++ fields_in file (drop (k + 1 - 1) fields)) one)) ∙ m.whole;
            long = long;
            front = ap (λ (a : ℕ). take (a + r) (take at scratch ++ (part ++ rest))) at-is ∙ take-append-add (take at scratch) (part ++ rest) r
                ∙ ap₂ (λ (a b : List ℤ). a ++ b) m.front (front_part r new part rest r_is (front ∙ new_is)) ∙ sym (joined_more ls new);
            ends = ap₂ (λ (a b : ℕ). a + b) m.ends r_is ∙ sym (ap length (joined_more ls new) ∙ length-append (joined ls) new);
            room = omega (arith, r_is);
            places-are = ap₂ (λ (p : List Span) (a : ℕ). set p (k - 1) (span_of a r)) m.places-are (m.ends ∙ length_joined ls) ∙ ap (λ (n : ℕ). set (list_places (map length ls)) (k - 1) (span_of (sum_n (map length ls)) n)) r_is
                ∙ sym (ap list_places (map_append length ls (new ∷ [])) ∙ places_more (map length ls) (k - 1) (length new) lens most);
          }

  -- after the last
  module _ (l : length fields ≤ k) where
    laid_all : m.done ≡ lists_by cs (fields_in file fields)
    laid_all = sym (append-nil m.done) ∙ ap (λ (gs : List Group). m.done ++ map_from (allowed cs) (k - 1) (concat_map field_of gs)) (sym (groups-done file fields k m.first l)) ∙ m.whole

    pub laid_places : places ≡ list_places (map length (lists_by cs (fields_in file fields)))
    laid_places = m.places-are ∙ ap (λ (ls : List (List ℤ)). list_places (map length ls)) laid_all

    pub laid_used : at ≡ used_by (lists_by cs (fields_in file fields))
    laid_used = m.ends ∙ ap used_by laid_all

    pub laid_scratch : (part : List ℤ) → part ≡ replicate (length (take (length scratch - at) (drop at scratch))) (pos 0) → take at scratch ++ (part ++ drop (length scratch - at) (drop at scratch)) ≡ packed_lists (lists_by cs (fields_in file fields)) size
    laid_scratch part p =
        let rest = drop_of_length-le (drop at scratch) {i = length scratch - at} (omega (arith, length-drop at scratch)) in
        ap₂ (λ (a b : List ℤ). a ++ b) m.front (ap₂ (λ (a b : List ℤ). a ++ b) p rest ∙ append-nil _ ∙ ap (λ (n : ℕ). replicate n (pos 0)) (part_length ∙ ap (λ (n : ℕ). size - n) m.ends))
        ∙ ap (λ (ls : List (List ℤ)). packed_lists ls size) laid_all
