-- The answer of join, case by case, and what an accepted file's shape says of it.
use Rattle.std.specs.Prelude.{Err, IsErrAnd, MatchResult, Ok, Result}
use mathlib.Core.Bool.{Bool, ◌||◌, cond, false, true}
use mathlib.Core.List.{List, [], ◌++◌, ◌∷◌, append-nil, map}
use mathlib.Core.Option.{none, some}
use mathlib.Core.Path.{◌∙◌, ◌≡◌, ap, ap₂, refl, subst, sym}
use Prim.Native.Nat.{◌%◌, ◌*◌, ◌+◌, ◌-◌, ◌≤◌, suc, zero, ℕ}
use native.Mathlib.Nat.{sub-zero, zero-add}
use native.Mathlib.Omega.{arith}
use lib.Dec.{ltb}
use lib.ListN.{drop, get_or, length, length-append, length-drop, length-map, set, take}
use lib.Seq.{length-take-le, set-get_or}
use Rattle.lists.proofs.Lists.{concat_map_append}
use Rattle.lists.proofs.Tests.{eqb_no, eqb_yes, no_ge, or_split}
use Rattle.spec.specs.Code.{as_kind, as_shape, fault_number, kind_number, number_of}
use Rattle.spec.specs.Domain.{too_many, total}
use Rattle.spec.specs.Kind.{kind_of, projector, row_of, sum}
use Rattle.spec.specs.Record.{decoded, groups, parts_of, record_at, record_of, records_of, spec_of}
use Rattle.spec.specs.Refusal.{◌▷◌, accepted, file_fault, refuse, refuse_if, refused}
use Rattle.spec.specs.Shape as shapes
use Rattle.spec.specs.Shape.{shape_of}
use Rattle.spec.specs.Spec.{FieldSpec, Spec}
use Rattle.spec.specs.declared.kinds.Kind as kinds'
use Rattle.spec.specs.declared.refusal.Fault.{Fault}
use Rattle.spec.specs.declared.validate.Accepted.{Accepted}
use Rattle.spec.specs.declared.validate.Shape as code
use Rattle.spec.proofs.Accepted.{count-fields, decoded-few, file_good}
use Rattle.spec.proofs.Files.{laid, length_laid}
use Rattle.spec.proofs.Known.{named}
use Rattle.spec.proofs.Sections.{field_heads}
use Rattle.spec.proofs.Turns.{fault_refused}
use Rattle.join.specs.declared.join.JoinRefusal.{JoinRefusal}
use Rattle.join.specs.Code.{RangeIn, as_join_fault, as_join_refused, joined_number, moved_range, refusal_of, total_by}
use Rattle.join.specs.Join.{JoinRefused, add_if, field_count, first, is_sum, join_answer, join_bytes, join_fault, join_output, join_parts, join_spec, joined, move_bytes, moves, not_sum, of, second, section, sum_bytes, too_many_records}
use Rattle.join.proofs.Bytes.{field_count_records, joined_full}
use Rattle.join.proofs.Ranges.{Ranged, ranged}
use Rattle.join.proofs.Verdicts.{total-join}
use Rattle.join.proofs.Written.{length_parts}

-- ---- the total of a joined file
pub total_joined : (s t : Spec) → total (join_spec s t) ≡ total_by (length s.fields) (length t.fields) (total s) (total t)
total_joined s t = go s.fields refl t.fields refl
  where
    none_first : s.fields ≡ [] → total (join_spec s t) ≡ total t
    none_first e = unfold total join_spec in ap (λ (fs : List FieldSpec). total (record { fields = fs ++ t.fields; constraints = t.constraints; projector = t.projector })) e

    none_second : t.fields ≡ [] → total (join_spec s t) ≡ total s
    none_second e = unfold total join_spec in ap (λ (fs : List FieldSpec). total (record { fields = fs; constraints = s.constraints; projector = s.projector })) (ap (λ (fs : List FieldSpec). s.fields ++ fs) e ∙ append-nil s.fields)

    go : (fs : List FieldSpec) → s.fields ≡ fs → (gs : List FieldSpec) → t.fields ≡ gs → total (join_spec s t) ≡ total_by (length fs) (length gs) (total s) (total t)
    go [] e gs q = none_first e
    go (f ∷ fs) e [] q = none_second q
    go (f ∷ fs) e (g ∷ gs) q = total-join s t (let l = ap length e in omega arith) (let l = ap length q in omega arith)

-- ---- the refusals in turn
chain : (a b c d : Bool)
    → (of joined (refuse_if a 5) ▷ of joined (refuse_if b 1) ▷ of joined (refuse_if c 10) ▷ of joined (refuse_if d 14)) ≡ of joined (refuse (cond a 5 (cond b 1 (cond c 10 (cond d 14 0)))) 0)
chain true b c d = refl
chain false true c d = refl
chain false false true d = refl
chain false false false true = refl
chain false false false false = refl

-- Where nothing is refused the number is 0.
pub unrefused : (n : ℕ) → none ≡ of joined (refuse n 0) → n ≡ 0
unrefused zero e = refl
unrefused (suc n) e = cc

-- Number 0: few fields, and room.
pub number-zero : (fields constraints len all room : ℕ) → joined_number fields constraints len all room ≡ 0 → (fields ≤ 32) × (len ≤ room)
number-zero fields constraints len all room e =
    go (ltb 32 fields || ltb 256 constraints) refl (ltb 65536 len) (ltb 1000000000 all) (ltb room len) refl e
  where
    go : (a : Bool) → (ltb 32 fields || ltb 256 constraints) ≡ a → (b c d : Bool) → ltb room len ≡ d → ◌≡◌ {A = ℕ} (cond a 5 (cond b 1 (cond c 10 (cond d 14 0)))) 0 → (fields ≤ 32) × (len ≤ room)
    go true p b c d q e = absurd (omega arith)
    go false p true c d q e = absurd (omega arith)
    go false p false true d q e = absurd (omega arith)
    go false p false false true q e = absurd (omega arith)
    go false p false false false q e = (no_ge 32 fields (or_split (ltb 32 fields) (ltb 256 constraints) p).0, no_ge room len q)

module _ (room : ℕ) (f g : List ℕ) where
  pub fault_first : (r : JoinRefused) → of first (file_fault f) ≡ some r → join_fault room f g ≡ some r
  unfolding join_fault
  fault_first r e = rw e

  module _ (a : file_fault f ≡ none) where
    pub fault_second : (r : JoinRefused) → of second (file_fault g) ≡ some r → join_fault room f g ≡ some r
    unfolding join_fault
    fault_second r e = rw (a, e)

    module _ (b : file_fault g ≡ none) where
      pub fault_sum_first : (r : JoinRefused) → of first (not_sum f) ≡ some r → join_fault room f g ≡ some r
      unfolding join_fault
      fault_sum_first r e = rw (a, b, e)

      module _ (s : of first (not_sum f) ≡ none) where
        pub fault_sum_second : (r : JoinRefused) → of second (not_sum g) ≡ some r → join_fault room f g ≡ some r
        unfolding join_fault
        fault_sum_second r e = rw (a, b, s, e)

        pub fault_joined : of second (not_sum g) ≡ none
            → join_fault room f g ≡ of joined (refuse (joined_number (length (decoded f).fields + length (decoded g).fields) (length (decoded f).constraints + length (decoded g).constraints) (length (join_bytes f g)) (total (join_spec (decoded f) (decoded g))) room) 0)
        unfolding join_fault too_many
        fault_joined t = rw (a, b, s, t) (chain (too_many_records (decoded f) (decoded g)) (ltb 65536 (length (join_bytes f g))) (ltb 1000000000 (total (join_spec (decoded f) (decoded g)))) (ltb room (length (join_bytes f g))))

  pub answer-refused : (r : JoinRefused) → join_fault room f g ≡ some r → refused r ≡ join_answer room f g
  unfolding join_answer
  answer-refused r e = rw e

  pub answer_joined : join_fault room f g ≡ none → accepted (length (join_bytes f g)) ≡ join_answer room f g
  unfolding join_answer
  answer_joined e = rw e

module _ (f g old : List ℕ) where
  pub output_refused : (r : JoinRefused) → join_fault (length old) f g ≡ some r → old ≡ join_output f g old
  unfolding join_output
  output_refused r e = rw e

  pub output_joined : join_fault (length old) f g ≡ none → join_bytes f g ++ drop (length (join_bytes f g)) old ≡ join_output f g old
  unfolding join_output
  output_joined e = rw e

-- What the joined file is judged to have, refused as its.
pub refused_joined : (judged : Result (Unit {0}) Fault) (r : Result (Unit {0}) JoinRefusal) → MatchResult judged (λ x. r ≡ Ok x) (λ f. IsErrAnd r (λ e. as_join_refused e ≡ refusal_of joined (fault_number f) 0)) → as_join_fault r ≡ of joined (refuse (number_of judged) 0)
refused_joined (Ok x) r e = ap as_join_fault e
refused_joined (Err f) (Ok x) e = absurd e
refused_joined (Err f) (Err r) e = ap some e ∙ ap (of joined) (sym (fault_refused f (fault_number f) 0 refl))

-- ---- the shape of an accepted file
pub record Shaped (file : List ℕ) (s : code.Shape) : Type 0 where
  pub whole32 : length file % 32 ≡ 0
  pub short : length file ≤ 65536
  pub ranges : Ranged file s.constraints_at s.projector_at
  pub fields-are : s.fields ≡ length (decoded file).fields
  pub constraints-are : s.constraints ≡ length (decoded file).constraints
  pub total_is : s.total ≡ total (decoded file)
  pub count_is : field_count file ≡ s.fields
  pub fields-few : s.fields ≤ 32
  pub constraints-few : s.constraints ≤ 256
  pub total-few : s.total ≤ 1000000000

pub shaped : (file : List ℕ) (s : code.Shape) → file_fault file ≡ none → as_shape s ≡ shape_of file → Shaped file s
unfolding shape_of too_many decoded spec_of
shaped file s good e =
    let w = file_good file good in
    let few = decoded-few file w.whole in
    let at₁ = ap (λ (x : shapes.Shape). x.constraints_at) e in
    let at₂ = ap (λ (x : shapes.Shape). x.projector_at) e in
    let fields = ap (λ (x : shapes.Shape). x.fields) e in
    let constraints = ap (λ (x : shapes.Shape). x.constraints) e in
    let all = ap (λ (x : shapes.Shape). x.total) e in
    let sized = no_ge 1000000000 (total (decoded file)) w.sized in
    record {
      whole32 = w.whole32;
      short = w.short;
      ranges = subst (λ (d : ℕ). Ranged file s.constraints_at d) (sym at₂) (subst (λ (c : ℕ). Ranged file c (shape_of file).projector_at) (sym at₁) (ranged file good));
      fields-are = fields;
      constraints-are = constraints;
      total_is = all;
      count_is = field_count_records file ∙ field_heads w.whole ∙ count-fields (groups (records_of file)) ∙ sym fields;
      fields-few = omega (arith, fields, few.0);
      constraints-few = omega (arith, constraints, few.1);
      total-few = omega (arith, all, sized);
    }

-- The shape of an accepted file.
pub accepted_shaped : (a : Accepted) → Shaped a.file.now a.shape
accepted_shaped a = shaped a.file.now a.shape a.accepted a.shape_is

-- Its projector is a sum exactly when the kind read there is that of a sum.
module _ {file : List ℕ} {s : code.Shape} (u : Shaped file s) (kind : kinds'.Kind) (e : as_kind kind ≡ (record_at file s.projector_at).kind) (n : kind_number kind ≡ (record_at file s.projector_at).code) where
  pub sum_yes : kind ≡ kinds'.TheVariants.Sum → is_sum (decoded file).projector ≡ true
  sum_yes h = u.ranges.sum_is ∙ eqb_yes (record_at file s.projector_at).code 30 (sym n ∙ ap kind_number h)

  pub sum_no : ¬ (kind ≡ kinds'.TheVariants.Sum) → is_sum (decoded file).projector ≡ false
  unfolding record_of kind_of
  sum_no h = u.ranges.sum_is ∙ eqb_no (record_at file s.projector_at).code 30 (λ q. h (named kind (projector sum) (e ∙ ap kind_of q) (λ z. cc)))

-- The two ranges, with fields moved up by at most 32.
module _ {file : List ℕ} {s : code.Shape} (u : Shaped file s) (n : ℕ) (l : n ≤ 32) where
  pub fields_in : RangeIn file 0 s.constraints_at n
  fields_in = let r = u.ranges.rising in let e = u.ranges.inside in record { rising = omega arith; inside = omega arith; moves_in = λ i a h. u.ranges.moves_in n i l (omega arith) }

  pub constraints_in_lem : RangeIn file s.constraints_at s.projector_at n
  constraints_in_lem = let e = u.ranges.inside in record { rising = u.ranges.rising; inside = omega arith; moves_in = λ i a h. u.ranges.moves_in n i l h }

-- ---- the joined file as ranges of the two
-- A record moved by 0 is as it was.
unmoved : (bytes : List ℕ) → move_bytes 0 bytes ≡ bytes
unfolding move_bytes
unmoved bytes =
    let w = row_of (kind_of (get_or bytes 0 0)) (get_or bytes 2 0) in
    ap₂ (λ (x y : ℕ). set (set bytes 1 x) 2 y) (stays (moves w.a) (get_or bytes 1 0)) (stays (moves w.b) (get_or bytes 2 0)) ∙ ap (λ (l : List ℕ). set l 2 (get_or bytes 2 0)) (set-get_or bytes 1 0) ∙ set-get_or bytes 2 0
  where
    stays : (t : Bool) (x : ℕ) → add_if t 0 x ≡ x
    stays true x = zero-add x
    stays false x = refl

all_unmoved : (ps : List (List ℕ)) → map (move_bytes 0) ps ≡ ps
all_unmoved [] = refl
all_unmoved (p ∷ ps) = ap₂ ◌∷◌ (unmoved p) (all_unmoved ps)

module _ {file : List ℕ} {s : code.Shape} (u : Shaped file s) where
  fields_moved : (n : ℕ) → laid (map (move_bytes n) (section 0 file)) ≡ moved_range n file 0 s.constraints_at
  fields_moved n = ap (λ (ps : List (List ℕ)). laid (map (move_bytes n) ps)) (u.ranges.fields_range ∙ ap (λ (k : ℕ). take k (parts_of file)) (sym (sub-zero s.constraints_at)))

  constraints_moved : (n : ℕ) → laid (map (move_bytes n) (section 1 file)) ≡ moved_range n file s.constraints_at s.projector_at
  constraints_moved n = ap (λ (ps : List (List ℕ)). laid (map (move_bytes n) ps)) u.ranges.constraints_range

  many_fields : length (section 0 file) ≡ s.constraints_at
  many_fields = let r = u.ranges.rising in let i = u.ranges.inside in ap length u.ranges.fields_range ∙ length-take-le s.constraints_at (parts_of file) (omega (arith, length_parts file))

  many_constraints : length (section 1 file) ≡ s.projector_at - s.constraints_at
  many_constraints =
      let r = u.ranges.rising in
      let i = u.ranges.inside in
      ap length u.ranges.constraints_range ∙ length-take-le (s.projector_at - s.constraints_at) (drop s.constraints_at (parts_of file)) (omega (arith, length_parts file, length-drop s.constraints_at (parts_of file)))

module _ {f g : List ℕ} {s t : code.Shape} (u : Shaped f s) (v : Shaped g t) where
  pub join_ranges : join_bytes f g
      ≡ moved_range 0 f 0 s.constraints_at
      ++ (moved_range s.fields g 0 t.constraints_at
      ++ (moved_range 0 f s.constraints_at s.projector_at
      ++ (moved_range s.fields g t.constraints_at t.projector_at ++ sum_bytes)))
  unfolding join_bytes join_parts
  join_ranges =
      let bytes : List ℕ → List ℕ = λ b. b in
      let n = field_count f in
      let move : ℕ → ℕ → List (List ℕ) = λ i k. map (move_bytes k) (section i g) in
      concat_map_append bytes (section 0 f) _
      ∙ ap₂ ◌++◌ (ap laid (sym (all_unmoved (section 0 f))) ∙ fields_moved u 0)
      (concat_map_append bytes (move 0 n) _
      ∙ ap₂ ◌++◌ (ap (λ (k : ℕ). laid (move 0 k)) u.count_is ∙ fields_moved v s.fields)
      (concat_map_append bytes (section 1 f) _
      ∙ ap₂ ◌++◌ (ap laid (sym (all_unmoved (section 1 f))) ∙ constraints_moved u 0)
      (concat_map_append bytes (move 1 n) (sum_bytes ∷ [])
      ∙ ap₂ ◌++◌ (ap (λ (k : ℕ). laid (move 1 k)) u.count_is ∙ constraints_moved v s.fields) (append-nil sum_bytes))))

  -- So long is the joined file.
  pub join-length : length (join_bytes f g) ≡ (s.projector_at + t.projector_at + 1) * 32
  unfolding join_bytes join_parts
  join-length =
      let n = field_count f in
      let F = section 0 f in
      let G = map (move_bytes n) (section 0 g) in
      let H = section 1 f in
      let I = map (move_bytes n) (section 1 g) in
      let e = length-append F (G ++ (H ++ (I ++ (sum_bytes ∷ [])))) in
      let e₁ = length-append G (H ++ (I ++ (sum_bytes ∷ []))) in
      let e₂ = length-append H (I ++ (sum_bytes ∷ [])) in
      let e₃ = length-append I (sum_bytes ∷ []) in
      let g₀ = length-map (section 0 g) (move_bytes n) in
      let g₁ = length-map (section 1 g) (move_bytes n) in
      let a = many_fields u in
      let b = many_fields v in
      let c = many_constraints u in
      let d = many_constraints v in
      let r = u.ranges.rising in
      let q = v.ranges.rising in
      length_laid (joined_full f g u.whole32 v.whole32) ∙ omega (arith, e, e₁, e₂, e₃, g₀, g₁, a, b, c, d, r, q)

  -- The number of the joined file's refusal, by the two shapes.
  pub fault_by_shapes : (room : ℕ) → file_fault f ≡ none → file_fault g ≡ none → of first (not_sum f) ≡ none → of second (not_sum g) ≡ none
      → join_fault room f g
      ≡ of joined (refuse (joined_number (s.fields + t.fields) (s.constraints + t.constraints) ((s.projector_at + t.projector_at + 1) * 32) (total_by s.fields t.fields s.total t.total) room) 0)
  fault_by_shapes room a b x y =
      fault_joined room f g a b x y
      ∙ ap₂ (λ (n m : ℕ). of joined (refuse (joined_number n m (length (join_bytes f g)) (total (join_spec (decoded f) (decoded g))) room) 0)) (ap₂ ◌+◌ (sym u.fields-are) (sym v.fields-are)) (ap₂ ◌+◌ (sym u.constraints-are) (sym v.constraints-are))
      ∙ ap₂ (λ (n m : ℕ). of joined (refuse (joined_number (s.fields + t.fields) (s.constraints + t.constraints) n m room) 0)) join-length totals
    where
      totals : total (join_spec (decoded f) (decoded g)) ≡ total_by s.fields t.fields s.total t.total
      totals =
          total_joined (decoded f) (decoded g) ∙ ap₂ (λ (n m : ℕ). total_by n m (total (decoded f)) (total (decoded g))) (sym u.fields-are) (sym v.fields-are)
          ∙ ap₂ (λ (x y : ℕ). total_by s.fields t.fields x y) (sym u.total_is) (sym v.total_is)
