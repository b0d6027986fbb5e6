-- What a file's shape is computed from: products that stop growing, fields in scale, counts, the product and the total.
use mathlib.Core.Bool.{Bool, ◌&&◌, ◌||◌, cond, false, false≢true, not, true, true≢false}
use mathlib.Core.List.{List, [], ◌++◌, ◌∷◌}
use mathlib.Core.Option.{none}
use mathlib.Core.Path.{◌∙◌, ◌≡◌, ap, ap₂, refl, subst, sym}
use Prim.Native.Nat.{◌*◌, ◌+◌, ◌/◌, ◌<◌, ◌≤◌, suc, zero, ℕ}
use native.Mathlib.Nat.{mul_assoc, mul-one, mul-zero}
use native.Mathlib.Omega.{arith}
use lib.Dec.{eqb, leb}
use lib.IntN.{nat_abs, pos}
use lib.ListN.{drop, length, length-map}
use Rattle.lists.specs.Integers.{eq_z}
use Rattle.lists.specs.Lists.{concat_map, product}
use Rattle.lists.proofs.All.{All, All_at, []ᴬ, ◌∷ᴬ◌}
use Rattle.lists.proofs.Integers.{eq_z_eq}
use Rattle.lists.proofs.Range.{in_range}
use Rattle.lists.proofs.Tests.{eqb_no, leb_no, no_gt, or_split, yes_le}
use Rattle.spec.specs.Code.{InScale, capped, domain_length, length_by, lengths}
use Rattle.spec.specs.Domain.{domain, step_of, total, zero_without}
use Rattle.spec.specs.Kind.{Kind, constraint, field, field_row, is_field, is_member, kind_of, member, projector, unknown}
use Rattle.spec.specs.Record.{Group, Record, decoded, field_by, field_in, field_of, group, groups, member_run, record_at, records_of, spec_of, unless_member}
use Rattle.spec.specs.Refusal.{Context, after, context, negative, off_scale, records_fault, stray_by, stray_byte}
use Rattle.spec.specs.Spec.{FieldSpec, Spec}
use Rattle.spec.proofs.Accepted.{count-constraints, count-fields, fields_of-groups}
use Rattle.spec.proofs.Domain.{length-multiples}
use Rattle.spec.proofs.Fields.{length_records, record_get_d, records_from}
use Rattle.spec.proofs.Good.{Good, HeadGood, constraint_groups, field_groups, records_whole}
use Rattle.spec.proofs.Heads.{past_groups, past_members_lem}
use Rattle.spec.proofs.Runs.{run_length}
use Rattle.spec.proofs.Sections.{not_field}
use Rattle.spec.proofs.Uses.{field_in_scale, not_off}

-- ---- products that stop growing
pub capped-above : (n : ℕ) → 1000000000 < n → capped n ≡ 1000000001
capped-above n h = rw (leb_no n 1000000000 h)

pub capped_le : (n : ℕ) → capped n ≤ 1000000001
capped_le n = go (leb n 1000000000) refl
  where
    go : (b : Bool) → leb n 1000000000 ≡ b → cond b n 1000000001 ≤ 1000000001
    go true e = let h = yes_le n 1000000000 e in omega arith
    go false e = omega arith

-- What is capped already stays.
pub capped_stays : (n : ℕ) → n ≤ 1000000001 → capped n ≡ n
capped_stays n h = go (leb n 1000000000) refl
  where
    go : (b : Bool) → leb n 1000000000 ≡ b → cond b n 1000000001 ≡ n
    go true e = refl
    go false e = let g = no_gt n 1000000000 e in omega arith

-- A factor may be capped before the product is.
pub capped_times : (n k : ℕ) → capped (capped n * k) ≡ capped (n * k)
capped_times n k = go (leb n 1000000000) refl k
  where
    go : (b : Bool) → leb n 1000000000 ≡ b → (k : ℕ) → capped (cond b n 1000000001 * k) ≡ capped (n * k)
    go true e k = refl
    go false e zero = rw (mul-zero n)
    go false e (suc k) = let g = no_gt n 1000000000 e in capped-above (1000000001 * suc k) (omega arith) ∙ sym (capped-above (n * suc k) (omega arith))

-- ---- fields in scale
-- A field's numbers are in scale.
abbrev pub FieldScaled : Record → Type 0
FieldScaled h = is_field h.kind ≡ true → InScale h.p h.q h.r

abbrev HeadScaled : Group → Type 0
HeadScaled (group h ms) = FieldScaled h

-- A listed field has no step, so r is 0.
listed_step : (k : ℕ) (h : Record) → stray_by (field_row (suc (suc k))) h ≡ false → negative h.r ≡ false
listed_step k h e =
    go (eq_z h.r (pos 0)) refl
    (or_split (not (eqb h.padding 0) || (false && not (eqb h.a 0)) || (false && not (eqb h.b 0)) || not (eq_z h.p (pos 0)) || not (eq_z h.q (pos 0))) (not (eq_z h.r (pos 0))) e).1
  where
    go : (b : Bool) → eq_z h.r (pos 0) ≡ b → not b ≡ false → negative h.r ≡ false
    go true q s = ap negative (eq_z_eq h.r (pos 0) q)
    go false q s = absurd (true≢false s)

field_scaled : (h : Record) (b : ℕ) → h.b ≡ b → stray_byte field h ≡ false → off_scale field h ≡ false → InScale h.p h.q h.r
field_scaled h zero q s e = field_in_scale h (omega arith) e
field_scaled h (suc zero) q s e = field_in_scale h (omega arith) e
field_scaled h (suc (suc k)) q s e =
    let n = not_off field h e in
    record { p_in = n.0; q_in = n.1; r_in = n.2; r-natural = listed_step k h (sym (ap (λ (b : ℕ). stray_by (field_row b) h) q) ∙ s) }

good_scaled : (c : Context) (gs : List Group) → Good c gs → All HeadScaled gs
good_scaled c [] g = []ᴬ
good_scaled c (group h ms ∷ gs) g = ◌∷ᴬ◌ {x = group h ms} (go h.kind g.0.0) (good_scaled (after c (group h ms)) gs g.1)
  where
    go : (k : Kind) → HeadGood k c h → is_field k ≡ true → InScale h.p h.q h.r
    go field g e = field_scaled h h.b refl g.unstray g.scaled
    go unknown g e = absurd (false≢true e)
    go (constraint k) g e = absurd (false≢true e)
    go (projector k) g e = absurd (false≢true e)
    go (member k) g e = absurd (false≢true e)

records_scaled : (rs : List Record) → All HeadScaled (groups rs) → All FieldScaled rs
records_scaled [] a = []ᴬ
records_scaled (h ∷ hs) a = go (is_member h.kind) refl a (records_scaled hs)
  where
    go : (b : Bool) → is_member h.kind ≡ b → All HeadScaled (unless_member b h (member_run hs) (groups hs)) → (All HeadScaled (groups hs) → All FieldScaled hs) → All FieldScaled (h ∷ hs)
    go true q a ih = (λ e. absurd (false≢true (sym (not_field h.kind q) ∙ e))) ∷ᴬ ih a
    go false q (x ∷ᴬ a) ih = x ∷ᴬ ih a

-- A field of a file without faults is in scale.
pub field_at_scaled : (file : List ℕ) (i : ℕ) → i < length file / 32 → records_fault (records_of file) ≡ none → FieldScaled (record_at file i)
field_at_scaled file i h e =
    let d = record_at file i in
    let scaled = records_scaled (records_of file) (good_scaled (context 0 0 0) (groups (records_of file)) (records_whole (records_of file) e).good) in
    subst FieldScaled (record_get_d d file i h) (All_at d (records_of file) scaled i (omega (arith, length_records file)))

-- ---- what is a field, and the length of its domain
-- Only kind number 1 is a field.
pub other_kind : (n : ℕ) → n < 256 → ¬ (n ≡ 1) → is_field (kind_of n) ≡ false
unfolding kind_of
other_kind zero l h = refl
other_kind (suc zero) l h = absurd (h refl)
other_kind (suc (suc n)) l h = in_range (λ k. is_field (kind_of k)) (λ k. false) 2 254 refl (suc (suc n)) (omega arith) (omega arith)

pub field_kind : kind_of 1 ≡ field
unfolding kind_of
field_kind = refl

pub length-domain : (form : ℕ) (h : Record) (ms : List Record) → length_by form h (length ms) ≡ length (domain (field_by form h ms))
length-domain zero h ms = sym (length-multiples (step_of (nat_abs h.r)) (pos 0) (pos 255))
length-domain (suc zero) h ms = sym (length-multiples (step_of (nat_abs h.r)) h.p h.q)
length-domain (suc (suc k)) h ms = sym (length-map ms (λ m. m.p))

-- ---- the product
module _ (file : List ℕ) where
  -- The product of the domain lengths of the fields from record i on.
  abbrev pub product_from : ℕ → ℕ
  product_from i = product (lengths (concat_map field_of (groups (drop i (records_of file)))))

  pub product_whole : product_from 0 ≡ product (lengths (decoded file).fields)
  unfolding decoded spec_of
  product_whole = refl

  -- A field brings the length of its domain.
  product_field : (i end : ℕ) → i < length file / 32 → (record_at file i).kind ≡ field → end ≡ i + 1 + run_length file (suc i) → product_from i ≡ domain_length (record_at file i) (run_length file (suc i)) * product_from end
  product_field i end h e q =
      let m = record_at file i in
      let rest = drop (suc i) (records_of file) in
      ap (λ (l : List Record). product (lengths (concat_map field_of (groups l)))) (records_from file i h)
      ∙ ap (λ (b : Bool). product (lengths (concat_map field_of (unless_member b m (member_run rest) (groups rest))))) (ap is_member e)
      ∙ ap (λ (k : Kind). product (lengths (field_in k m (member_run rest) ++ concat_map field_of (groups rest)))) e
      ∙ ap₂ (λ (k : ℕ) (gs : List Group). k * product (lengths (concat_map field_of gs))) (sym (length-domain m.b m (member_run rest))) (sym (past_groups rest) ∙ ap groups (past_members_lem file i end q))

  -- A turn: t takes the field's length, and is capped.
  pub product_turn : (t i end : ℕ) → i < length file / 32 → (record_at file i).kind ≡ field → end ≡ i + 1 + run_length file (suc i)
      → capped (capped (t * domain_length (record_at file i) (run_length file (suc i))) * product_from end) ≡ capped (t * product_from i)
  product_turn t i end h e q =
      let f = domain_length (record_at file i) (run_length file (suc i)) in
      capped_times (t * f) (product_from end) ∙ ap capped (mul_assoc t f (product_from end) ∙ ap (λ (n : ℕ). t * n) (sym (product_field i end h e q)))

  pub product_end : (t i : ℕ) → t ≤ 1000000001 → field_groups (groups (drop i (records_of file))) ≡ [] → capped (t * product_from i) ≡ t
  product_end t i l e =
      let none : product_from i ≡ 1 = ap (λ (fs : List FieldSpec). product (lengths fs)) (sym (fields_of-groups (groups (drop i (records_of file)))) ∙ ap (concat_map field_of) e) in
      ap (λ (n : ℕ). capped (t * n)) none ∙ ap capped (mul-one t) ∙ capped_stays t l

-- ---- counts and the total
module _ (file : List ℕ) where
  -- As many field groups as fields, as many constraint groups as constraints.
  pub fields-counted : length (field_groups (groups (records_of file))) ≡ length (decoded file).fields
  unfolding decoded spec_of
  fields-counted = count-fields (groups (records_of file))

  pub constraints-counted : length (constraint_groups (groups (records_of file))) ≡ length (decoded file).constraints
  unfolding decoded spec_of
  constraints-counted = count-constraints (groups (records_of file))

module _ (s : Spec) where
  -- 0 with no fields, else the product.
  pub total-capped : cond (eqb (length s.fields) 0) 0 (capped (product (lengths s.fields))) ≡ capped (total s)
  unfolding total
  total-capped = go s.fields
    where
      go : (fs : List FieldSpec) → cond (eqb (length fs) 0) 0 (capped (product (lengths s.fields))) ≡ capped (zero_without fs (product (lengths s.fields)))
      go [] = refl
      go (f ∷ fs) = ap (λ (b : Bool). cond b 0 (capped (product (lengths s.fields)))) (eqb_no (suc (length fs)) 0 (omega arith))

  pub total-some : ¬ (length s.fields ≡ 0) → total s ≡ product (lengths s.fields)
  unfolding total
  total-some n = go s.fields n
    where
      go : (fs : List FieldSpec) → ¬ (length fs ≡ 0) → zero_without fs (product (lengths s.fields)) ≡ product (lengths s.fields)
      go [] n = absurd (n refl)
      go (f ∷ fs) n = refl
