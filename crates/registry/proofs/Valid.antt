-- A file without faults has valid axes and a valid offset (Axes), if its projector is a decompose.
use mathlib.Core.Bool.{Bool, ◌&&◌, ◌||◌, false, not, true, true≢false}
use mathlib.Core.List.{List, [], ◌++◌, ◌∷◌, foldl, map}
use mathlib.Core.Option.{Option}
use mathlib.Core.Path.{◌∙◌, ◌≡◌, ap, refl, subst, sym}
use Prim.Native.Nat.{◌+◌, ◌<◌, ◌^◌, suc, zero, ℕ}
use native.Mathlib.Omega.{arith}
use lib.Dec.{eqb, leb, ltb}
use lib.IntN.{◌-ℤ◌, nat_abs, negsuc, pos, ℤ}
use lib.ListN.{length, length-map}
use Rattle.lists.specs.Lists.{all, any, is_empty}
use Rattle.lists.proofs.All.{All, All-all, All_imp, All-mapped, All_of, All_zip, []ᴬ, ◌∷ᴬ◌, none_any}
use Rattle.lists.proofs.Lists.{length-pos}
use Rattle.lists.proofs.Tests.{and-join, and_split, cond-zero, eqb_yes, leb_yes, ltb_yes, no_ge, no_gt, or_split, or_true, yes_eq}
use Rattle.spec.specs.Kind.{Kind, ProjectorKind, constraint, decompose, field, identity, is_member, member, parity, projector, row_of, sum, unknown}
use Rattle.spec.specs.Record.{Group, Record, axis_of, decoded, group, groups, offset_by, projector_by, projector_in, projector_of, records_of, spec_of}
use Rattle.spec.specs.Refusal.{Context, after, bad_axis, bad_offset, bad_packing, bad_radix, context, overlaps}
use Rattle.spec.specs.Spec.{AxisSpec, Decompose, Identity, Parity, ProjectorSpec, Sum}
use Rattle.spec.proofs.Good.{Good, GoodBy, MembersGood, Whole, list_good}
use Rattle.registry.specs.Check.{value_at}
use Rattle.registry.specs.Project.{project}
use Rattle.registry.proofs.Axes.{apart, axes_valid, axis_valid, ends_by, offset_valid, radix_valid}
use Rattle.registry.proofs.Packing.{packed_or_lem, packed_or}

-- What `validate` asks of a decompose: one axis or more; each valid, and no two overlapping; an offset that is absent or valid.
pub record PackingValid (offset : Option ℕ) (axes : List AxisSpec) : Type 0 where
  pub some_axis : 0 < length axes
  pub axes_valid_lem : axes_valid axes ≡ true
  pub offset_valid_lem : offset_valid offset axes ≡ true

-- ---- one axis
radix_valid_lem : (width : ℕ) (radix : ℤ) → bad_radix width radix ≡ false → radix_valid width (nat_abs radix) ≡ true
radix_valid_lem width (pos zero) e = refl
radix_valid_lem width (pos (suc k)) e =
    let s = or_split (eqb k 0) (leb (2 ^ width) k) e in
    and-join (ap not s.0) (ltb_yes k (2 ^ width) (no_gt (2 ^ width) k s.1))
radix_valid_lem width (negsuc k) e = absurd (true≢false e)

record AxisGood (before : List Record) (m : Record) : Type 0 where
  valid : axis_valid (axis_of m) ≡ true
  apart_from : All (λ k. apart (axis_of k) (axis_of m) ≡ true) before

axis_good : (before : List Record) (m : Record) → bad_axis before m ≡ false → AxisGood before m
axis_good before m e =
    let s = or_split (eqb m.a 0 || ltb 63 (m.b + m.a) || bad_radix m.a m.p) (any (overlaps m) before) e in
    let t = or_split (eqb m.a 0 || ltb 63 (m.b + m.a)) (bad_radix m.a m.p) s.0 in
    let u = or_split (eqb m.a 0) (ltb 63 (m.b + m.a)) t.0 in
    let wide : ¬ (m.a ≡ 0) = λ z. true≢false (sym (eqb_yes m.a 0 z) ∙ u.0) in
    record {
      valid = and-join (and-join (ltb_yes 0 m.a (omega arith)) (leb_yes (m.b + m.a) 63 (no_ge 63 (m.b + m.a) u.1))) (radix_valid_lem m.a m.p t.1);
      apart_from = All_imp (λ k. no_overlap k) (none_any (overlaps m) before s.1);
    }
  where
    swap : (x y : Bool) → not (x || y) ≡ false → (y || x) ≡ true
    swap true y e = or_true y
    swap false true e = refl
    swap false false e = absurd (true≢false e)

    no_overlap : (k : Record) → overlaps m k ≡ false → apart (axis_of k) (axis_of m) ≡ true
    no_overlap k e = swap (leb (m.b + m.a) k.b) (leb (k.b + k.a) m.b) e

-- A member of a decompose is an axis.
member_axis : (k : Kind) (before : List Record) (m : Record) → (is_member k && eqb 33 (row_of k m.b).list) ≡ true → bad_packing k before m ≡ false → bad_axis before m ≡ false
member_axis k before m e b =
    let list = yes_eq 33 (row_of k m.b).list (and_split (is_member k) (eqb 33 (row_of k m.b).list) e).1 in
    sym (ap (λ t. t && bad_axis before m) (eqb_yes (row_of k m.b).list 33 (sym list))) ∙ b

-- ---- the axes
abbrev ApartFrom : List AxisSpec → Record → Type 0
ApartFrom axes k = all (apart (axis_of k)) axes ≡ true

-- Each axis is held against those before it, and so each against those after it.
axes_good : (n : ℕ) (h : Record) (before ms : List Record) → MembersGood (projector decompose) n h before ms
    → (axes_valid (map axis_of ms) ≡ true) × All (ApartFrom (map axis_of ms)) before
axes_good n h before [] g = (refl, All_of (λ k. refl) before)
axes_good n h before (m ∷ ms) g =
    let own = axis_good before m (member_axis m.kind before m g.0 g.1.packed) in
    let rest = axes_good n h (before ++ (m ∷ [])) ms g.2 in
    let cut = last before rest.1 in
    (and-join (and-join own.valid cut.1) rest.0, All_zip (λ k p q. and-join p q) own.apart_from cut.0)
  where
    last : (ks : List Record) → All (ApartFrom (map axis_of ms)) (ks ++ (m ∷ [])) → All (ApartFrom (map axis_of ms)) ks × ApartFrom (map axis_of ms) m
    last [] (q ∷ᴬ t) = ([]ᴬ, q)
    last (k ∷ ks) (q ∷ᴬ t) = let r = last ks t in (q ∷ᴬ r.0, r.1)

-- ---- the offset
offset_good : (ms : List Record) (q : ℤ) → bad_offset ms q ≡ false → offset_valid (offset_by q) (map axis_of ms) ≡ true
offset_good ms (pos k) e =
    let s = or_split (ltb 63 k) (any (λ m. ltb k (m.b + m.a)) ms) e in
    let ends = none_any (λ (m : Record). ltb k (m.b + m.a)) ms s.1 in
    and-join (leb_yes k 63 (no_ge 63 k s.0))
    (All-all (ends_by k) (All-mapped axis_of (All_imp (λ m (h : ltb k (m.b + m.a) ≡ false). leb_yes (m.b + m.a) k (no_ge k (m.b + m.a) h)) ends)))
offset_good ms (negsuc zero) e = refl
offset_good ms (negsuc (suc k)) e = refl

-- ---- a file
-- A decompose that is valid, or another projector.
abbrev ProjectorValid : ProjectorSpec → Type 0
ProjectorValid Sum = Unit {0}
ProjectorValid (Identity f) = Unit {0}
ProjectorValid (Parity f) = Unit {0}
ProjectorValid (Decompose f base offset axes) = PackingValid offset axes

projector_good : (k : ProjectorKind) (c : Context) (h : Record) (ms : List Record) → GoodBy (projector k) c h ms → ProjectorValid (projector_by k h ms)
projector_good sum c h ms g = tt
projector_good identity c h ms g = tt
projector_good parity c h ms g = tt
projector_good decompose c h ms g =
    let s = or_split (is_empty ms) (bad_offset ms h.q) (cond-zero (is_empty ms || bad_offset ms h.q) 8 (list_good (projector decompose) c.fields h [] ms g.1)) in
    record {
      some_axis = rw (length-map ms axis_of) (length-pos ms s.0);
      axes_valid_lem = (axes_good c.fields h [] ms g.1).0;
      offset_valid_lem = offset_good ms h.q s.1;
    }

projector_valid : (c : Context) (gs : List Group) (d : ProjectorSpec) → Good c gs → ProjectorValid d → ProjectorValid (foldl projector_of d gs)
projector_valid c [] d g v = v
projector_valid c (group h ms ∷ gs) d g v = projector_valid (after c (group h ms)) gs (projector_in h.kind h ms d) g.1 (one h.kind g.0)
  where
    one : (k : Kind) → GoodBy k c h ms → ProjectorValid (projector_in k h ms d)
    one field q = v
    one unknown q = v
    one (constraint k) q = v
    one (projector k) q = projector_good k c h ms q
    one (member k) q = v

decoded_valid : (file : List ℕ) → Whole (records_of file) → ProjectorValid (decoded file).projector
unfolding decoded spec_of
decoded_valid file w = projector_valid (context 0 0 0) (groups (records_of file)) Sum w.good tt

-- The decompose of a file whose records have no fault is valid.
pub packing_valid : (file : List ℕ) → Whole (records_of file)
    → (f : ℕ) (base : ℤ) (offset : Option ℕ) (axes : List AxisSpec) → (decoded file).projector ≡ Decompose f base offset axes → PackingValid offset axes
packing_valid file w f base offset axes e = subst ProjectorValid e (decoded_valid file w)

-- So its projection is the Rust's loop, `packed_or`.
pub project_or : (file : List ℕ) → Whole (records_of file)
    → (f : ℕ) (base : ℤ) (offset : Option ℕ) (axes : List AxisSpec) → (decoded file).projector ≡ Decompose f base offset axes
    → (row : List ℤ) → project (decoded file).projector row ≡ packed_or offset axes (value_at row f -ℤ base)
project_or file w f base offset axes e row =
    let v = packing_valid file w f base offset axes e in
    ap (λ p. project p row) e ∙ packed_or_lem offset axes (value_at row f -ℤ base) v.axes_valid_lem v.offset_valid_lem
