-- The kept maps, found from the front.
use mathlib.Core.Bool.{Bool, false, true}
use mathlib.Core.List.{List, foldl, map}
use mathlib.Core.Option.{Option, some}
use mathlib.Core.Path.{◌∙◌, ◌≡◌, ap, refl, subst, sym}
use Prim.Native.Nat.{◌+◌, ◌-◌, ◌<◌, ◌≤◌, suc, ℕ}
use native.Mathlib.Decide.{ℕ_discrete}
use native.Mathlib.Numerals.{add-one}
use native.Mathlib.Omega.{arith}
use lib.Dec.{eqb}
use lib.ListN.{drop, get_or, get_or-replicate, length, length-set, replicate, set, take}
use lib.Seq.{get_or-set_other, get_or-set_same}
use Rattle.lists.specs.Lists.{upto}
use Rattle.lists.proofs.All.{upto-All}
use Rattle.lists.proofs.Lists.{map_ext}
use Rattle.lists.proofs.Tests.{eqb_no, eqb_yes}
use Rattle.spec.specs.Kind.{ConstraintKind, Kind, bitmask, constraint, cross, enable_mask, enable_set, eq, even, field, ge, gt, le, lt, member, neq, oneof, projector, range, unknown}
use Rattle.spec.specs.Record.{Record, constraint_by, constraint_in, constraint_of, entry_of, record_at, records_of}
use Rattle.registry.specs.Code.{HeadIn}
use Rattle.std.specs.Prelude.{None, Some}
use Rattle.spec.specs.Code.{as_kind}
use Rattle.spec.specs.declared.kinds.Kind as code
use Rattle.spec.specs.declared.kinds.Kind.TheVariants as kinds
use Rattle.compose.specs.Maps.{KeptMap, keep_by, kept, kept_map, replace_if}
use Rattle.compose.specs.Code.{CodeMap, MapIn, MapsIn, MaybeMap, constraints_in, map_by, map_in}
use Rattle.compose.proofs.Positions.{fold_end, fold_turn}

-- ---- by kind
abbrev is_cross_by : ConstraintKind → Bool
is_cross_by range = false
is_cross_by even = false
is_cross_by eq = false
is_cross_by neq = false
is_cross_by lt = false
is_cross_by gt = false
is_cross_by le = false
is_cross_by ge = false
is_cross_by oneof = false
is_cross_by cross = true
is_cross_by enable_mask = false
is_cross_by bitmask = false
is_cross_by enable_set = false

abbrev is_cross : Kind → Bool
is_cross field = false
is_cross unknown = false
is_cross (constraint k) = is_cross_by k
is_cross (projector k) = false
is_cross (member k) = false

-- What a record leaves of the map kept so far.
abbrev cross_if : Bool → ℕ → Record → List Record → Option KeptMap → Option KeptMap
cross_if true f h ms m = replace_if (eqb h.b f) h.a (map entry_of ms) m
cross_if false f h ms m = m

module _ (f : ℕ) (h : Record) (ms : List Record) (m : Option KeptMap) where
  keep-constraint : (k : ConstraintKind) → keep_by f m (constraint_by k h ms) ≡ cross_if (is_cross_by k) f h ms m
  keep-constraint range = refl
  keep-constraint even = refl
  keep-constraint eq = refl
  keep-constraint neq = refl
  keep-constraint lt = refl
  keep-constraint gt = refl
  keep-constraint le = refl
  keep-constraint ge = refl
  keep-constraint oneof = refl
  keep-constraint cross = refl
  keep-constraint enable_mask = refl
  keep-constraint bitmask = refl
  keep-constraint enable_set = refl

  keep-kind : (k : Kind) → foldl (keep_by f) m (constraint_in k h ms) ≡ cross_if (is_cross k) f h ms m
  keep-kind field = refl
  keep-kind unknown = refl
  keep-kind (constraint k) = keep-constraint k
  keep-kind (projector k) = refl
  keep-kind (member k) = refl

-- No other kind is a cross.
other_kind : (k : code.Kind) → (k ≡ kinds.Cross → ⊥) → is_cross (as_kind k) ≡ false
other_kind kinds.Field h = refl
other_kind kinds.Value h = refl
other_kind kinds.Item h = refl
other_kind kinds.Pair h = refl
other_kind kinds.Key h = refl
other_kind kinds.Disable h = refl
other_kind kinds.Assign h = refl
other_kind kinds.Axis h = refl
other_kind kinds.Range h = refl
other_kind kinds.Even h = refl
other_kind kinds.Eq h = refl
other_kind kinds.Neq h = refl
other_kind kinds.Lt h = refl
other_kind kinds.Gt h = refl
other_kind kinds.Le h = refl
other_kind kinds.Ge h = refl
other_kind kinds.Oneof h = refl
other_kind kinds.EnableMask h = refl
other_kind kinds.Bitmask h = refl
other_kind kinds.EnableSet h = refl
other_kind kinds.Sum h = refl
other_kind kinds.Identity h = refl
other_kind kinds.Parity h = refl
other_kind kinds.Decompose h = refl
other_kind kinds.Cross h = absurd (h refl)
other_kind (kinds.Unknown n) h = refl

-- ---- the maps kept so far, with the constraints from number k on, make the kept maps
pub record Kept (file heads : List ℕ) (n : ℕ) (maps : List MaybeMap) (k : ℕ) : Type 0 where
  pub wide : length maps ≡ 32
  pub inside : MapsIn file maps n
  pub whole : (f : ℕ) → f < 32 → foldl (keep_by f) (map_in file maps f) (constraints_in file (drop k heads)) ≡ kept_map (constraints_in file heads) f

pub kept-none : (file heads : List ℕ) (n : ℕ) → Kept file heads n (replicate 32 None) 0
kept-none file heads n = record {
  wide = refl;
  inside = λ f h m e. let z : None ≡ Some m = sym (none_at f h) ∙ e in cc;
  whole = λ f h. ap (λ o. foldl (keep_by f) (map_by file o) (constraints_in file heads)) (none_at f h);
}
  where
    none_at : (f : ℕ) → f < 32 → get_or (replicate {A = MaybeMap} 32 None) f None ≡ None
    none_at f h = get_or-replicate {A = MaybeMap} 32 f None None h

module _ (file heads : List ℕ) (n : ℕ) (maps : List MaybeMap) (k : ℕ) (m : Kept file heads n maps k) where
  module _ (l : suc k < length heads) where
    abbrev head : ℕ
    head = get_or heads k 0

    abbrev end : ℕ
    end = get_or heads (k + 1) 0

    abbrev members : List Record
    members = take (end - suc head) (drop (suc head) (records_of file))

    -- a turn leaves of each map what the constraint leaves
    turn : (maps' : List MaybeMap) (b : Bool) → is_cross (record_at file head).kind ≡ b → (f : ℕ) → f < 32 → map_in file maps' f ≡ cross_if b f (record_at file head) members (map_in file maps f)
        → foldl (keep_by f) (map_in file maps' f) (constraints_in file (drop (k + 1) heads)) ≡ kept_map (constraints_in file heads) f
    turn maps' b t f h e =
        ap (λ o. foldl (keep_by f) o (constraints_in file (drop (k + 1) heads))) (e ∙ ap (λ (c : Bool). cross_if c f (record_at file head) members (map_in file maps f)) (sym t) ∙ sym (keep-kind f (record_at file head) members (map_in file maps f) (record_at file head).kind))
        ∙ sym (fold_turn (keep_by f) constraint_of file heads k (map_in file maps f) l) ∙ m.whole f h

    pub kept_other : (kind : code.Kind) → as_kind kind ≡ (record_at file head).kind → (kind ≡ kinds.Cross → ⊥) → Kept file heads n maps (k + 1)
    kept_other kind is other = record {
      wide = m.wide;
      inside = m.inside;
      whole = λ f h. turn maps false (ap is_cross (sym is) ∙ other_kind kind other) f h refl;
    }

    module _ (few : n ≤ 32) (is : HeadIn file head end n) (a b : ℕ) (a_is : a ≡ (record_at file head).a) (b_is : b ≡ (record_at file head).b) where
      abbrev new : CodeMap
      new = record { parent = a; from = head + 1; to = end }

      abbrev next : List MaybeMap
      next = set maps b (Some new)

      b_small : b < length maps
      b_small = let q = is.b-below in omega (arith, m.wide)

      new_at : get_or next b None ≡ Some new
      new_at = get_or-set_same maps b (Some new) None b_small

      old_at : (f : ℕ) → ¬ (f ≡ b) → get_or next f None ≡ get_or maps f None
      old_at f x = get_or-set_other maps b f (Some new) None x

      new_in : MapIn file n new
      new_in = let u = is.before in let v = is.inside in let q = is.a_below in record { parent = omega arith; from = omega arith; to = omega arith }

      pub kept_cross : (record_at file head).kind ≡ as_kind kinds.Cross → Kept file heads n next (k + 1)
      kept_cross is-cross = record {
        wide = length-set maps b (Some new) ∙ m.wide;
        inside = λ f h p e. in_next f h p e (ℕ_discrete f b);
        whole = λ f h. turn next true (ap is_cross is-cross) f h (map_next f h (ℕ_discrete f b));
      }
        where
          in_next : (f : ℕ) → f < 32 → (p : CodeMap) → get_or next f None ≡ Some p → Dec (f ≡ b) → MapIn file n p
          in_next f h p e (yes x) = let z : Some new ≡ Some p = sym new_at ∙ ap (λ (g : ℕ). get_or next g None) (sym x) ∙ e in let w : new ≡ p = cc in subst (MapIn file n) w new_in
          in_next f h p e (no x) = m.inside f h p (sym (old_at f x) ∙ e)

          map_next : (f : ℕ) → f < 32 → Dec (f ≡ b) → map_in file next f ≡ replace_if (eqb (record_at file head).b f) (record_at file head).a (map entry_of members) (map_in file maps f)
          map_next f h (yes e) =
              ap (λ (g : ℕ). map_in file next g) e ∙ ap (map_by file) new_at ∙ ap (λ (j : ℕ). some (kept a (map entry_of (take (end - j) (drop j (records_of file)))))) (add-one head)
              ∙ ap (λ (p : ℕ). some (kept p (map entry_of members))) a_is
              ∙ ap (λ (c : Bool). replace_if c (record_at file head).a (map entry_of members) (map_in file maps f)) (sym (eqb_yes (record_at file head).b f (sym (e ∙ b_is))))
          map_next f h (no x) =
              ap (map_by file) (old_at f x)
              ∙ ap (λ (c : Bool). replace_if c (record_at file head).a (map entry_of members) (map_in file maps f)) (sym (eqb_no (record_at file head).b f (λ e. x (sym e ∙ sym b_is))))

  pub kept_end : length heads ≤ suc k → map (map_in file maps) (upto 32) ≡ map (kept_map (constraints_in file heads)) (upto 32)
  kept_end l = map_ext (upto-All 32 (λ f h. sym (fold_end (keep_by f) constraint_of file heads k (map_in file maps f) l) ∙ m.whole f h))
