-- Lists filled from the front, and filtered in place.
use mathlib.Core.Bool.{Bool, ◌&&◌, ◌||◌, cond, false, true}
use mathlib.Core.List.{List, [], ◌++◌, ◌∷◌, append_assoc, append-nil, foldl, map}
use mathlib.Core.Option.{some}
use mathlib.Core.Path.{◌∙◌, ◌≡◌, ap, ap₂, refl, subst, sym}
use Prim.Native.Nat.{◌+◌, ◌-◌, ◌/◌, ◌<◌, ◌≤◌, suc, zero, ℕ}
use native.Mathlib.Numerals.{add-one}
use native.Mathlib.Omega.{arith}
use lib.Dec.{eqb}
use lib.IntN.{nat_abs, pos, ℤ}
use lib.ListN.{drop, drop_of_length-le, get_or, length, length-append, length-set, set, take, take-append-drop}
use lib.Seq.{append_snoc, drop-cons, drop-drop, drop-length, drop-set-lt, get_or-drop, length-take-le, take_at, take-suc-set}
use Rattle.lists.specs.Integers.{elem_z, eq_z}
use Rattle.lists.proofs.Lists.{any-map}
use Rattle.lists.proofs.Tests.{and-join, eqb_yes, or_false, or_same}
use Rattle.lists.specs.Lists.{filter, or_else, over}
use Rattle.spec.specs.Code.{as_record, ps_of}
use Rattle.spec.specs.Kind.{ConstraintKind, Kind, bitmask, constraint, cross, enable_mask, enable_set, eq, even, field, ge, gt, le, lt, member, neq, oneof, projector, range, unknown}
use Rattle.spec.specs.Record.{Record, constraint_by, constraint_in, constraint_of, group, record_at, records_of}
use Rattle.spec.proofs.Axis.{any_end, any_from, any_step}
use Rattle.spec.specs.Spec.{Bitmask, Even, Ge, Gt, Le, Lt, Oneof, Range, Test}
use Rattle.spec.specs.declared.records.Record as code
use Rattle.registry.specs.Code.{group_in, test_by, test_in}
use Rattle.compose.specs.Maps.{narrow_by, narrow_if}
use Rattle.compose.specs.Code.{kept_by, narrows_kind, narrows_test}

-- A value is among the items of a oneof, the members given.
abbrev pub is_item : List ℕ → ℤ → Bool
is_item run v = elem_z v (ps_of (records_of run))

-- One item, or two.
pub two_items : (run : List ℕ) → 0 < length run / 32 → length run / 32 ≤ 2 → (v : ℤ) → is_item run v ≡ (eq_z v (record_at run 0).p || eq_z v (record_at run (length run / 32 - 1)).p)
two_items run one few v = any-map (eq_z v) (λ (r : Record). r.p) (records_of run) ∙ any_step is_it run 0 1 refl one ∙ go (length run / 32) refl
  where
    is_it : Record → Bool
    is_it r = eq_z v r.p

    go : (n : ℕ) → length run / 32 ≡ n → (is_it (record_at run 0) || any_from is_it run 1) ≡ (is_it (record_at run 0) || is_it (record_at run (n - 1)))
    go zero e = absurd (omega (arith, e))
    go (suc zero) e = ap (λ (b : Bool). is_it (record_at run 0) || b) (any_end is_it run 1 (omega (arith, e))) ∙ or_same (is_it (record_at run 0))
    go (suc (suc zero)) e = ap (λ (b : Bool). is_it (record_at run 0) || b) (any_step is_it run 1 2 refl (omega (arith, e)) ∙ ap (λ (b : Bool). is_it (record_at run 1) || b) (any_end is_it run 2 (omega (arith, e))) ∙ or_false (is_it (record_at run 1)))
    go (suc (suc (suc n))) e = absurd (omega (arith, e))

-- ---- the values from i on
module _ (l : List ℤ) (i : ℕ) where
  value_from : i < length l → drop i l ≡ get_or l i (pos 0) ∷ drop (i + 1) l
  value_from h = rw (add-one i) (drop-cons l i (pos 0) h)

  module _ (p : ℤ → Bool) where
    keep_here : i < length l → p (get_or l i (pos 0)) ≡ true → filter p (drop i l) ≡ get_or l i (pos 0) ∷ filter p (drop (i + 1) l)
    keep_here h e = rw (value_from h) (rw e)

    keep_past : i < length l → p (get_or l i (pos 0)) ≡ false → filter p (drop i l) ≡ filter p (drop (i + 1) l)
    keep_past h e = rw (value_from h) (rw e)

-- ---- l was written from the front, w values, and behind them stands what stood there in l₀
module _ {A : Type 0} (l₀ l : List A) (w : ℕ) (rest : drop w l ≡ drop w l₀) where
  pub rest_more : (k : ℕ) → drop (w + k) l ≡ drop (w + k) l₀
  rest_more k = sym (drop-drop k w l) ∙ ap (drop k) rest ∙ drop-drop k w l₀

  pub rest_turn : (x : A) → drop (w + 1) (set l w x) ≡ drop (w + 1) l₀
  rest_turn x = drop-set-lt (w + 1) l w x (omega arith) ∙ rest_more 1

  pub over_end : (new : List A) → take w l ≡ new → w ≡ length new → l ≡ over new l₀
  over_end new t e = sym (take-append-drop w l) ∙ ap₂ (λ (a b : List A). a ++ b) t (rest ∙ ap (λ (n : ℕ). drop n l₀) e)

-- ---- of the first i values of src those that pass were written to the front of l, w of them; behind them stands what stood in l₀
pub record Moved (p : ℤ → Bool) (src l₀ l : List ℤ) (w i : ℕ) : Type 0 where
  pub behind : w ≤ i
  pub inside : i ≤ length src
  pub long : length l ≡ length src
  pub rest : drop w l ≡ drop w l₀
  pub kept : take w l ++ filter p (drop i src) ≡ filter p src

pub moved_none : (p : ℤ → Bool) (src l : List ℤ) → length l ≡ length src → Moved p src l l 0 0
moved_none p src l n = record { behind = omega arith; inside = omega arith; long = n; rest = refl; kept = refl }

-- where the values are read from the list itself
pub moved_read : (p : ℤ → Bool) (l₀ l : List ℤ) (w i : ℕ) → Moved p l₀ l₀ l w i → get_or l i (pos 0) ≡ get_or l₀ i (pos 0)
moved_read p l₀ l w i m = let b = m.behind in at (i - w) (omega arith)
  where
    at : (k : ℕ) → w + k ≡ i → get_or l i (pos 0) ≡ get_or l₀ i (pos 0)
    at k e = rw (← e) (sym (get_or-drop w l k (pos 0)) ∙ ap (λ (z : List ℤ). get_or z k (pos 0)) m.rest ∙ get_or-drop w l₀ k (pos 0))

module _ (p : ℤ → Bool) (src l₀ l : List ℤ) (w i : ℕ) (m : Moved p src l₀ l w i) where
  pub moved_kept : i < length src → p (get_or src i (pos 0)) ≡ true → Moved p src l₀ (set l w (get_or src i (pos 0))) (w + 1) (i + 1)
  moved_kept h e =
      let x = get_or src i (pos 0) in
      let b = m.behind in
      let s = m.long in
      record {
        behind = omega arith;
        inside = omega arith;
        long = length-set l w x ∙ m.long;
        rest = rest_turn l₀ l w m.rest x;
        kept = ap (λ (z : List ℤ). z ++ filter p (drop (i + 1) src)) (ap (λ (n : ℕ). take n (set l w x)) (add-one w) ∙ take-suc-set l w x (omega arith)) ∙ append_snoc (take w l) x _ ∙ ap (λ (z : List ℤ). take w l ++ z) (sym (keep_here src i p h e)) ∙ m.kept;
      }

  pub moved_past : i < length src → p (get_or src i (pos 0)) ≡ false → Moved p src l₀ l w (i + 1)
  moved_past h e =
      let b = m.behind in
      record { behind = omega arith; inside = omega arith; long = m.long; rest = m.rest; kept = ap (λ (z : List ℤ). take w l ++ z) (sym (keep_past src i p h e)) ∙ m.kept }

  moved_front : length src ≤ i → take w l ≡ filter p src
  moved_front h = sym (append-nil (take w l)) ∙ ap (λ (z : List ℤ). take w l ++ filter p z) (sym (drop_of_length-le src {i = i} h)) ∙ m.kept

  pub moved_count : length src ≤ i → w ≡ length (filter p src)
  moved_count h = let b = m.behind in let s = m.long in let n = m.inside in sym (length-take-le w l (omega arith)) ∙ ap length (moved_front h)

  pub moved_end : length src ≤ i → l ≡ over (filter p src) l₀
  moved_end h = over_end l₀ l w m.rest (filter p src) (moved_front h) (moved_count h)

-- ---- a filter that would keep none is passed over
-- A list that stays as it was.
pub over-same : (new l : List ℤ) → new ≡ l → (length l ≡ length new) × (l ≡ over new l)
over-same new l e = (ap length (sym e), sym (ap (λ (z : List ℤ). over z l) e ∙ ap (λ (z : List ℤ). l ++ z) (drop-length l) ∙ append-nil l))

none_kept : (new l : List ℤ) → length new ≡ 0 → (or_else new l ≡ l) × (over new l ≡ l)
none_kept [] l e = (refl, refl)
none_kept (x ∷ xs) l e = absurd (omega arith)

some-kept : (new l : List ℤ) → ¬ (length new ≡ 0) → or_else new l ≡ new
some-kept [] l n = absurd (n refl)
some-kept (x ∷ xs) l n = refl

-- left is l with the values of new moved to the front, kept of them
module _ (new l left : List ℤ) (kept : ℕ) (count : kept ≡ length new) (front : left ≡ over new l) where
  pub left-none : kept ≡ 0 → (length left ≡ length (or_else new l)) × (left ≡ over (or_else new l) l)
  left-none z =
      let none = none_kept new l (sym count ∙ z) in
      subst (λ (m : List ℤ). (length m ≡ length (or_else new l)) × (m ≡ over (or_else new l) l)) (sym (front ∙ none.1)) (over-same (or_else new l) l none.0)

  pub left-some : ¬ (kept ≡ 0) → (kept ≡ length (or_else new l)) × (left ≡ over (or_else new l) l)
  left-some n =
      let e = sym (some-kept new l (λ z. n (count ∙ z))) in
      (count ∙ ap length e, front ∙ ap (λ (m : List ℤ). over m l) e)

-- what a filter keeps of src, written over l₀, and src narrowed by it
pub record Met (src l₀ left : List ℤ) (met : ℕ) (narrowed : List ℤ) : Type 0 where
  pub p : ℤ → Bool
  pub count : met ≡ length (filter p src)
  pub front : left ≡ over (filter p src) l₀
  pub is : narrowed ≡ or_else (filter p src) src

module _ (src l₀ left : List ℤ) (met : ℕ) (narrowed : List ℤ) (m : Met src l₀ left met narrowed) where
  pub met-none : met ≡ 0 → narrowed ≡ src
  met-none z = m.is ∙ (none_kept (filter m.p src) src (sym m.count ∙ z)).0

  pub met-some : ¬ (met ≡ 0) → (met ≡ length narrowed) × (take met left ≡ narrowed)
  met-some n =
      let e : filter m.p src ≡ narrowed = sym (some-kept (filter m.p src) src (λ z. n (m.count ∙ z))) ∙ sym m.is in
      (m.count ∙ ap length e, ap (take met) m.front ∙ take_at (filter m.p src) _ met (sym m.count) ∙ e)

-- ---- by kind
narrow_if_lem : (narrowing same : Bool) (t : Test) (l : List ℤ) → narrow_if (same && narrowing) t l ≡ cond (narrowing && same) (kept_by (some t) l) l
narrow_if_lem true true t l = refl
narrow_if_lem true false t l = refl
narrow_if_lem false true t l = refl
narrow_if_lem false false t l = refl

module _ (h : Record) (ms : List Record) (f : ℕ) (l : List ℤ) where
  by-constraint : (k : ConstraintKind) → narrow_by f l (constraint_by k h ms) ≡ cond (narrows_test (test_by k (pos 0) (pos 0) []) && eqb h.a f) (kept_by (test_by k h.p h.q ms) l) l
  by-constraint range = narrow_if_lem true (eqb h.a f) (Range h.p h.q) l
  by-constraint even = narrow_if_lem false (eqb h.a f) Even l
  by-constraint eq = refl
  by-constraint neq = refl
  by-constraint lt = narrow_if_lem false (eqb h.a f) (Lt h.p) l
  by-constraint gt = narrow_if_lem false (eqb h.a f) (Gt h.p) l
  by-constraint le = narrow_if_lem false (eqb h.a f) (Le h.p) l
  by-constraint ge = narrow_if_lem false (eqb h.a f) (Ge h.p) l
  by-constraint oneof = narrow_if_lem true (eqb h.a f) (Oneof (map (λ m. m.p) ms)) l
  by-constraint cross = refl
  by-constraint enable_mask = refl
  by-constraint bitmask = narrow_if_lem true (eqb h.a f) (Bitmask (nat_abs h.p) h.q) l
  by-constraint enable_set = refl

  -- A record narrows the list of field f where it is of a kind that narrows and its field is f.
  by_kind : (k : Kind) → foldl (narrow_by f) l (constraint_in k h ms) ≡ cond (narrows_kind k && eqb h.a f) (kept_by (test_in k h.p h.q ms) l) l
  by_kind field = refl
  by_kind unknown = refl
  by_kind (constraint k) = by-constraint k
  by_kind (projector k) = refl
  by_kind (member k) = refl

-- The same of a head of kind k where it lies, read as h, with the members given.
pub narrowed_as : (h : code.Record) (file : List ℕ) (head end f : ℕ) (l : List ℤ) (k : Kind) (ms : List Record)
    → as_record h ≡ record_at file head
    → (as_record h).kind ≡ k
    → narrows_kind k ≡ true
    → h.a ≡ f
    → ms ≡ take (end - suc head) (drop (suc head) (records_of file))
    → foldl (narrow_by f) l (constraint_of (group_in file head end)) ≡ kept_by (test_in k h.p h.q ms) l
narrowed_as h file head end f l k ms e is n a m =
    let its = take (end - suc head) (drop (suc head) (records_of file)) in
    ap (λ (r : Record). foldl (narrow_by f) l (constraint_of (group r its))) (sym e)
    ∙ by_kind (as_record h) its f l (as_record h).kind
    ∙ ap (λ (x : Kind). cond (narrows_kind x && eqb h.a f) (kept_by (test_in x h.p h.q its) l) l) is
    ∙ ap (λ (b : Bool). cond b (kept_by (test_in k h.p h.q its) l) l) (and-join n (eqb_yes h.a f a))
    ∙ ap (λ (rs : List Record). kept_by (test_in k h.p h.q rs) l) (sym m)

-- ---- a list narrowed in front of others
module _ (new old rest : List ℤ) (r : ℕ) (e : r ≡ length new) where
  pub over_front : take r (over new old ++ rest) ≡ new
  over_front = ap (take r) (append_assoc new (drop (length new) old) rest) ∙ take_at new (drop (length new) old ++ rest) r (sym e)

  pub over_room : r ≤ length (over new old ++ rest)
  over_room = omega (arith, length-append (over new old) rest, length-append new (drop (length new) old))
