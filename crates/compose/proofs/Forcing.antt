-- Forcing: only enable records change a row, only those that are triggered, and never its length.
use mathlib.Core.Bool.{Bool, ◌||◌, false, false≢true, true}
use mathlib.Core.List.{List, [], ◌++◌, ◌∷◌, foldl, foldl-append, map}
use mathlib.Core.Path.{◌∙◌, ◌≡◌, ap, refl, subst, sym}
use Prim.Native.Nat.{◌+◌, ◌-◌, ◌/◌, ◌<◌, ◌≤◌, suc, ℕ}
use native.Mathlib.Numerals.{add-one}
use native.Mathlib.Omega.{arith}
use lib.IntN.{ℤ}
use lib.ListN.{drop, drop_of_length-le, get_or, length, length-set, set, take}
use lib.Seq.{drop-cons}
use Rattle.lists.specs.Integers.{eq_z}
use Rattle.lists.specs.Lists.{cons_if, filter}
use Rattle.lists.proofs.All.{All, All_at}
use Rattle.lists.proofs.Tests.{or_split}
use Rattle.spec.specs.Kind.{ConstraintKind, Kind, bitmask, constraint, cross, enable_mask, enable_set, eq, even, field, ge, gt, le, lt, member, neq, oneof, projector, range, unknown}
use Rattle.spec.specs.Record.{Record, assignment_of, constraint_in, constraint_of, record_at, records_of}
use Rattle.spec.specs.Spec.{Assign, Check, ConstraintSpec, Cross, Enable, Enabling, Eq, FieldAssignment, Neq, by_mask, by_set}
use Rattle.spec.proofs.Fields.{length_records, record_get_d, records_from}
use Rattle.registry.specs.Check.{value_at}
use Rattle.registry.specs.Code.{group_in}
use Rattle.compose.specs.Code.{chosen_in, enables_of, is_enable, is_enabling, is_forced, triggers}
use Rattle.compose.specs.Force.{force, force_by, forcing_order, write, write_if}
use Rattle.compose.specs.Tuples.{Engine}

-- ---- enable records
-- The other constraints change nothing.
skipped : (c : ConstraintSpec) (row : List ℤ) (cs : List ConstraintSpec) → foldl force_by row (cons_if (is_enable c) c cs) ≡ foldl force_by (force_by row c) cs
skipped (Check f t) row cs = refl
skipped (Eq a b) row cs = refl
skipped (Neq a b) row cs = refl
skipped (Cross parent child entries) row cs = refl
skipped (Enable by_mask f trigger writes) row cs = refl
skipped (Enable by_set f trigger writes) row cs = refl

enables_fold : (cs : List ConstraintSpec) (row : List ℤ) → foldl force_by row (filter is_enable cs) ≡ foldl force_by row cs
enables_fold [] row = refl
enables_fold (c ∷ cs) row = skipped c row (filter is_enable cs) ∙ enables_fold cs (force_by row c)

pub enables-force : (engine : Engine) (cs : List ConstraintSpec) (row : List ℤ) → foldl force_by row (enables_of engine cs) ≡ force engine cs row
unfolding force
enables-force engine cs row = enables_fold (forcing_order engine cs) row

-- ---- a row that is not forced
untriggered : (c : ConstraintSpec) (row : List ℤ) → triggers row c ≡ false → force_by row c ≡ row
untriggered (Check f t) row e = refl
untriggered (Eq a b) row e = refl
untriggered (Neq a b) row e = refl
untriggered (Cross parent child entries) row e = refl
untriggered (Enable k f trigger writes) row e = rw e

pub unforced : (cs : List ConstraintSpec) (row : List ℤ) → is_forced cs row ≡ false → foldl force_by row cs ≡ row
unforced [] row e = refl
unforced (c ∷ cs) row e =
    let s = or_split (triggers row c) (is_forced cs (force_by row c)) e in
    unforced cs (force_by row c) s.1 ∙ untriggered c row s.0

-- ---- its length
pub length_written : (writes : List FieldAssignment) (row : List ℤ) → length (foldl write row writes) ≡ length row
length_written [] row = refl
length_written (Assign f v ∷ writes) row = length_written writes (set row f v) ∙ length-set row f v

length-by : (c : ConstraintSpec) (row : List ℤ) → length (force_by row c) ≡ length row
length-by (Check f t) row = refl
length-by (Eq a b) row = refl
length-by (Neq a b) row = refl
length-by (Cross parent child entries) row = refl
length-by (Enable k f trigger writes) row = go (eq_z (value_at row f) trigger)
  where
    go : (b : Bool) → length (write_if b writes row) ≡ length row
    go true = length_written writes row
    go false = refl

pub length_forced : (cs : List ConstraintSpec) (row : List ℤ) → length (foldl force_by row cs) ≡ length row
length_forced [] row = refl
length_forced (c ∷ cs) row = length_forced cs (force_by row c) ∙ length-by c row

-- ---- the members of an enable record, where they lie
module _ (run : List ℕ) where
  abbrev pub writes_from : ℕ → List FieldAssignment
  writes_from i = map assignment_of (drop i (records_of run))

  pub writes_turn : (row : List ℤ) (i f : ℕ) (v : ℤ) → i < length run / 32 → f ≡ (record_at run i).a → v ≡ (record_at run i).p → foldl write (set row f v) (writes_from (i + 1)) ≡ foldl write row (writes_from i)
  writes_turn row i f v h a p = rw (a, p, add-one i, records_from run i h)

  pub writes_end : (i : ℕ) → length run / 32 ≤ i → writes_from i ≡ []
  writes_end i h = ap (map assignment_of) (drop_of_length-le (records_of run) {i = i} (let l = length_records run in omega arith))

  pub write-below : (n i : ℕ) → All (λ m. m.a < n) (records_of run) → i < length run / 32 → (record_at run i).a < n
  write-below n i h l =
      let d = record_at run i in
      subst (λ (m : Record). m.a < n) (record_get_d d run i l) (All_at d (records_of run) h i (let e = length_records run in omega arith))

-- ---- an enable record, where it lies
module _ (file : List ℕ) (head end : ℕ) (enable : is_enabling (record_at file head).kind ≡ true) (row : List ℤ) where
  abbrev members : List Record
  members = take (end - suc head) (drop (suc head) (records_of file))

  abbrev decoded_as : Kind → Enabling → Type 0
  decoded_as k e = constraint_in k (record_at file head) members ≡ Enable e (record_at file head).a (record_at file head).p (map assignment_of members) ∷ []

  by_constraint : (k : ConstraintKind) → is_enabling (constraint k) ≡ true → (e : Enabling) × decoded_as (constraint k) e
  by_constraint range h = absurd (false≢true h)
  by_constraint even h = absurd (false≢true h)
  by_constraint eq h = absurd (false≢true h)
  by_constraint neq h = absurd (false≢true h)
  by_constraint lt h = absurd (false≢true h)
  by_constraint gt h = absurd (false≢true h)
  by_constraint le h = absurd (false≢true h)
  by_constraint ge h = absurd (false≢true h)
  by_constraint oneof h = absurd (false≢true h)
  by_constraint cross h = absurd (false≢true h)
  by_constraint enable_mask h = (by_mask, refl)
  by_constraint bitmask h = absurd (false≢true h)
  by_constraint enable_set h = (by_set, refl)

  by_kind : (k : Kind) → is_enabling k ≡ true → (e : Enabling) × decoded_as k e
  by_kind field h = absurd (false≢true h)
  by_kind unknown h = absurd (false≢true h)
  by_kind (constraint k) h = by_constraint k h
  by_kind (projector k) h = absurd (false≢true h)
  by_kind (member k) h = absurd (false≢true h)

  as_enable : (e : Enabling) × decoded_as (record_at file head).kind e
  as_enable = by_kind (record_at file head).kind enable

  pub enable_no : eq_z (value_at row (record_at file head).a) (record_at file head).p ≡ false
      → (false ≡ is_forced (constraint_of (group_in file head end)) row) × (row ≡ foldl force_by row (constraint_of (group_in file head end)))
  enable_no e = rw (as_enable.1, e) (refl, refl)

  pub enable_yes : eq_z (value_at row (record_at file head).a) (record_at file head).p ≡ true
      → (true ≡ is_forced (constraint_of (group_in file head end)) row) × (foldl write row (map assignment_of members) ≡ foldl force_by row (constraint_of (group_in file head end)))
  enable_yes e = rw (as_enable.1, e) (refl, refl)

-- ---- the enable records chosen, one by one
forced_append : (cs ds : List ConstraintSpec) (row : List ℤ) → is_forced (cs ++ ds) row ≡ (is_forced cs row || is_forced ds (foldl force_by row cs))
forced_append [] ds row = refl
forced_append (c ∷ cs) ds row = ap (λ b. triggers row c || b) (forced_append cs ds (force_by row c)) ∙ go (triggers row c)
  where
    go : (b : Bool) → (b || (is_forced cs (force_by row c) || is_forced ds (foldl force_by (force_by row c) cs))) ≡ ((b || is_forced cs (force_by row c)) || is_forced ds (foldl force_by (force_by row c) cs))
    go true = refl
    go false = refl

module _ (file heads chosen : List ℕ) (j : ℕ) where
  abbrev here : List ConstraintSpec
  here = constraint_of (group_in file (get_or heads (get_or chosen j 0) 0) (get_or heads (suc (get_or chosen j 0)) 0))

  chosen_from : j < length chosen → chosen_in file heads (drop j chosen) ≡ here ++ chosen_in file heads (drop (suc j) chosen)
  chosen_from h = ap (chosen_in file heads) (drop-cons chosen j 0 h)

  -- One more has forced: w is whether it wrote.
  pub forced_turn : (row row' : List ℤ) (wrote w : Bool) → j < length chosen → w ≡ is_forced here row → row' ≡ foldl force_by row here
      → (((wrote || w) || is_forced (chosen_in file heads (drop (j + 1) chosen)) row') ≡ (wrote || is_forced (chosen_in file heads (drop j chosen)) row))
      × (foldl force_by row' (chosen_in file heads (drop (j + 1) chosen)) ≡ foldl force_by row (chosen_in file heads (drop j chosen)))
  forced_turn row row' wrote w h e r = rw (add-one j, chosen_from h, r) (came_to wrote, sym (foldl-append force_by row here rest))
    where
      rest : List ConstraintSpec
      rest = chosen_in file heads (drop (suc j) chosen)

      after : List ℤ
      after = foldl force_by row here

      came_to : (b : Bool) → ((b || w) || is_forced rest after) ≡ (b || is_forced (here ++ rest) row)
      came_to true = refl
      came_to false = ap (λ x. x || is_forced rest after) e ∙ sym (forced_append here rest row)

  pub chosen_end : length chosen ≤ j → chosen_in file heads (drop j chosen) ≡ []
  chosen_end h = ap (chosen_in file heads) (drop_of_length-le chosen {i = j} h)
