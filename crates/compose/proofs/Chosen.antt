-- The groups that heads stand for, one by one; the numbers chosen among them by kind; and the enable records so chosen.
use mathlib.Core.Bool.{Bool, ◌||◌, cond, false, true}
use mathlib.Core.List.{List, [], ◌++◌, ◌∷◌, append_assoc}
use mathlib.Core.Path.{◌∙◌, ◌≡◌, ap, ap₂, refl, subst, sym}
use Prim.Native.Nat.{◌+◌, ◌-◌, ◌<◌, ◌≤◌, suc, zero, ℕ}
use native.Mathlib.Omega.{arith}
use lib.Dec.{ltb}
use lib.ListN.{drop, get_or, length, length-append, length-take, take}
use lib.Seq.{drop-append_seam, get_or-take, length-take-le, take-append_seam}
use Rattle.lists.specs.Lists.{concat_map, cons_if, count_if, suc_if, filter, over, span, upto}
use Rattle.lists.proofs.All.{All_at, All_imp, All-filter, filter-all, upto-below}
use Rattle.lists.proofs.Lists.{concat_map_append, count_if_le, count_if_or, filter_append, filter_every, get_d_right}
use Rattle.lists.proofs.Tests.{no_ge, or_true, yes_lt}
use Rattle.spec.specs.Kind.{ConstraintKind, Kind, bitmask, constraint, cross, enable_mask, enable_set, eq, even, field, ge, gt, le, lt, member, neq, oneof, projector, range, unknown}
use Rattle.spec.specs.Record.{Group, Record, constraint_by, constraint_in, constraint_of, group, record_at}
use Rattle.spec.specs.Spec.{ConstraintSpec, Enabling, by_mask, by_set}
use Rattle.registry.specs.Code.{group_in}
use Rattle.compose.specs.Code.{ChosenFrom, KindAt, KindTest, Taken, chosen_in, constraints_in, enables_of, groups_from, groups_in, has_kind, is_enable, is_enabling, is_mask, is_set, marks_by}
use Rattle.compose.specs.Force.{enables, forcing_order}
use Rattle.compose.specs.Tuples.{exhaustive, structural}
use Rattle.compose.proofs.Positions.{groups_end, groups_turn}

length_from : (file : List ℕ) (head : ℕ) (rest : List ℕ) → length (groups_from file head rest) ≡ length rest
length_from file head [] = refl
length_from file head (next ∷ rest) = ap suc (length_from file next rest)

pub groups-few : (file heads : List ℕ) (n : ℕ) → length heads ≤ suc n → length (groups_in file heads) ≤ n
groups-few file [] n h = omega arith
groups-few file (head ∷ rest) n h = let e = length_from file head rest in omega arith

-- ---- the numbers of heads of the kinds that pass a test, put behind those there before
module _ (file heads : List ℕ) (test : KindTest) where
  -- Number k is of such a head.
  abbrev pub kind_passes : ℕ → Bool
  kind_passes k = has_kind test (group_in file (get_or heads k 0) (get_or heads (suc k) 0))

  -- The d heads from j on.
  abbrev Passed : ℕ → ℕ → Type 0
  Passed d j = (chosen_in file heads (filter kind_passes (span j d)) ≡ concat_map constraint_of (filter (has_kind test) (groups_in file (drop j heads)))) × (length (filter kind_passes (span j d)) ≡ count_if (has_kind test) (groups_in file (drop j heads)))

  passed : (d j : ℕ) → length heads - suc j ≡ d → Passed d j
  passed zero j h = rw (groups_end file heads j (omega arith)) (refl, refl)
  passed (suc d) j h = rw (groups_turn file heads j (omega arith)) (go (kind_passes j) (passed d (suc j) (omega arith)))
    where
      here : List ConstraintSpec
      here = constraint_of (group_in file (get_or heads j 0) (get_or heads (suc j) 0))

      gs : List Group
      gs = groups_in file (drop (suc j) heads)

      go : (b : Bool) → Passed d (suc j)
          → (chosen_in file heads (cons_if b j (filter kind_passes (span (suc j) d))) ≡ concat_map constraint_of (cons_if b (group_in file (get_or heads j 0) (get_or heads (suc j) 0)) (filter (has_kind test) gs)))
          × (length (cons_if b j (filter kind_passes (span (suc j) d))) ≡ suc_if b (count_if (has_kind test) gs))
      go true r = (ap (λ l. here ++ l) r.0, ap suc r.1)
      go false r = r

  -- There are as many as heads.
  pub passed_many : length (filter kind_passes (upto (length heads - 1))) ≡ count_if (has_kind test) (groups_in file heads)
  passed_many = (passed (length heads - 1) 0 refl).1

  module _ (old new : List ℕ) (before count : ℕ) (room : before ≤ length old)
      (w : new ≡ over (take before old ++ filter kind_passes (upto (length heads - 1))) old) (n : count ≡ before + length (filter kind_passes (upto (length heads - 1)))) where
    abbrev numbers : List ℕ
    numbers = filter kind_passes (upto (length heads - 1))

    abbrev all : List ℕ
    all = take before old ++ numbers

    first : length (take before old) ≡ before
    first = length-take-le before old room

    long : count ≡ length all
    long = n ∙ sym (length-append (take before old) numbers ∙ ap (λ (i : ℕ). i + length numbers) first)

    front : take count new ≡ all
    front = ap (take count) w ∙ ap (λ (i : ℕ). take i (over all old)) long ∙ take-append_seam all (drop (length all) old)

    pub taken : Taken file heads test before old count new
    taken = record {
      counted = n ∙ ap (λ (i : ℕ). before + i) passed_many;
      chosen = ap (chosen_in file heads) front ∙ concat_map_append (λ k. constraint_of (group_in file (get_or heads k 0) (get_or heads (suc k) 0))) (take before old) numbers
          ∙ ap (λ l. chosen_in file heads (take before old) ++ l) (passed (length heads - 1) 0 refl).0;
      kept = ap (take before) (w ∙ append_assoc (take before old) numbers (drop (length all) old)) ∙ ap (λ (i : ℕ). take i (take before old ++ (numbers ++ drop (length all) old))) (sym first) ∙ take-append_seam (take before old) (numbers ++ drop (length all) old);
      kinds = subst (ChosenFrom file heads before test) (sym front) kinds_in;
      rest = ap (drop count) w ∙ ap (λ (i : ℕ). drop i (over all old)) long ∙ drop-append_seam all (drop (length all) old) ∙ ap (λ (i : ℕ). drop i old) (sym long);
    }
      where
        kinds_in : ChosenFrom file heads before test all
        kinds_in j h l =
            let i = j - before in
            let e : before + i ≡ j = omega arith in
            let inside : i < length numbers = omega (arith, e, first, length-append (take before old) numbers) in
            let at : get_or numbers i 0 ≡ get_or all j 0 = sym (get_d_right (take before old) numbers 0 i first) ∙ ap (λ (x : ℕ). get_or all x 0) e in
            let below = All_at 0 numbers (All-filter kind_passes (upto-below (length heads - 1))) i inside in
            subst (KindAt file heads test) at (record { number = omega arith; kind = All_at 0 numbers (filter-all kind_passes (upto (length heads - 1))) i inside })

-- ---- the enable records are the heads of their kinds
marks_all : (e : Enabling) (k : ConstraintKind) (h : Record) (ms : List Record) → enables e (constraint_by k h ms) ≡ marks_by e k
marks_all e range h ms = refl
marks_all e even h ms = refl
marks_all e eq h ms = refl
marks_all e neq h ms = refl
marks_all e lt h ms = refl
marks_all e gt h ms = refl
marks_all e le h ms = refl
marks_all e ge h ms = refl
marks_all e oneof h ms = refl
marks_all e cross h ms = refl
marks_all e enable_mask h ms = refl
marks_all e bitmask h ms = refl
marks_all e enable_set h ms = refl

-- The constraints that pass a test of what they enable are those of the heads that pass it by their numbers.
module _ (q : Bool → Bool → Bool) where
  abbrev passing : ConstraintSpec → Bool
  passing c = q (enables by_mask c) (enables by_set c)

  passing_in : (k : Kind) (h : Record) (ms : List Record) → filter passing (constraint_in k h ms) ≡ cond (q (is_mask k) (is_set k)) (constraint_in k h ms) []
  passing_in k h ms = go k
    where
      none : (b : Bool) → ◌≡◌ {A = List ConstraintSpec} [] (cond b [] [])
      none true = refl
      none false = refl

      one : (b : Bool) (c : ConstraintSpec) → cons_if b c [] ≡ cond b (c ∷ []) []
      one true c = refl
      one false c = refl

      go : (k : Kind) → filter passing (constraint_in k h ms) ≡ cond (q (is_mask k) (is_set k)) (constraint_in k h ms) []
      go field = none (q false false)
      go unknown = none (q false false)
      go (constraint k) = one (passing (constraint_by k h ms)) (constraint_by k h ms) ∙ ap₂ (λ (m s : Bool). cond (q m s) (constraint_by k h ms ∷ []) []) (marks_all by_mask k h ms) (marks_all by_set k h ms)
      go (projector k) = none (q false false)
      go (member k) = none (q false false)

  passing_groups : (gs : List Group) → concat_map constraint_of (filter (has_kind (λ k. q (is_mask k) (is_set k))) gs) ≡ filter passing (concat_map constraint_of gs)
  passing_groups [] = refl
  passing_groups (group h ms ∷ gs) =
      split (q (is_mask h.kind) (is_set h.kind)) ∙ ap₂ ◌++◌ (sym (passing_in h.kind h ms)) (passing_groups gs) ∙ sym (filter_append passing (constraint_of (group h ms)) (concat_map constraint_of gs))
    where
      split : (b : Bool) → concat_map constraint_of (cons_if b (group h ms) (filter (has_kind (λ k. q (is_mask k) (is_set k))) gs)) ≡ cond b (constraint_of (group h ms)) [] ++ concat_map constraint_of (filter (has_kind (λ k. q (is_mask k) (is_set k))) gs)
      split true = refl
      split false = refl

pub enables_structural : (file heads : List ℕ) → concat_map constraint_of (filter (has_kind is_enabling) (groups_in file heads)) ≡ enables_of structural (constraints_in file heads)
unfolding forcing_order
enables_structural file heads = passing_groups ◌||◌ (groups_in file heads)

pub enables_exhaustive : (file heads : List ℕ)
    → concat_map constraint_of (filter (has_kind is_mask) (groups_in file heads)) ++ concat_map constraint_of (filter (has_kind is_set) (groups_in file heads)) ≡ enables_of exhaustive (constraints_in file heads)
unfolding forcing_order
enables_exhaustive file heads =
    ap₂ ◌++◌
    (passing_groups (λ m s. m) (groups_in file heads))
    (passing_groups (λ m s. s) (groups_in file heads))
    ∙ sym (filter_append is_enable (filter (enables by_mask) cs) (filter (enables by_set) cs)
    ∙ ap₂ ◌++◌
    (filter_every is_enable (All_imp (λ c (e : enables by_mask c ≡ true). ap (λ b. b || enables by_set c) e) (filter-all (enables by_mask) cs)))
    (filter_every is_enable (All_imp (λ c (e : enables by_set c ≡ true). ap (λ b. enables by_mask c || b) e ∙ or_true (enables by_mask c)) (filter-all (enables by_set) cs))))
  where
    cs : List ConstraintSpec
    cs = constraints_in file heads

-- ---- room for them
pub kinds-few : (test : KindTest) (file heads : List ℕ) → length heads ≤ 257 → count_if (has_kind test) (groups_in file heads) ≤ 256
kinds-few test file heads h = let n = groups-few file heads 256 h in let m = count_if_le (has_kind test) (groups_in file heads) in omega arith

mask_no-set : (k : ConstraintKind) → marks_by by_mask k ≡ true → marks_by by_set k ≡ false
mask_no-set range e = refl
mask_no-set even e = refl
mask_no-set eq e = refl
mask_no-set neq e = refl
mask_no-set lt e = refl
mask_no-set gt e = refl
mask_no-set le e = refl
mask_no-set ge e = refl
mask_no-set oneof e = refl
mask_no-set cross e = refl
mask_no-set enable_mask e = refl
mask_no-set bitmask e = refl
mask_no-set enable_set e = cc

apart : (k : Kind) → is_mask k ≡ true → is_set k ≡ false
apart field e = refl
apart unknown e = refl
apart (constraint k) e = mask_no-set k e
apart (projector k) e = refl
apart (member k) e = refl

pub both_few : (file heads : List ℕ) → length heads ≤ 257 → count_if (has_kind is_mask) (groups_in file heads) + count_if (has_kind is_set) (groups_in file heads) ≤ 256
both_few file heads h =
    let n = groups-few file heads 256 h in
    let e = count_if_or (has_kind is_mask) (has_kind is_set) apart_groups (groups_in file heads) in
    let m = count_if_le (λ g. has_kind is_mask g || has_kind is_set g) (groups_in file heads) in
    omega arith
  where
    apart_groups : (g : Group) → has_kind is_mask g ≡ true → has_kind is_set g ≡ false
    apart_groups (group h ms) e = apart h.kind e

-- ---- masks, and sets behind them
either : (file heads : List ℕ) (k : ℕ) → KindAt file heads is_mask k → KindAt file heads is_enabling k
either file heads k r = record { number = r.number; kind = ap (λ b. b || is_set (record_at file (get_or heads k 0)).kind) r.kind }

either' : (file heads : List ℕ) (k : ℕ) → KindAt file heads is_set k → KindAt file heads is_enabling k
either' file heads k r = let m = is_mask (record_at file (get_or heads k 0)).kind in record { number = r.number; kind = ap (λ b. m || b) r.kind ∙ or_true m }

pub chosen_both : (file heads old new : List ℕ) (m n : ℕ) → ChosenFrom file heads 0 is_mask (take m old) → take m new ≡ take m old → ChosenFrom file heads m is_set (take n new) → ChosenFrom file heads 0 is_enabling (take n new)
chosen_both file heads old new m n first kept later j z l = go (ltb j m) refl
  where
    inside : (j < n) × (j < length new)
    inside = let e = length-take n new in (omega arith, omega arith)

    go : (b : Bool) → ltb j m ≡ b → KindAt file heads is_enabling (get_or (take n new) j 0)
    go true e =
        let h = yes_lt j m e in
        let i = inside.1 in
        let w = length-take m new in
        let v = ap length kept in
        subst (KindAt file heads is_enabling) (ap (λ ks. get_or ks j 0) (sym kept) ∙ get_or-take m new j 0 h ∙ sym (get_or-take n new j 0 inside.0)) (either file heads (get_or (take m old) j 0) (first j z (omega arith)))
    go false e = either' file heads (get_or (take n new) j 0) (later j (no_ge j m e) l)
