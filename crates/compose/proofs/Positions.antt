-- Groups by the positions of their heads.
use mathlib.Core.Bool.{Bool, false, true}
use mathlib.Core.List.{List, [], ◌∷◌, foldl, foldl-append}
use mathlib.Core.Path.{◌∙◌, ◌≡◌, ap, ap₂, refl, subst, sym}
use Prim.Native.Nat.{◌+◌, ◌-◌, ◌/◌, ◌<◌, ◌≤◌, suc, zero, ℕ}
use native.Mathlib.Numerals.{add-one}
use native.Mathlib.Omega.{arith}
use lib.ListN.{drop, drop_of_length-le, get_or, length, take}
use lib.Seq.{drop-cons}
use Rattle.lists.specs.Lists.{concat_map}
use Rattle.spec.specs.Kind.{is_member}
use Rattle.spec.specs.Record.{Group, group, groups, heads_from, heads_of, member_run, record_at, records_of}
use Rattle.spec.proofs.Fields.{length_records, records_from}
use Rattle.spec.proofs.Runs.{run_front, run_inside, run_length}
use Rattle.registry.specs.Code.{group_in}
use Rattle.compose.specs.Code.{Rising, groups_from, groups_in}
use Rattle.spec.specs.Code.{AllNoted}
use Rattle.spec.proofs.Noting.{here, place_here, places_long}

-- The groups from number j on: a turn, and the end.
pub groups_turn : (file heads : List ℕ) (j : ℕ) → suc j < length heads → groups_in file (drop j heads) ≡ group_in file (get_or heads j 0) (get_or heads (suc j) 0) ∷ groups_in file (drop (suc j) heads)
groups_turn file heads j h =
    let rest = drop-cons heads (suc j) 0 h in
    ap (groups_in file) (drop-cons heads j 0 (omega arith) ∙ ap (λ (l : List ℕ). get_or heads j 0 ∷ l) rest)
    ∙ ap (λ (l : List ℕ). group_in file (get_or heads j 0) (get_or heads (suc j) 0) ∷ groups_in file l) (sym rest)

pub groups_end : (file heads : List ℕ) (j : ℕ) → length heads ≤ suc j → groups_in file (drop j heads) ≡ []
groups_end file [] zero h = refl
groups_end file [] (suc j) h = refl
groups_end file (x ∷ []) zero h = refl
groups_end file (x ∷ y ∷ l) zero h = absurd (omega arith)
groups_end file (x ∷ l) (suc j) h = groups_end file l j (omega arith)

-- The same by a loop that looks at numbers k − 1 and k.
pub groups_loop : (file heads : List ℕ) (k : ℕ) → 1 ≤ k → k < length heads → groups_in file (drop (k - 1) heads) ≡ group_in file (get_or heads (k - 1) 0) (get_or heads k 0) ∷ groups_in file (drop (k + 1 - 1) heads)
groups_loop file heads zero h l = absurd (omega arith)
groups_loop file heads (suc j) h l =
    let e : suc j - 1 ≡ j = omega arith in
    let f : suc j + 1 - 1 ≡ suc j = omega arith in
    rw (e, f) (groups_turn file heads j l)

pub groups-done : (file heads : List ℕ) (k : ℕ) → 1 ≤ k → length heads ≤ k → groups_in file (drop (k - 1) heads) ≡ []
groups-done file heads k h l = groups_end file heads (k - 1) (omega arith)

pub head_turn_lem : (P : ℕ → ℕ → Type 0) (heads : List ℕ) (k : ℕ) → ((j : ℕ) → suc j < length heads → P (get_or heads j 0) (get_or heads (suc j) 0)) → 1 ≤ k → k < length heads → P (get_or heads (k - 1) 0) (get_or heads k 0)
head_turn_lem P heads zero each h l = absurd (omega arith)
head_turn_lem P heads (suc j) each h l = let e : suc j - 1 ≡ j = omega arith in rw e (each j l)

-- What each group decodes to, in a fold from number k on.
module _ {A B : Type 0} (f : A → B → A) (of : Group → List B) (file heads : List ℕ) (k : ℕ) where
  pub fold_turn : (a : A) → suc k < length heads
      → foldl f a (concat_map of (groups_in file (drop k heads))) ≡ foldl f (foldl f a (of (group_in file (get_or heads k 0) (get_or heads (k + 1) 0)))) (concat_map of (groups_in file (drop (k + 1) heads)))
  fold_turn a l =
      let e : groups_in file (drop k heads) ≡ group_in file (get_or heads k 0) (get_or heads (k + 1) 0) ∷ groups_in file (drop (k + 1) heads) = rw (add-one k) (groups_turn file heads k l) in
      ap (λ (gs : List Group). foldl f a (concat_map of gs)) e
      ∙ foldl-append f a (of (group_in file (get_or heads k 0) (get_or heads (k + 1) 0))) (concat_map of (groups_in file (drop (k + 1) heads)))

  pub fold_end : (a : A) → length heads ≤ suc k → foldl f a (concat_map of (groups_in file (drop k heads))) ≡ a
  fold_end a l = ap (λ (gs : List Group). foldl f a (concat_map of gs)) (groups_end file heads k l)

-- ---- the places of the heads
module _ (file : List ℕ) where
  -- Those from record i on are the places of the groups that follow, and rise.
  abbrev PlacesAt : ℕ → Type 0
  PlacesAt i = (groups_in file (heads_from i (drop i (records_of file))) ≡ groups (drop i (records_of file))) × Rising file (heads_from i (drop i (records_of file)))

  places_member : (i : ℕ) → i < length file / 32 → is_member (record_at file i).kind ≡ true → PlacesAt (suc i) → PlacesAt i
  places_member i inside e (stand, rise) =
      let at = here file i inside true e in
      (ap (groups_in file) at ∙ stand ∙ sym (rw (records_from file i inside) (rw e refl)), subst (Rising file) (sym at) rise)

  places_head : (i : ℕ) → i < length file / 32 → is_member (record_at file i).kind ≡ false → PlacesAt (suc i) → PlacesAt i
  places_head i inside e (stand, rise) =
      let rs = drop (suc i) (records_of file) in
      let l = heads_from (suc i) rs in
      let at = here file i inside false e in
      let p = suc i + run_length file (suc i) in
      let next : l ≡ p ∷ drop 1 l = place_here file (suc i) in
      let size : p - suc i ≡ length (member_run rs) = omega arith in
      let first : group_in file i p ≡ group (record_at file i) (member_run rs) = ap (group (record_at file i)) (ap (λ (k : ℕ). take k rs) size ∙ sym (run_front rs)) in
      let more : groups_in file (i ∷ l) ≡ group_in file i p ∷ groups_in file l = ap (groups_from file i) next ∙ ap (λ (k : List ℕ). group_in file i p ∷ groups_in file k) (sym next) in (
        ap (groups_in file) at ∙ more ∙ ap₂ (λ (g : Group) (gs : List Group). g ∷ gs) first stand ∙ sym (rw (records_from file i inside) (rw e refl)),
        subst (Rising file) (sym at) (up l p next (omega arith) (run_inside file (suc i) (omega arith)) rise),
      )
    where
      up : (l : List ℕ) (p : ℕ) → l ≡ p ∷ drop 1 l → i < p → p ≤ length file / 32 → Rising file l → Rising file (i ∷ l)
      up l p next above inside rise zero h = let e = ap (λ (k : List ℕ). get_or k 0 0) next in (omega (arith, e), omega (arith, e))
      up l p next above inside rise (suc k) h = rise k (omega arith)

  places_at : (d i : ℕ) → i + d ≡ length file / 32 → PlacesAt i
  places_at zero i e =
      let none : drop i (records_of file) ≡ [] = drop_of_length-le (records_of file) {i = i} (omega (arith, length_records file)) in
      rw none (refl, λ k h. absurd (omega arith))
  places_at (suc d) i e = go (is_member (record_at file i).kind) refl (places_at d (suc i) (omega arith))
    where
      go : (b : Bool) → is_member (record_at file i).kind ≡ b → PlacesAt (suc i) → PlacesAt i
      go true t = places_member i (omega arith) t
      go false t = places_head i (omega arith) t

  -- So of all, where they are noted.
  module _ (heads : List ℕ) (noted : AllNoted file heads) where
    all-places : take (suc (length (groups (records_of file)))) heads ≡ heads_of file
    unfolding heads_of
    all-places = ap (λ (k : ℕ). take k heads) (sym (places_long 0 (records_of file))) ∙ noted

    pub noted_groups : groups_in file (take (suc (length (groups (records_of file)))) heads) ≡ groups (records_of file)
    unfolding heads_of
    noted_groups = ap (groups_in file) all-places ∙ (places_at (length file / 32) 0 (omega arith)).0

    pub noted_rising : Rising file (take (suc (length (groups (records_of file)))) heads)
    unfolding heads_of
    noted_rising = subst (Rising file) (sym all-places) (places_at (length file / 32) 0 (omega arith)).1
