-- Lists whose values ascend, and the first index that passes a test where those before it are known not to.
use mathlib.Core.Bool.{Bool, ◌&&◌, ◌||◌, cond, false, not, true, true≢false}
use mathlib.Core.List.{List, [], ◌∷◌, map}
use mathlib.Core.Path.{◌∙◌, ◌≡◌, ap, ap₂, refl, sym}
use Prim.Native.Nat.{◌+◌, ◌-◌, ◌<◌, ◌≤◌, suc, zero, ℕ}
use native.Mathlib.Nat.{add-suc, add-zero}
use native.Mathlib.Numerals.{add-one}
use native.Mathlib.Omega.{arith}
use lib.Dec.{ltb}
use lib.IntN.{nat_abs, negsuc, pos, ℤ}
use lib.ListN.{drop, get_or, length, length-drop, take}
use lib.Seq.{get_or-drop, take_all}
use Rattle.std.proofs.lemmas.List.{get_or_default}
use lib.Signed.{le_z, lt_z}
use Rattle.std.specs.List.{IsEachAdjacentAnswer}
use Rattle.std.specs.List.Sorted.{IsPartitionPoint, IsPartitionedBy}
use Rattle.lists.specs.Integers.{elem_z, eq_z}
use Rattle.lists.specs.Lists.{any, upto}
use Rattle.lists.proofs.All.{All-all, All-upto, all-All, upto-All}
use Rattle.lists.proofs.Integers.{eq_z_eq, over_of, up, up_eq, up_le, up_lt}
use Rattle.lists.proofs.Signed.{lt_nle, nlt_le}
use Rattle.lists.proofs.Tests.{eqb_yes, leb_yes, ltb_yes, no_ge, or_split, or_true, yes_le, yes_lt}
use Rattle.spec.specs.Record.{entry_of, records_of}
use Rattle.registry.specs.Check.{is_pair}
use Rattle.registry.specs.Index.{Bracket, Indexed, placed}
use Rattle.registry.proofs.Looked.{Past, eq_z-sym, p_between, p_by, pair_between, pair_past, q_lowest}
use Rattle.registry.proofs.Ordered.{lt_z_irrefl}
use Rattle.compose.specs.Code.{is_ascending}
use Rattle.compose.specs.Walk.{least}
use Rattle.compose.proofs.Narrowing.{is_item}
use Rattle.compose.proofs.Prune.{least_is}
use Rattle.compose.proofs.Spanned.{apart}
use Rattle.compose.proofs.Turns.{least_end, least_more, least-stop}

-- ---- order
le_trans : (a b c : ℤ) → le_z a b ≡ true → le_z b c ≡ true → le_z a c ≡ true
le_trans a b c h k =
    let n = nat_abs a + nat_abs b + nat_abs c in
    let x = over_of n a (omega arith) in
    let y = over_of n b (omega arith) in
    let z = over_of n c (omega arith) in
    let d = yes_le (up n a) (up n b) (sym (up_le n a b x y) ∙ h) in
    let e = yes_le (up n b) (up n c) (sym (up_le n b c y z) ∙ k) in
    up_le n a c x z ∙ leb_yes (up n a) (up n c) (omega arith)

lt_trans_le : (a b c : ℤ) → le_z a b ≡ true → lt_z b c ≡ true → lt_z a c ≡ true
lt_trans_le a b c h k =
    let n = nat_abs a + nat_abs b + nat_abs c in
    let x = over_of n a (omega arith) in
    let y = over_of n b (omega arith) in
    let z = over_of n c (omega arith) in
    let d = yes_le (up n a) (up n b) (sym (up_le n a b x y) ∙ h) in
    let e = yes_lt (up n b) (up n c) (sym (up_lt n b c y z) ∙ k) in
    up_lt n a c x z ∙ ltb_yes (up n a) (up n c) (omega arith)

-- `<` is the other test, the other way round
pub lt_not : (v w : ℤ) → lt_z v w ≡ not (le_z w v)
lt_not v w = go (lt_z v w) refl
  where
    go : (b : Bool) → lt_z v w ≡ b → b ≡ not (le_z w v)
    go true e = sym (ap not (lt_nle v w e))
    go false e = sym (ap not (nlt_le v w e))

-- of two numbers that are not equal, where the first is not below
pub above : (v w : ℤ) → lt_z v w ≡ false → eq_z v w ≡ false → lt_z w v ≡ true
above v w h k =
    let n = nat_abs v + nat_abs w in
    let x = over_of n v (omega arith) in
    let y = over_of n w (omega arith) in
    let d = no_ge (up n v) (up n w) (sym (up_lt n v w x y) ∙ h) in
    let e : ¬ (up n v ≡ up n w) = λ i. true≢false (sym (eqb_yes (up n v) (up n w) i) ∙ sym (up_eq n v w x y) ∙ k) in
    up_lt n w v y x ∙ ltb_yes (up n w) (up n v) (omega arith)

-- numbers that a test tells apart
pub differ : (p : ℤ → Bool) (v w : ℤ) → p w ≡ true → p v ≡ false → eq_z v w ≡ false
differ p v w h k = go (eq_z v w) refl
  where
    go : (b : Bool) → eq_z v w ≡ b → b ≡ false
    go true e = sym h ∙ ap p (sym (eq_z_eq v w e)) ∙ k
    go false e = refl

-- ---- testing a list
module _ (l : List ℤ) where
  -- what `is_ascending` asks of a number
  abbrev pub rises : ℕ → Bool
  rises k = le_z (get_or l k (pos 0)) (get_or l (suc k) (pos 0))

  pub rises_at_lem : (i : ℕ) → 0 < i → le_z (get_or l (i - 1) (pos 0)) (get_or l i (pos 0)) ≡ rises (i - 1)
  rises_at_lem i h = let e : i ≡ suc (i - 1) = omega arith in ap (λ (j : ℕ). le_z (get_or l (i - 1) (pos 0)) (get_or l j (pos 0))) e

  -- ---- a list that ascends
  module _ (up : is_ascending l ≡ true) where
    rising : (i d : ℕ) → i + d < length l → le_z (get_or l i (pos 0)) (get_or l (i + d) (pos 0)) ≡ true
    rising i zero h = rw (add-zero i) (nlt_le (get_or l i (pos 0)) (get_or l i (pos 0)) (lt_z_irrefl (get_or l i (pos 0))))
    rising i (suc d) h =
        rw (add-suc i d)
        (le_trans (get_or l i (pos 0)) (get_or l (i + d) (pos 0)) (get_or l (suc (i + d)) (pos 0)) (rising i d (omega arith)) (All-upto (length l - 1) (all-All rises (upto (length l - 1)) up) (i + d) (omega arith)))

    pub ascending : (i j : ℕ) → i ≤ j → j < length l → le_z (get_or l i (pos 0)) (get_or l j (pos 0)) ≡ true
    ascending i j h k = let e : i + (j - i) ≡ j = omega arith in rw e at (rising i (j - i) (omega arith))

    pub since : (i j : ℕ) → i ≤ j → j < length l → lt_z (get_or l j (pos 0)) (get_or l i (pos 0)) ≡ false
    since i j a b = lt_not (get_or l j (pos 0)) (get_or l i (pos 0)) ∙ ap not (ascending i j a b)

-- What a comparison of each value with the next answers.
module _ (le : ℤ → ℤ → Bool) (same : (x y : ℤ) → le x y ≡ le_z x y) (l : List ℤ) where
  pub ascending_is : (r : Bool) → IsEachAdjacentAnswer (λ x y b. le x y ≡ b) l r → r ≡ is_ascending l
  ascending_is true h =
      sym (All-all (rises l) (upto-All (length l - 1) (λ k b. sym (same (get_or l k (pos 0)) (get_or l (suc k) (pos 0))) ∙ rw add-one at (h k (pos 0) (omega arith)).1)))
  ascending_is false h = go (is_ascending l) refl
    where
      go : (b : Bool) → is_ascending l ≡ b → false ≡ b
      go false e = refl
      go true e =
          let k = h.0 in
          let no : le_z (get_or l k (pos 0)) (get_or l (k + 1) (pos 0)) ≡ false = sym (same (get_or l k (pos 0)) (get_or l (k + 1) (pos 0))) ∙ (h.2 (pos 0)).1 in
          sym no ∙ ascending l e k (k + 1) (omega arith) h.1

-- What is left of a list that ascends does too.
pub ascending_drop : (l : List ℤ) → is_ascending l ≡ true → (a : ℕ) → is_ascending (drop a l) ≡ true
ascending_drop l up a =
    All-all (rises (drop a l)) (upto-All (length (drop a l) - 1) (λ k h. rw (get_or-drop a l k (pos 0), get_or-drop a l (suc k) (pos 0)) (ascending l up (a + k) (a + suc k) (omega arith) (omega (arith, length-drop a l)))))

-- ---- the first index that passes
module _ (p : ℕ → Bool) (n : ℕ) where
  passing : (d i : ℕ) → i + d ≤ n → ((k : ℕ) → i ≤ k → k < i + d → p k ≡ false) → least p i (n - i) ≡ least p (i + d) (n - (i + d))
  passing zero i h g = rw (add-zero i)
  passing (suc d) i h g =
      let e : suc i + d ≡ i + suc d = omega arith in
      least_more p n i (omega arith) (g i (omega arith) (omega arith)) ∙ passing d (suc i) (omega arith) (λ k a b. g k (omega arith) (omega arith)) ∙ ap (λ (j : ℕ). least p j (n - j)) e

  -- None from i to j passes.
  pub least_past : (i j : ℕ) → i ≤ j → j ≤ n → ((k : ℕ) → i ≤ k → k < j → p k ≡ false) → least p i (n - i) ≡ least p j (n - j)
  least_past i j h k g = let e : i + (j - i) ≡ j = omega arith in rw e at (passing (j - i) i (omega arith) (λ m a b. g m a (omega arith)))

-- None before the first passes.
pub least-before : (p : ℕ → Bool) (a k j : ℕ) → a ≤ j → j < least p a k → p j ≡ false
least-before p a zero j h l = absurd (omega arith)
least-before p a (suc k) j h l = go (p a) refl l (ltb a j) refl (least-before p (suc a) k j)
  where
    go : (b : Bool) → p a ≡ b → j < cond b a (least p (suc a) k) → (t : Bool) → ltb a j ≡ t → (suc a ≤ j → j < least p (suc a) k → p j ≡ false) → p j ≡ false
    go true e m t f ih = absurd (omega arith)
    go false e m true f ih = let g = yes_lt a j f in ih (omega arith) m
    go false e m false f ih = let g = no_ge a j f in let i : j ≡ a = omega arith in ap p i ∙ e

-- ---- the first index whose value is not below w, by halves
module _ (l : List ℤ) (w : ℤ) where
  abbrev pub not_below : ℕ → Bool
  not_below k = le_z w (get_or l k (pos 0))

  -- No value below w passes p, and the one at i is below it: the next index whose value is not below w.
  module _ (p : ℕ → Bool) (i : ℕ) (none : (j : ℕ) → i ≤ j → j < length l → lt_z (get_or l j (pos 0)) w ≡ true → p j ≡ false) (here : lt_z (get_or l i (pos 0)) w ≡ true) (inside : i < length l) where
    pub least_jump : (next : ℕ) → next ≡ least not_below (i + 1) (length l - (i + 1)) → (i < next) × (next ≤ length l) × (least p i (length l - i) ≡ least p next (length l - next))
    least_jump next n =
        let r = least_is not_below (i + 1) (length l - (i + 1)) in
        let low : i < next = omega (arith, r.above, n) in
        let high : next ≤ length l = omega (arith, r.up_to, n) in
        (low, high, least_past p (length l) i next (omega arith) high (λ j a b. none j a (omega arith) (below j a b (ltb i j) refl)))
      where
        below : (j : ℕ) → i ≤ j → j < next → (t : Bool) → ltb i j ≡ t → lt_z (get_or l j (pos 0)) w ≡ true
        below j a b true t = let d = yes_lt i j t in lt_not (get_or l j (pos 0)) w ∙ ap not (least-before not_below (i + 1) (length l - (i + 1)) j (omega arith) (omega arith))
        below j a b false t =
            let d = no_ge i j t in
            let s : j ≡ i = omega arith in
            ap (λ (m : ℕ). lt_z (get_or l m (pos 0)) w) s ∙ here

-- the point at which the values from `from` on are no longer below w
module _ (l : List ℤ) (w : ℤ) (from : ℕ) (inside : from ≤ length l) where
  abbrev rest : List ℤ
  rest = take (length l - from) (drop from l)

  rest_is : rest ≡ drop from l
  rest_is = take_all (length l - from) (drop from l) (omega (arith, length-drop from l))

  rest_long : length rest ≡ length l - from
  rest_long = ap length rest_is ∙ length-drop from l

  rest_at : (j : ℕ) → get_or rest j (pos 0) ≡ get_or l (from + j) (pos 0)
  rest_at j = ap (λ (r : List ℤ). get_or r j (pos 0)) rest_is ∙ get_or-drop from l j (pos 0)

  pub parted : is_ascending l ≡ true → IsPartitionedBy (λ (y : ℤ). lt_z y w) rest
  parted up i j d a b t =
      let e = get_or_default rest i d (pos 0) (omega arith) ∙ rest_at i in
      let f = get_or_default rest j d (pos 0) b ∙ rest_at j in
      ap (λ (x : ℤ). lt_z x w) e
      ∙ lt_trans_le (get_or l (from + i) (pos 0)) (get_or l (from + j) (pos 0)) w (ascending l up (from + i) (from + j) (omega arith) (omega (arith, rest_long))) (ap (λ (x : ℤ). lt_z x w) (sym f) ∙ t)

  pub point_is : (i : ℕ) → i ≤ length rest → IsPartitionPoint (λ (y : ℤ). lt_z y w ≡ true) (λ (y : ℤ). lt_z y w ≡ false) rest i → from + i ≡ least (not_below l w) from (length l - from)
  point_is i h p =
      sym (least_past (not_below l w) (length l) from (from + i) (omega arith) (omega (arith, rest_long)) before ∙ stop (ltb (from + i) (length l)) refl)
    where
      before : (k : ℕ) → from ≤ k → k < from + i → not_below l w k ≡ false
      before k a b =
          let e : from + (k - from) ≡ k = omega arith in
          lt_nle (get_or l k (pos 0)) w (ap (λ (j : ℕ). lt_z (get_or l j (pos 0)) w) (sym e) ∙ ap (λ (x : ℤ). lt_z x w) (sym (rest_at (k - from))) ∙ p.0 (k - from) (pos 0) (omega arith) (omega arith))

      stop : (b : Bool) → ltb (from + i) (length l) ≡ b → least (not_below l w) (from + i) (length l - (from + i)) ≡ from + i
      stop true e =
          let g = yes_lt (from + i) (length l) e in
          least-stop (not_below l w) (length l) (from + i) g (nlt_le (get_or l (from + i) (pos 0)) w (ap (λ (x : ℤ). lt_z x w) (sym (rest_at i)) ∙ p.1 i (pos 0) (omega arith) (omega (arith, rest_long))))
      stop false e = least_end (not_below l w) (length l) (from + i) (no_ge (from + i) (length l) e)

-- ---- a value of the list, by the first index whose value is not below it
module _ (w : ℤ) where
  pub elem_at : (l : List ℤ) (k : ℕ) → k < length l → eq_z w (get_or l k (pos 0)) ≡ true → elem_z w l ≡ true
  elem_at [] k h e = absurd (omega arith)
  elem_at (x ∷ l) zero h e = ap (λ (b : Bool). b || elem_z w l) e
  elem_at (x ∷ l) (suc k) h e = ap (λ (b : Bool). eq_z w x || b) (elem_at l k (omega arith) e) ∙ or_true (eq_z w x)

  pub elem_no : (l : List ℤ) → ((k : ℕ) → k < length l → eq_z w (get_or l k (pos 0)) ≡ false) → elem_z w l ≡ false
  elem_no [] h = refl
  elem_no (x ∷ l) h = ap₂ ◌||◌ (h 0 (omega arith)) (elem_no l (λ k m. h (suc k) (omega arith)))

module _ (l : List ℤ) (w : ℤ) (i : ℕ) (first : i ≡ least (not_below l w) 0 (length l - 0)) where
  unlike : (k : ℕ) → k < i → eq_z w (get_or l k (pos 0)) ≡ false
  unlike k h = (apart (get_or l k (pos 0)) w (lt_not (get_or l k (pos 0)) w ∙ ap not (least-before (not_below l w) 0 (length l - 0) k (omega arith) (omega arith)))).1

  pub elem-none : length l ≤ i → elem_z w l ≡ false
  elem-none h = elem_no w l (λ k m. unlike k (omega arith))

  pub elem-by : is_ascending l ≡ true → i < length l → eq_z (get_or l i (pos 0)) w ≡ elem_z w l
  elem-by up h = eq_z-sym (get_or l i (pos 0)) w ∙ go (eq_z w (get_or l i (pos 0))) refl
    where
      passes : le_z w (get_or l i (pos 0)) ≡ true
      passes = ap (not_below l w) first ∙ (least_is (not_below l w) 0 (length l - 0)).passes (omega (arith, first))

      later : eq_z w (get_or l i (pos 0)) ≡ false → (k : ℕ) → k < length l → (b t : Bool) → eq_z w (get_or l k (pos 0)) ≡ b → ltb k i ≡ t → b ≡ false
      later f k m false t e d = refl
      later f k m true true e d = sym e ∙ unlike k (yes_lt k i d)
      later f k m true false e d =
          let s = ap (λ (z : ℤ). lt_z z (get_or l i (pos 0))) (eq_z_eq w (get_or l k (pos 0)) e) ∙ since l up i k (no_ge k i d) m in
          sym passes ∙ lt_nle (get_or l i (pos 0)) w (above w (get_or l i (pos 0)) s f)

      go : (b : Bool) → eq_z w (get_or l i (pos 0)) ≡ b → b ≡ elem_z w l
      go true e = sym (elem_at w l i h e)
      go false e = sym (elem_no w l (λ k m. later e k m (eq_z w (get_or l k (pos 0))) (ltb k i) refl refl))

-- ---- the first index whose value is paired with v, by an index of the pairs
abbrev pub paired : List ℤ → List ℕ → ℤ → ℕ → Bool
paired l run v k = any (is_pair v (get_or l k (pos 0))) (map entry_of (records_of run))

-- k is the first place that is not below v and the value at i
module _ (l : List ℤ) (up : is_ascending l ≡ true) (run places : List ℕ) (x : Indexed run places) (v : ℤ) (i : ℕ) (inside : i < length l) (k : ℕ) (h : Bracket run places v (get_or l i (pos 0)) k k) where
  -- It has another p, or there is none: no index is left.
  pub paired_none : Past run places x v (get_or l i (pos 0)) k h → length l ≡ least (paired l run v) i (length l - i)
  paired_none g =
      sym (least_past (paired l run v) (length l) i (length l) (omega arith) (omega arith) (λ j a b. pair_past run places x v (get_or l i (pos 0)) k h g (get_or l j (pos 0)) (since l up i j a b))
      ∙ least_end (paired l run v) (length l) (length l) (omega arith))

  -- Its q is above the value: the next index whose value is not below q.
  module _ (m : k < length places) (e : eq_z (placed run places k).p v ≡ true) (f : eq_z (placed run places k).q (get_or l i (pos 0)) ≡ false) where
    abbrev q : ℤ
    q = (placed run places k).q

    beyond : lt_z (get_or l i (pos 0)) q ≡ true
    beyond =
        let a = (or_split (lt_z (placed run places k).p v) (eq_z (placed run places k).p v && lt_z q (get_or l i (pos 0))) (h.rest k (omega arith) m)).1 in
        above q (get_or l i (pos 0)) (ap (λ (b : Bool). b && lt_z q (get_or l i (pos 0))) (sym e) ∙ a) f

    pub paired_jump : (next : ℕ) → next ≡ least (not_below l q) (i + 1) (length l - (i + 1)) → (i < next) × (next ≤ length l) × (least (paired l run v) i (length l - i) ≡ least (paired l run v) next (length l - next))
    paired_jump = least_jump l q (paired l run v) i (λ j a b u. pair_between run places x v (get_or l i (pos 0)) k h m e (get_or l j (pos 0)) (since l up i j a b) u) beyond inside

-- ---- the first index whose value is an item, by an index of the items
abbrev pub listed : List ℤ → List ℕ → ℕ → Bool
listed l run k = is_item run (get_or l k (pos 0))

-- k is the first place whose p is not below the value at i
module _ (l : List ℤ) (up : is_ascending l ≡ true) (run places : List ℕ) (x : Indexed run places) (i : ℕ) (inside : i < length l) (k : ℕ) (h : Bracket run places (get_or l i (pos 0)) (negsuc 0x7fff_ffff_ffff_ffff) k k) where
  abbrev p : ℤ
  p = (placed run places k).p

  unlisted : (j : ℕ) → i ≤ j → j < length l → (k < length places → lt_z (get_or l j (pos 0)) p ≡ true) → listed l run j ≡ false
  unlisted j a b = p_between run places x (get_or l i (pos 0)) (negsuc 0x7fff_ffff_ffff_ffff) k h (λ m. q_lowest run (get_or places m 0)) (get_or l j (pos 0)) (since l up i j a b)

  -- There is none: no index is left.
  pub listed_none : length places ≤ k → length l ≡ least (listed l run) i (length l - i)
  listed_none n =
      sym (least_past (listed l run) (length l) i (length l) (omega arith) (omega arith) (λ j a b. unlisted j a b (λ m. absurd (omega arith)))
      ∙ least_end (listed l run) (length l) (length l) (omega arith))

  module _ (m : k < length places) where
    -- It is the value, or not.
    pub listed_by : eq_z p (get_or l i (pos 0)) ≡ listed l run i
    listed_by = p_by run places x (get_or l i (pos 0)) (negsuc 0x7fff_ffff_ffff_ffff) k h (λ m. q_lowest run (get_or places m 0)) m

    -- It is above the value: the next index whose value is not below it.
    pub listed_jump : eq_z p (get_or l i (pos 0)) ≡ false → (next : ℕ) → next ≡ least (not_below l p) (i + 1) (length l - (i + 1)) → (i < next) × (next ≤ length l) × (least (listed l run) i (length l - i) ≡ least (listed l run) next (length l - next))
    listed_jump f = least_jump l p (listed l run) i (λ j a b u. unlisted j a b (λ n. u)) (above p (get_or l i (pos 0)) (or_split (lt_z p (get_or l i (pos 0))) (eq_z p (get_or l i (pos 0)) && lt_z (placed run places k).q (negsuc 0x7fff_ffff_ffff_ffff)) (h.rest k (omega arith) m)).0 f) inside
