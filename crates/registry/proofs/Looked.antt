-- What looking up in an index gives: k is the first place that is not below (v, w).
use mathlib.Core.Bool.{Bool, ◌&&◌, ◌||◌, cond, false, not, true, true≢false}
use mathlib.Core.List.{List, [], ◌∷◌, map}
use mathlib.Core.Logic.{◌⊎◌, inl, inr}
use mathlib.Core.Path.{◌∙◌, ◌≡◌, ap, ap₂, refl, subst, sym}
use Prim.Native.Nat.{◌*◌, ◌-◌, ◌<◌, ◌^◌, ◌≤◌, suc, zero, ℕ}
use native.Mathlib.Omega.{arith}
use lib.Dec.{eqb, ltb}
use lib.IntN.{negsuc, pos, ℤ}
use lib.ListN.{drop, get_or, length, take}
use lib.Signed.{lt_z}
use Rattle.lists.proofs.Integers.{eq_z_eq, eq_z-refl}
use Rattle.lists.proofs.Lists.{any-map}
use Rattle.lists.proofs.Tests.{and-false, and-join, bool_ext, ltb_no, no_ge, or_split, or_true, yes_lt}
use Rattle.lists.specs.Integers.{elem_z, eq_z, little_endian, signed64}
use Rattle.lists.specs.Lists.{any}
use Rattle.spec.specs.Code.{ps_of}
use Rattle.spec.specs.Record.{Record, entry_of, record_at, record_of, records_of}
use Rattle.registry.specs.Check.{cross_allows, is_pair}
use Rattle.registry.specs.Index.{Bracket, Indexed, placed}
use Rattle.registry.proofs.Cross.{any_key, any_pair, pairs, pairs_entry}
use Rattle.registry.proofs.Ordered.{lt_z_irrefl, under, under_antisym, under_asym, under_between, under_none}

-- No 64-bit number is below the lowest.
signed_lowest : (n : ℕ) → lt_z (signed64 n) (negsuc 0x7fff_ffff_ffff_ffff) ≡ false
signed_lowest n = go (ltb n (2 ^ 63)) refl
  where
    go : (b : Bool) → ltb n (2 ^ 63) ≡ b → lt_z (cond b (pos n) (negsuc (2 ^ 64 - suc n))) (negsuc 0x7fff_ffff_ffff_ffff) ≡ false
    go true e = refl
    go false e = let h = no_ge n (2 ^ 63) e in ltb_no 0x7fff_ffff_ffff_ffff (2 ^ 64 - suc n) (omega arith)

pub q_lowest : (run : List ℕ) (i : ℕ) → lt_z (record_at run i).q (negsuc 0x7fff_ffff_ffff_ffff) ≡ false
unfolding record_of
q_lowest run i = signed_lowest (little_endian (take 8 (drop 16 (take 32 (drop (i * 32) run)))))

pub eq_z-sym : (v w : ℤ) → eq_z v w ≡ eq_z w v
eq_z-sym v w = bool_ext (eq_z v w) (eq_z w v) (go v w) (go w v)
  where
    go : (a b : ℤ) → eq_z a b ≡ true → eq_z b a ≡ true
    go a b e = subst (λ (x : ℤ). eq_z x a ≡ true) (eq_z_eq a b e) (eq_z-refl a)

-- of two points with the same p, the one with the lower q is below the other
under_some : (v q w : ℤ) → lt_z q w ≡ true → under v q v w ≡ true
under_some v q w h = rw (eq_z-refl v, h) (or_true (lt_z v v))

module _ (test : Record → Bool) (f : ℕ → Record) where
  pub any_get : (l : List ℕ) (m : ℕ) → m < length l → test (f (get_or l m 0)) ≡ true → any test (map f l) ≡ true
  any_get [] m h e = absurd (omega arith)
  any_get (y ∷ l) zero h e = ap (λ (b : Bool). b || any test (map f l)) e
  any_get (y ∷ l) (suc m) h e = ap (λ (b : Bool). test (f y) || b) (any_get l m (omega arith) e) ∙ or_true (test (f y))

  pub any_no : (l : List ℕ) → ((m : ℕ) → m < length l → test (f (get_or l m 0)) ≡ false) → any test (map f l) ≡ false
  any_no [] h = refl
  any_no (y ∷ l) h = ap₂ (λ (a b : Bool). a || b) (h 0 (omega arith)) (any_no l (λ m k. h (suc m) (omega arith)))

-- a test that is false because it is not true
refuted : (b : Bool) → (b ≡ true → ⊥) → b ≡ false
refuted true h = absurd (h refl)
refuted false h = refl

pairs_no : (v w : ℤ) (m : Record) → (eq_z v m.p ≡ true → eq_z w m.q ≡ true → ⊥) → pairs v w m ≡ false
pairs_no v w m h = go (eqb m.code 4) (eq_z v m.p) (eq_z w m.q) h
  where
    go : (a b c : Bool) → (b ≡ true → c ≡ true → ⊥) → (a && b && c) ≡ false
    go false b c g = refl
    go true false c g = refl
    go true true false g = refl
    go true true true g = absurd (g refl refl)

module _ (run places : List ℕ) (x : Indexed run places) (v w : ℤ) (k : ℕ) (h : Bracket run places v w k k) where
  abbrev at : ℕ → Record
  at m = placed run places m

  abbrev is_it : Record → Bool
  is_it r = eq_z v r.p

  seen : (test : Record → Bool) (m : ℕ) → m < length places → test (at m) ≡ true → any test (records_of run) ≡ true
  seen test m l e = sym (x.whole test) ∙ any_get test (record_at run) places m l e

  unseen : (test : Record → Bool) → ((m : ℕ) → m < length places → test (at m) ≡ false) → any test (records_of run) ≡ false
  unseen test g = sym (x.whole test) ∙ any_no test (record_at run) places g

  -- Place k has another p, or there is none.
  abbrev pub Past : Type 0
  Past = (length places ≤ k) ⊎ ((k < length places) × (eq_z v (at k).p ≡ false))

  past : Past → (m : ℕ) → k ≤ m → m < length places → eq_z v (at m).p ≡ false
  past (inl n) m l b = absurd (omega arith)
  past (inr n) m l b = refuted (eq_z v (at m).p) (λ e. go e (ltb k m) refl)
    where
      go : eq_z v (at m).p ≡ true → (t : Bool) → ltb k m ≡ t → ⊥
      go e true t =
          let s : (at m).p ≡ v = sym (eq_z_eq v (at m).p e) in
          let r = subst (λ (z : ℤ). under z (at m).q (at k).p (at k).q ≡ false) s (x.sorted.rising k m (yes_lt k m t) b) in
          let i : (at k).p ≡ v = under_between (at k).p (at k).q v w (at m).q (h.rest k (omega arith) n.0) r in
          true≢false (sym (ap (eq_z v) i ∙ eq_z-refl v) ∙ n.1)
      go e false t = let g = no_ge k m t in let i : k ≡ m = omega arith in true≢false (sym e ∙ subst (λ (z : ℕ). eq_z v (at z).p ≡ false) i n.1)

  -- ---- the value as a p
  module _ (low : (m : ℕ) → lt_z (at m).q w ≡ false) where
    -- before place k no p is v or above it
    before_low : (y : ℤ) → lt_z y v ≡ false → (m : ℕ) → m < k → eq_z y (at m).p ≡ false
    before_low y g m l =
        let n : under y (at m).q v w ≡ false = ap₂ (λ (a b : Bool). a || (eq_z y v && b)) g (low m) ∙ and-false (eq_z y v) in
        refuted (eq_z y (at m).p) (λ e. true≢false (sym (h.below m l) ∙ subst (λ (z : ℤ). under z (at m).q v w ≡ false) (eq_z_eq y (at m).p e) n))

    none_p : Past → any is_it (records_of run) ≡ false
    none_p g = unseen is_it (λ m l. go m l (ltb m k) refl)
      where
        go : (m : ℕ) → m < length places → (t : Bool) → ltb m k ≡ t → eq_z v (at m).p ≡ false
        go m l true t = before_low v (lt_z_irrefl v) m (yes_lt m k t)
        go m l false t = past g m (no_ge m k t) l

    pub p_none : length places ≤ k → false ≡ elem_z v (ps_of (records_of run))
    p_none l = sym (any-map (eq_z v) (λ (r : Record). r.p) (records_of run) ∙ none_p (inl l))

    pub p_by : k < length places → eq_z (at k).p v ≡ elem_z v (ps_of (records_of run))
    p_by l = eq_z-sym (at k).p v ∙ go (eq_z v (at k).p) refl ∙ sym (any-map (eq_z v) (λ (r : Record). r.p) (records_of run))
      where
        go : (t : Bool) → eq_z v (at k).p ≡ t → t ≡ any is_it (records_of run)
        go true e = sym (seen is_it k l e)
        go false e = sym (none_p (inr (l, e)))

    -- A value from v on that is below the p at place k, or any where there is no place k, is no p.
    pub p_between : (y : ℤ) → lt_z y v ≡ false → (k < length places → lt_z y (at k).p ≡ true) → elem_z y (ps_of (records_of run)) ≡ false
    p_between y n u = any-map (eq_z y) (λ (r : Record). r.p) (records_of run) ∙ unseen (λ (r : Record). eq_z y r.p) (λ m l. go m l (ltb m k) refl)
      where
        later : (m : ℕ) → m < length places → (t : Bool) → ltb k m ≡ t → k ≤ m → lt_z (at m).p (at k).p ≡ false
        later m l true t g = (or_split (lt_z (at m).p (at k).p) (eq_z (at m).p (at k).p && lt_z (at m).q (at k).q) (x.sorted.rising k m (yes_lt k m t) l)).0
        later m l false t g =
            let c = no_ge k m t in
            let i : m ≡ k = omega arith in
            ap (λ (j : ℕ). lt_z (at j).p (at k).p) i ∙ lt_z_irrefl (at k).p

        go : (m : ℕ) → m < length places → (t : Bool) → ltb m k ≡ t → eq_z y (at m).p ≡ false
        go m l true t = before_low y n m (yes_lt m k t)
        go m l false t =
            let g = no_ge m k t in
            refuted (eq_z y (at m).p) (λ e. true≢false (sym (u (omega arith)) ∙ ap (λ (z : ℤ). lt_z z (at k).p) (eq_z_eq y (at m).p e) ∙ later m l (ltb k m) refl g))

  -- ---- the values as a pair
  cross_is : cross_allows (map entry_of (records_of run)) v w ≡ (not (any is_it (records_of run)) || any (pairs v w) (records_of run))
  cross_is = ap₂ (λ (a b : Bool). not a || b) (any_key v (records_of run) ∙ any-map (eq_z v) (λ (r : Record). r.p) (records_of run)) (any_pair v w (records_of run))

  -- no place before k pairs v with a value from w on
  pair_before : (y : ℤ) → lt_z y w ≡ false → (m : ℕ) → m < k → pairs v y (at m) ≡ false
  pair_before y g m l = pairs_no v y (at m) (λ e f. true≢false (sym (h.below m l) ∙ ap₂ (λ (a b : ℤ). under a b v w) (sym (eq_z_eq v (at m).p e)) (sym (eq_z_eq y (at m).q f)) ∙ under_none v y w g))

  -- v and w are a pair where they are one at a place.
  pub pair_here : (j : ℕ) → j < length places → is_pair v w (entry_of (at j)) ≡ true → true ≡ any (is_pair v w) (map entry_of (records_of run))
  pair_here j l e = sym (any_pair v w (records_of run) ∙ seen (pairs v w) j l (pairs_entry v w (at j) ∙ e))

  -- Place j has another p or q, or there is none.
  abbrev pub Behind : ℕ → Type 0
  Behind j = (length places ≤ j) ⊎ ((j < length places) × ((eq_z v (at j).p && eq_z w (at j).q) ≡ false))

  -- They are none where they are none at the places from k to before such a place.
  pub pair_behind : (j : ℕ) → k ≤ j → ((m : ℕ) → k ≤ m → m < j → is_pair v w (entry_of (at m)) ≡ false) → Behind j → false ≡ any (is_pair v w) (map entry_of (records_of run))
  pair_behind j f none behind = sym (any_pair v w (records_of run) ∙ unseen (pairs v w) (λ m l. go m l (ltb m k) refl (ltb m j) refl))
    where
      later : Behind j → (m : ℕ) → m < length places → j ≤ m → eq_z v (at m).p ≡ true → eq_z w (at m).q ≡ true → (t : Bool) → ltb j m ≡ t → ⊥
      later (inl n) m l g a b t e = omega arith
      later (inr n) m l g a b true t =
          let r = ap₂ (λ (y z : ℤ). under y z (at j).p (at j).q) (eq_z_eq v (at m).p a) (eq_z_eq w (at m).q b) ∙ x.sorted.rising j m (yes_lt j m t) l in
          let u = h.rest j f n.0 in
          let p : (at j).p ≡ v = under_between (at j).p (at j).q v w w u r in
          let q : (at j).q ≡ w = under_antisym (at j).p (at j).q v w u r in
          true≢false (sym (and-join (ap (eq_z v) p ∙ eq_z-refl v) (ap (eq_z w) q ∙ eq_z-refl w)) ∙ n.1)
      later (inr n) m l g a b false t =
          let c = no_ge j m t in
          let i : m ≡ j = omega arith in
          true≢false (sym (subst (λ (z : ℕ). (eq_z v (at z).p && eq_z w (at z).q) ≡ true) i (and-join a b)) ∙ n.1)

      go : (m : ℕ) → m < length places → (t : Bool) → ltb m k ≡ t → (s : Bool) → ltb m j ≡ s → pairs v w (at m) ≡ false
      go m l true t s u = pair_before w (lt_z_irrefl w) m (yes_lt m k t)
      go m l false t true u = pairs_entry v w (at m) ∙ none m (no_ge m k t) (yes_lt m j u)
      go m l false t false u = pairs_no v w (at m) (λ a b. later behind m l (no_ge m j u) a b (ltb j m) refl)

  -- Place k has another p, or there is none: v is paired with no value from w on.
  pub pair_past : Past → (y : ℤ) → lt_z y w ≡ false → any (is_pair v y) (map entry_of (records_of run)) ≡ false
  pair_past g y n = any_pair v y (records_of run) ∙ unseen (pairs v y) (λ m l. go m l (ltb m k) refl)
    where
      go : (m : ℕ) → m < length places → (t : Bool) → ltb m k ≡ t → pairs v y (at m) ≡ false
      go m l true t = pair_before y n m (yes_lt m k t)
      go m l false t = pairs_no v y (at m) (λ a b. true≢false (sym a ∙ past g m (no_ge m k t) l))

  module _ (l : k < length places) (e : eq_z (at k).p v ≡ true) where
    key_at_lem : any is_it (records_of run) ≡ true
    key_at_lem = seen is_it k l (eq_z-sym v (at k).p ∙ e)

    -- v is paired with no value from w on that is below the q at place k.
    pub pair_between : (y : ℤ) → lt_z y w ≡ false → lt_z y (at k).q ≡ true → any (is_pair v y) (map entry_of (records_of run)) ≡ false
    pair_between y n u = any_pair v y (records_of run) ∙ unseen (pairs v y) (λ m g. go m g (ltb m k) refl)
      where
        later : (m : ℕ) → m < length places → k ≤ m → eq_z v (at m).p ≡ true → eq_z y (at m).q ≡ true → (t : Bool) → ltb k m ≡ t → ⊥
        later m g o a b true t =
            let r = ap₂ (λ (c d : ℤ). under c d (at k).p (at k).q) (eq_z_eq v (at m).p a) (eq_z_eq y (at m).q b) ∙ x.sorted.rising k m (yes_lt k m t) g in
            let s : under v y v (at k).q ≡ false = ap (λ (c : ℤ). under v y c (at k).q) (sym (eq_z_eq (at k).p v e)) ∙ r in
            true≢false (sym (under_some v y (at k).q u) ∙ s)
        later m g o a b false t =
            let c = no_ge k m t in
            let i : m ≡ k = omega arith in
            true≢false (sym u ∙ ap (λ (j : ℕ). lt_z y (at j).q) (sym i) ∙ ap (λ (z : ℤ). lt_z y z) (sym (eq_z_eq y (at m).q b)) ∙ lt_z_irrefl y)

        go : (m : ℕ) → m < length places → (t : Bool) → ltb m k ≡ t → pairs v y (at m) ≡ false
        go m g true t = pair_before y n m (yes_lt m k t)
        go m g false t = pairs_no v y (at m) (λ a b. later m g (no_ge m k t) a b (ltb k m) refl)

    -- A key is let through with those that it is paired with.
    pub cross_key : any (is_pair v w) (map entry_of (records_of run)) ≡ cross_allows (map entry_of (records_of run)) v w
    cross_key = sym (ap (λ (a : Bool). not a || any (is_pair v w) (map entry_of (records_of run))) (any_key v (records_of run) ∙ any-map (eq_z v) (λ (r : Record). r.p) (records_of run) ∙ key_at_lem))

  module _ (g : Past) where
    pub cross_first : k ≡ 0 → true ≡ cross_allows (map entry_of (records_of run)) v w
    cross_first e = sym (cross_is ∙ ap (λ (a : Bool). not a || any (pairs v w) (records_of run)) (unseen is_it (λ m l. past g m (omega arith) l)))

    pub cross_last : ¬ (k ≡ 0) → not (eq_z (at (k - 1)).p v) ≡ cross_allows (map entry_of (records_of run)) v w
    cross_last e = ap not (eq_z-sym (at (k - 1)).p v) ∙ go (eq_z v (at (k - 1)).p) refl ∙ sym cross_is
      where
        here : k - 1 < length places
        here = omega (arith, h.high_le)

        no_pair : (m : ℕ) → m < length places → (t : Bool) → ltb m k ≡ t → pairs v w (at m) ≡ false
        no_pair m l true t = pair_before w (lt_z_irrefl w) m (yes_lt m k t)
        no_pair m l false t = pairs_no v w (at m) (λ a b. true≢false (sym a ∙ past g m (no_ge m k t) l))

        earlier : (m : ℕ) → m < length places → m < k → eq_z v (at (k - 1)).p ≡ false → eq_z v (at m).p ≡ true → (t : Bool) → ltb m (k - 1) ≡ t → ⊥
        earlier m l n f a true t =
            let r = ap (λ (z : ℤ). under (at (k - 1)).p (at (k - 1)).q z (at m).q) (eq_z_eq v (at m).p a) ∙ x.sorted.rising m (k - 1) (yes_lt m (k - 1) t) here in
            let u = under_asym (at (k - 1)).p (at (k - 1)).q v w (h.below (k - 1) (omega arith)) in
            let i : (at (k - 1)).p ≡ v = under_between (at (k - 1)).p (at (k - 1)).q v (at m).q w r u in
            true≢false (sym (ap (eq_z v) i ∙ eq_z-refl v) ∙ f)
        earlier m l n f a false t = let c = no_ge m (k - 1) t in let i : m ≡ k - 1 = omega arith in true≢false (sym a ∙ subst (λ (z : ℕ). eq_z v (at z).p ≡ false) (sym i) f)

        no_key : eq_z v (at (k - 1)).p ≡ false → (m : ℕ) → m < length places → (t : Bool) → ltb m k ≡ t → eq_z v (at m).p ≡ false
        no_key f m l true t = refuted (eq_z v (at m).p) (λ a. earlier m l (yes_lt m k t) f a (ltb m (k - 1)) refl)
        no_key f m l false t = past g m (no_ge m k t) l

        go : (t : Bool) → eq_z v (at (k - 1)).p ≡ t → not t ≡ (not (any is_it (records_of run)) || any (pairs v w) (records_of run))
        go true f = sym (ap₂ (λ (a b : Bool). not a || b) (seen is_it (k - 1) here f) (unseen (pairs v w) (λ m l. no_pair m l (ltb m k) refl)))
        go false f = sym (ap (λ (a : Bool). not a || any (pairs v w) (records_of run)) (unseen is_it (λ m l. no_key f m l (ltb m k) refl)))
