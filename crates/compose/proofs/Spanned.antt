-- What the places of the records whose p is v give.
use mathlib.Core.Bool.{Bool, ◌&&◌, ◌||◌, cond, false, true, true≢false}
use mathlib.Core.List.{List, ◌∷◌, map}
use mathlib.Core.Path.{◌∙◌, ◌≡◌, ap, ap₂, refl, sym}
use Prim.Native.Nat.{◌*◌, ◌+◌, ◌-◌, ◌<◌, ◌^◌, ◌≤◌, suc, zero, ℕ}
use native.Mathlib.Omega.{arith}
use lib.Dec.{eqb, ltb}
use lib.IntN.{◌+ℤ◌, nat_abs, negsuc, pos, ℤ}
use lib.ListN.{drop, get_or, length, length-drop, take}
use lib.Seq.{drop-cons, drop-drop, get_or-drop, get_or-take, length-take-le}
use lib.Signed.{lt_z}
use mir.Syntax.{w64}
use mir.Val.{SFits}
use Rattle.lists.proofs.Integers.{eq_z_eq, eq_z-refl, over_of, up, up_add, up_eq, up_lt}
use Rattle.lists.proofs.Lists.{any-map}
use Rattle.lists.proofs.Tests.{and-false, eqb_no, eqb_yes, ltb_no, ltb_yes, no_ge, or_false, yes_lt}
use Rattle.lists.specs.Integers.{elem_z, eq_z, little_endian, signed64}
use Rattle.lists.specs.Lists.{any, span}
use Rattle.spec.specs.Code.{ps_of}
use Rattle.spec.specs.Record.{Record, entry_of, record_at, record_of, records_of}
use Rattle.registry.proofs.Cross.{any_pair}
use Rattle.registry.proofs.Halves.{any_halves}
use Rattle.registry.proofs.Looked.{any_get, any_no, eq_z-sym, q_lowest}
use Rattle.registry.specs.Check.{is_pair}
use Rattle.registry.specs.Index.{Bracket, Indexed, Spans, is_below, placed}
use Rattle.compose.specs.Code.{between, pairs_at}

-- Of two numbers the first is below the other.
pub apart : (v w : ℤ) → lt_z v w ≡ true → (lt_z w v ≡ false) × (eq_z w v ≡ false)
apart v w h =
    let n = nat_abs v + nat_abs w in
    let x = over_of n v (omega arith) in
    let y = over_of n w (omega arith) in
    let l = yes_lt (up n v) (up n w) (sym (up_lt n v w x y) ∙ h) in
    (up_lt n w v y x ∙ ltb_no (up n w) (up n v) (omega arith), up_eq n w v y x ∙ eqb_no (up n w) (up n v) (λ e. omega arith))

-- The records at some of the places, by the numbers of these.
records-between : (f : ℕ → Record) (places : List ℕ) (low n : ℕ) → low + n ≤ length places → map f (take n (drop low places)) ≡ map (λ k. f (get_or places k 0)) (span low n)
records-between f places low zero h = refl
records-between f places low (suc n) h =
    ap (λ (l : List ℕ). map f (take (suc n) l)) (drop-cons places low 0 (omega arith))
    ∙ ap (λ (rs : List Record). f (get_or places low 0) ∷ rs) (records-between f places (suc low) n (omega arith))

module _ (run places : List ℕ) (v : ℤ) (low high : ℕ) (s : Spans run places v low high) where
  abbrev at : ℕ → Record
  at k = placed run places k

  before-span : (k : ℕ) → k < low → eq_z v (at k).p ≡ false
  before-span k l = (apart (at k).p v (s.below k l)).1

  in_span : (k : ℕ) → low ≤ k → k < high → eq_z v (at k).p ≡ true
  in_span k l m = ap (eq_z v) (s.same k l m) ∙ eq_z-refl v

  after-span : (k : ℕ) → high ≤ k → k < length places → eq_z v (at k).p ≡ false
  after-span k l m = eq_z-sym v (at k).p ∙ (apart v (at k).p (s.above k l m)).1

  -- as a test asks for p v, only the places of the span count
  module _ (x : Indexed run places) (a : Record → Bool) (other : (r : Record) → eq_z v r.p ≡ false → a r ≡ false) where
    abbrev here : List ℕ → Bool
    here l = any a (map (record_at run) l)

    first : here (take low places) ≡ false
    first = any_no a (record_at run) (take low places) (λ m l. let k : m < low = omega (arith, length-take-le low places (omega (arith, s.low_le, s.high_le))) in rw (get_or-take low places m 0 k) (other (at m) (before-span m k)))

    last : here (drop (high - low) (drop low places)) ≡ false
    last =
        let e : low + (high - low) ≡ high = omega (arith, s.low_le) in
        ap here (drop-drop (high - low) low places ∙ ap (λ (n : ℕ). drop n places) e)
        ∙ any_no a (record_at run) (drop high places) (λ m l. rw (get_or-drop high places m 0) (other (at (high + m)) (after-span (high + m) (omega arith) (omega (arith, length-drop high places)))))

    span-any : any a (records_of run) ≡ any a (map (placed run places) (between low high))
    span-any =
        sym (x.whole a)
        ∙ any_halves a run places low
        ∙ ap₂ ◌||◌ first (any_halves a run (drop low places) (high - low) ∙ ap (λ (b : Bool). here (take (high - low) (drop low places)) || b) last ∙ or_false _)
        ∙ ap (any a) (records-between (record_at run) places low (high - low) (omega (arith, s.low_le, s.high_le)))

  -- v and w are a pair exactly where the record at a place of the span is one.
  pub span_pairs : Indexed run places → (w : ℤ) → any (is_pair v w) (map entry_of (records_of run)) ≡ any (pairs_at v w) (map (placed run places) (between low high))
  span_pairs x w = any_pair v w (records_of run) ∙ span-any x (pairs_at v w) other
    where
      other : (r : Record) → eq_z v r.p ≡ false → pairs_at v w r ≡ false
      other r e = ap (λ (b : Bool). (eqb r.code 4 && b) && eq_z w r.q) e ∙ ap (λ (b : Bool). b && eq_z w r.q) (and-false (eqb r.code 4))

  abbrev is_it : Record → Bool
  is_it r = eq_z v r.p

  -- v is a p exactly where the span has a place.
  pub span_key : Indexed run places → elem_z v (ps_of (records_of run)) ≡ ltb low high
  span_key x = any-map (eq_z v) (λ (r : Record). r.p) (records_of run) ∙ sym (x.whole is_it) ∙ go (ltb low high) refl
    where
      go : (t : Bool) → ltb low high ≡ t → any is_it (map (record_at run) places) ≡ t
      go true e = let l = yes_lt low high e in any_get is_it (record_at run) places low (omega (arith, s.high_le)) (in_span low (omega arith) l)
      go false e = any_no is_it (record_at run) places (λ m k. at_no m k (ltb m low) refl)
        where
          at_no : (m : ℕ) → m < length places → (t : Bool) → ltb m low ≡ t → eq_z v (at m).p ≡ false
          at_no m k true d = before-span m (yes_lt m low d)
          at_no m k false d = let n = no_ge m low d in after-span m (omega (arith, no_ge low high e)) k

-- ---- where the places of a key begin and end
abbrev lowest : ℤ
lowest = negsuc 0x7fff_ffff_ffff_ffff

-- what is not below v + 1 is above v
next-above : (p v : ℤ) → lt_z p (v +ℤ pos 1) ≡ false → lt_z v p ≡ true
next-above p v h =
    let n = nat_abs p + nat_abs v in
    let a = over_of n p (omega arith) in
    let b = over_of n v (omega arith) in
    let d = up_add n v 1 b in
    let e = no_ge (up n p) (up n (v +ℤ pos 1)) (sym (up_lt n p (v +ℤ pos 1) a d.0) ∙ h) in
    up_lt n v p b a ∙ ltb_yes (up n v) (up n p) (omega (arith, d.1))

-- what is below v + 1, and not below v, is v
next-same : (p v : ℤ) → lt_z p v ≡ false → lt_z p (v +ℤ pos 1) ≡ true → p ≡ v
next-same p v g h =
    let n = nat_abs p + nat_abs v in
    let a = over_of n p (omega arith) in
    let b = over_of n v (omega arith) in
    let d = up_add n v 1 b in
    let e = no_ge (up n p) (up n v) (sym (up_lt n p v a b) ∙ g) in
    let f = yes_lt (up n p) (up n (v +ℤ pos 1)) (sym (up_lt n p (v +ℤ pos 1) a d.0) ∙ h) in
    eq_z_eq p v (up_eq n p v a b ∙ eqb_yes (up n p) (up n v) (omega (arith, d.1)))

-- every 64-bit number is below 2^63
signed-highest : (n : ℕ) → lt_z (signed64 n) (pos 0x8000_0000_0000_0000) ≡ true
signed-highest n = go (ltb n (2 ^ 63)) refl
  where
    go : (b : Bool) → ltb n (2 ^ 63) ≡ b → lt_z (cond b (pos n) (negsuc (2 ^ 64 - suc n))) (pos 0x8000_0000_0000_0000) ≡ true
    go true e = e
    go false e = refl

p-highest : (run : List ℕ) (i : ℕ) → lt_z (record_at run i).p (pos 0x8000_0000_0000_0000) ≡ true
unfolding record_of
p-highest run i = signed-highest (little_endian (take 8 (drop 8 (take 32 (drop (i * 32) run)))))

module _ (run places : List ℕ) (v : ℤ) (low : ℕ) (h : Bracket run places v lowest low low) where
  abbrev its : ℕ → Record
  its k = placed run places k

  -- only p counts
  by-p : (x : ℤ) (k : ℕ) → is_below x lowest (its k) ≡ lt_z (its k).p x
  by-p x k =
      ap (λ (b : Bool). lt_z (its k).p x || (eq_z (its k).p x && b)) (q_lowest run (get_or places k 0))
      ∙ ap (λ (b : Bool). lt_z (its k).p x || b) (and-false (eq_z (its k).p x))
      ∙ or_false (lt_z (its k).p x)

  -- the p of those before `high` are below v + 1, of the others not
  module _ (high : ℕ) (inside : high ≤ length places) (under : (k : ℕ) → k < high → lt_z (its k).p (v +ℤ pos 1) ≡ true) (over : (k : ℕ) → high ≤ k → k < length places → lt_z (its k).p (v +ℤ pos 1) ≡ false) where
    lower-p : (k : ℕ) → k < low → lt_z (its k).p v ≡ true
    lower-p k l = sym (by-p v k) ∙ h.below k l

    higher-p : (k : ℕ) → high ≤ k → k < length places → lt_z v (its k).p ≡ true
    higher-p k l m = next-above (its k).p v (over k l m)

    in_order : low ≤ high
    in_order = go (ltb high low) refl
      where
        go : (b : Bool) → ltb high low ≡ b → low ≤ high
        go true e = let l = yes_lt high low e in absurd (true≢false (sym (lower-p high l) ∙ (apart v (its high).p (higher-p high (omega arith) (omega (arith, h.high_le)))).0))
        go false e = no_ge high low e

    spans : Spans run places v low high
    spans = record {
      low_le = in_order;
      high_le = inside;
      below = lower-p;
      same = λ k l m. next-same (its k).p v (sym (by-p v k) ∙ h.rest k l (omega arith)) (under k m);
      above = higher-p;
    }

  pub to_end : v +ℤ pos 1 ≡ pos 0x8000_0000_0000_0000 → Spans run places v low (length places)
  to_end e = spans (length places) (omega arith) (λ k l. ap (lt_z (its k).p) e ∙ p-highest run (get_or places k 0)) (λ k l m. absurd (omega arith))

  pub to-next : (high : ℕ) → Bracket run places (v +ℤ pos 1) lowest high high → Spans run places v low high
  to-next high g = spans high g.high_le (λ k l. sym (by-p (v +ℤ pos 1) k) ∙ g.below k l) (λ k l m. sym (by-p (v +ℤ pos 1) k) ∙ g.rest k l m)

-- what has no next is the highest number
pub last-one : (v : ℤ) → SFits w64 v → ¬ SFits w64 (v +ℤ pos 1) → v +ℤ pos 1 ≡ pos 0x8000_0000_0000_0000
last-one (pos a) f n =
    let big : ¬ (a + 1 < 0x8000_0000_0000_0000) = λ h. n (record { sfits = h }) in
    let top : a + 1 ≡ 0x8000_0000_0000_0000 = omega (arith, f.sfits) in
    ap pos top
last-one (negsuc zero) f n = absurd (n (record { sfits = omega arith }))
last-one (negsuc (suc a)) f n = absurd (n (rw (ltb_yes 1 (suc (suc a)) (omega arith)) record { sfits = omega (arith, f.sfits) }))
