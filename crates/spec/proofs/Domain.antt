-- What stands in a domain.
use mathlib.Core.Bool.{Bool, ◌&&◌, ◌||◌, cond, false, false≢true, true}
use mathlib.Core.List.{List, [], ◌∷◌}
use mathlib.Core.Path.{◌∙◌, ◌≡◌, ap, refl, sym}
use Prim.Native.Nat.{◌%◌, ◌*◌, ◌+◌, ◌-◌, ◌/◌, ◌<◌, ◌≤◌, suc, zero, ℕ}
use native.Mathlib.Nat.{add-mod, add-mul, add-mul-mod_self_right, div-add-mod', div-mul-le_self, le-div_iff_mul-le, le_refl, lt-div-mul-add, lt_of_mul-lt-mul_right, mod-mod, mod-one, mul-mod_left, zero-add}
use native.Mathlib.Omega.{arith}
use lib.Dec.{eqb}
use lib.IntN.{◌+ℤ◌, nat_abs, negsuc, pos, ℤ}
use lib.ListN.{length}
use lib.Signed.{le_z, lt_z}
use Rattle.lists.specs.Integers.{elem_z, eq_z}
use Rattle.lists.proofs.All.{All, All_imp, []ᴬ, ◌∷ᴬ◌}
use Rattle.lists.proofs.Integers.{Over, elem_z-all, over_of, up, up_add, up_apart, up_eq, up_le, up_lt, up_neg}
use Rattle.lists.proofs.Tests.{and-join, and_split, bool_ext, eqb_ext, eqb_yes, leb_yes, ltb_yes, yes_eq, yes_le}
use Rattle.spec.specs.Domain.{allows, domain, first_multiple, how_many, multiples, on_step, progression, step_of}
use Rattle.spec.specs.Spec.{FieldSpec, Free, Listed, Ranged}

-- of two numbers whose sum is a multiple, both are or none is
part_mod : (k x y n : ℕ) → x + y ≡ n → n % k ≡ 0 → x % k ≡ 0 → y % k ≡ 0
part_mod k x y n e h g = sym (mod-mod y k) ∙ ap (λ (z : ℕ). z % k) (sym (ap (λ (z : ℕ). z + y % k) g ∙ zero-add (y % k))) ∙ sym (add-mod x y k) ∙ ap (λ (z : ℕ). z % k) e ∙ h

up_mod : (k m : ℕ) (v : ℤ) → Over (m * k) v → eqb (nat_abs v % k) 0 ≡ eqb (up (m * k) v % k) 0
up_mod k m (pos a) h = ap (λ (z : ℕ). eqb z 0) (sym (add-mul-mod_self_right a m k))
up_mod k m (negsuc a) h = eqb_ext (suc a % k) 0 ((m * k - suc a) % k) 0
    (λ e. part_mod k (suc a) (m * k - suc a) (m * k) (omega arith) (mul-mod_left m k) e)
    (λ e. part_mod k (m * k - suc a) (suc a) (m * k) (omega arith) (mul-mod_left m k) e)

whole : (x k : ℕ) → x % k ≡ 0 → x ≡ x / k * k
whole x k e = let d = div-add-mod' x k in omega arith

-- ---- the first: the least multiple of k at or above p
record FirstIs (k m : ℕ) (p a : ℤ) : Type 0 where
  over : Over (m * suc k) a
  Gt : up (m * suc k) p ≤ up (m * suc k) a
  near : up (m * suc k) a < up (m * suc k) p + suc k
  multiple : up (m * suc k) a % suc k ≡ 0

first_is : (k m : ℕ) (p : ℤ) → Over (m * suc k) p → FirstIs k m p (first_multiple (suc k) p)
first_is k m (pos a) h =
    let l = div-mul-le_self (a + (suc k - 1)) (suc k) in
    let u = lt-div-mul-add {a = a + (suc k - 1)} {b = suc k} (omega arith) in
    record {
      over = tt;
      Gt = omega arith;
      near = omega arith;
      multiple = add-mul-mod_self_right ((a + (suc k - 1)) / suc k * suc k) m (suc k) ∙ mul-mod_left ((a + (suc k - 1)) / suc k) (suc k);
    }
first_is k m (negsuc a) h =
    let l = div-mul-le_self (suc a) (suc k) in
    let u = lt-div-mul-add {a = suc a} {b = suc k} (omega arith) in
    let r = up_neg (m * suc k) (suc a / suc k * suc k) (omega arith) in
    let e = r.1 in
    record {
      over = r.0;
      Gt = omega arith;
      near = omega arith;
      multiple = ap (λ (z : ℕ). z % suc k) e ∙ part_mod (suc k) (suc a / suc k * suc k) (m * suc k - suc a / suc k * suc k) (m * suc k) (omega arith) (mul-mod_left m (suc k)) (mul-mod_left (suc a / suc k) (suc k));
    }

-- ---- membership in a rising list
rise_has : (n k : ℕ) (v a : ℤ) (c : ℕ) → Over n v → Over n a → elem_z v (progression k a c) ≡ true → (j : ℕ) × (j < c) × (up n v ≡ up n a + j * k)
rise_has n k v a zero h g e = absurd (false≢true e)
rise_has n k v a (suc c) h g e = go (eq_z v a) refl e (rise_has n k v (a +ℤ pos k) c h (up_add n a k g).0)
  where
    go : (b : Bool) → eq_z v a ≡ b → (b || elem_z v (progression k (a +ℤ pos k) c)) ≡ true → (elem_z v (progression k (a +ℤ pos k) c) ≡ true → (j : ℕ) × (j < c) × (up n v ≡ up n (a +ℤ pos k) + j * k))
        → (j : ℕ) × (j < suc c) × (up n v ≡ up n a + j * k)
    go true b e ih = let q = yes_eq (up n v) (up n a) (sym (up_eq n v a h g) ∙ b) in (0, omega arith, omega arith)
    go false b e ih = let r = ih e in let q = (up_add n a k g).1 in let w = r.2 in let z = r.1 in (suc r.0, omega arith, omega arith)

has_rise : (n k : ℕ) (v a : ℤ) (c j : ℕ) → Over n v → Over n a → j < c → up n v ≡ up n a + j * k → elem_z v (progression k a c) ≡ true
has_rise n k v a zero j h g l e = absurd (omega arith)
has_rise n k v a (suc c) zero h g l e = rw (up_eq n v a h g ∙ eqb_yes (up n v) (up n a) (omega arith))
has_rise n k v a (suc c) (suc j) h g l e =
    let q = up_add n a k g in
    let w = q.1 in
    rw (has_rise n k v (a +ℤ pos k) c j h q.0 (omega arith) (omega arith)) (or_true (eq_z v a))
  where
    or_true : (a : Bool) → (a || true) ≡ true
    or_true true = refl
    or_true false = refl

-- ---- membership in the multiples
module _ (k : ℕ) (p q v : ℤ) where
  abbrev m : ℕ
  m = nat_abs p + nat_abs q + nat_abs v

  abbrev n : ℕ
  n = m * suc k

  big : m ≤ n
  big = omega arith

  op : Over n p
  op = let b = big in over_of n p (omega arith)

  oq : Over n q
  oq = let b = big in over_of n q (omega arith)

  ov : Over n v
  ov = let b = big in over_of n v (omega arith)

  F : FirstIs k m p (first_multiple (suc k) p)
  F = first_is k m p op

  abbrev a : ℤ
  a = first_multiple (suc k) p

  many : (b : Bool) → le_z a q ≡ b → how_many (suc k) a q ≡ cond b (suc ((up n q - up n a) / suc k)) 0
  many true e = rw e (ap (λ (z : ℕ). suc (z / suc k)) (up_apart n q a oq F.over (yes_le (up n a) (up n q) (sym (up_le n a q F.over oq) ∙ e))))
  many false e = rw e

  inside : elem_z v (multiples (suc k) p q) ≡ true → (le_z p v && le_z v q && eqb (nat_abs v % suc k) 0) ≡ true
  inside h = go (le_z a q) refl (rise_has n (suc k) v a (how_many (suc k) a q) ov F.over h)
    where
      go : (b : Bool) → le_z a q ≡ b → (j : ℕ) × (j < how_many (suc k) a q) × (up n v ≡ up n a + j * suc k) → (le_z p v && le_z v q && eqb (nat_abs v % suc k) 0) ≡ true
      go true b r =
          let f1 = F.Gt in
          let le = yes_le (up n a) (up n q) (sym (up_le n a q F.over oq) ∙ b) in
          let mn = many true b in
          let rj = r.1 in
          let re = r.2 in
          let z : r.0 ≤ (up n q - up n a) / suc k = omega arith in
          let y = (le-div_iff_mul-le {k = suc k} {x = r.0} {y = up n q - up n a} (omega arith)).0 z in
          and-join (and-join (up_le n p v op ov ∙ leb_yes (up n p) (up n v) (omega arith)) (up_le n v q ov oq ∙ leb_yes (up n v) (up n q) (omega arith)))
          (up_mod (suc k) m v ov ∙ eqb_yes (up n v % suc k) 0 (ap (λ (x : ℕ). x % suc k) re ∙ add-mul-mod_self_right (up n a) r.0 (suc k) ∙ F.multiple))
      go false b r = absurd (let mn = many false b in let rj = r.1 in omega arith)

  covers : (le_z p v && le_z v q && eqb (nat_abs v % suc k) 0) ≡ true → elem_z v (multiples (suc k) p q) ≡ true
  covers h =
      let s = and_split (le_z p v && le_z v q) (eqb (nat_abs v % suc k) 0) h in
      let t = and_split (le_z p v) (le_z v q) s.0 in
      let pv = yes_le (up n p) (up n v) (sym (up_le n p v op ov) ∙ t.0) in
      let vq = yes_le (up n v) (up n q) (sym (up_le n v q ov oq) ∙ t.1) in
      let vw = whole (up n v) (suc k) (yes_eq (up n v % suc k) 0 (sym (up_mod (suc k) m v ov) ∙ s.1)) in
      let aw = whole (up n a) (suc k) F.multiple in
      let nr = F.near in
      let less : up n a / suc k < suc (up n v / suc k) = lt_of_mul-lt-mul_right (suc k) (let g : up n a / suc k * suc k < suc (up n v / suc k) * suc k = omega arith in g) in
      let stride : up n v / suc k * suc k ≡ up n a / suc k * suc k + (up n v / suc k - up n a / suc k) * suc k = split (up n a / suc k) (up n v / suc k) (omega arith) in
      let y = (le-div_iff_mul-le {k = suc k} {x = up n v / suc k - up n a / suc k} {y = up n q - up n a} (omega arith)).1 (omega arith) in
      let mn = many true (up_le n a q F.over oq ∙ leb_yes (up n a) (up n q) (omega arith)) in
      has_rise n (suc k) v a (how_many (suc k) a q) (up n v / suc k - up n a / suc k) ov F.over (omega arith) (omega arith)
    where
      split : (x y : ℕ) → x ≤ y → y * suc k ≡ x * suc k + (y - x) * suc k
      split x y h = ap (λ (z : ℕ). z * suc k) (let e : y ≡ x + (y - x) = omega arith in e) ∙ add-mul x (y - x) (suc k)

  -- a value is among the multiples exactly when it is in the range and a multiple
  pub multiples_has : elem_z v (multiples (suc k) p q) ≡ (le_z p v && le_z v q && eqb (nat_abs v % suc k) 0)
  multiples_has = bool_ext (elem_z v (multiples (suc k) p q)) (le_z p v && le_z v q && eqb (nat_abs v % suc k) 0) inside covers

-- ---- domains
step_is : (k : ℕ) (v : ℤ) (b : Bool) → (b && eqb (nat_abs v % step_of k) 0) ≡ (b && on_step k v)
step_is zero v b = ap (λ c. b && c) (eqb_yes (nat_abs v % 1) 0 (mod-one (nat_abs v)))
step_is (suc k) v b = refl

step_has : (k : ℕ) (p q v : ℤ) → elem_z v (multiples (step_of k) p q) ≡ (le_z p v && le_z v q && on_step k v)
step_has zero p q v = multiples_has 0 p q v ∙ step_is 0 v (le_z p v && le_z v q)
step_has (suc k) p q v = multiples_has k p q v

-- no range means 0..255
abbrev pub bounded : FieldSpec → FieldSpec
bounded (Free step) = Ranged (pos 0) (pos 255) step
bounded (Ranged p q step) = Ranged p q step
bounded (Listed values) = Listed values

-- A value is in a domain exactly when it is in the range and a multiple of the step, or listed.
pub domain_has : (f : FieldSpec) (v : ℤ) → elem_z v (domain f) ≡ allows (bounded f) v
domain_has (Free step) v = step_has step (pos 0) (pos 255) v
domain_has (Ranged p q step) v = step_has step p q v
domain_has (Listed values) v = refl

pub length-progression : (k : ℕ) (a : ℤ) (n : ℕ) → length (progression k a n) ≡ n
length-progression k a zero = refl
length-progression k a (suc n) = ap suc (length-progression k (a +ℤ pos k) n)

-- The length of a range's domain is one number, without making the list.
pub length-multiples : (k : ℕ) (p q : ℤ) → length (multiples k p q) ≡ how_many k (first_multiple k p) q
length-multiples k p q = length-progression k (first_multiple k p) (how_many k (first_multiple k p) q)

-- ---- rising strictly
abbrev pub Rising : List ℤ → Type 0
Rising [] = Unit {0}
Rising (v ∷ vs) = All (λ w. lt_z v w ≡ true) vs × Rising vs

rise_above : (n k : ℕ) (v a : ℤ) (c : ℕ) → Over n v → Over n a → up n v < up n a → All (λ w. lt_z v w ≡ true) (progression k a c)
rise_above n k v a zero h g l = []ᴬ
rise_above n k v a (suc c) h g l =
    let r = up_add n a k g in
    let e = r.1 in
    (up_lt n v a h g ∙ ltb_yes (up n v) (up n a) l) ∷ᴬ rise_above n k v (a +ℤ pos k) c h r.0 (omega arith)

rise_rising : (n k : ℕ) (a : ℤ) (c : ℕ) → Over n a → Rising (progression (suc k) a c)
rise_rising n k a zero g = tt
rise_rising n k a (suc c) g =
    let r = up_add n a (suc k) g in
    let e = r.1 in
    (rise_above n (suc k) a (a +ℤ pos (suc k)) c g r.0 (omega arith), rise_rising n k (a +ℤ pos (suc k)) c r.0)

multiples-rising : (k : ℕ) (p q : ℤ) → Rising (multiples (suc k) p q)
multiples-rising k p q =
    rise_rising (nat_abs (first_multiple (suc k) p)) k (first_multiple (suc k) p) (how_many (suc k) (first_multiple (suc k) p) q)
    (over_of (nat_abs (first_multiple (suc k) p)) (first_multiple (suc k) p) (le_refl _))

-- A range's domain rises.
pub range_rising : (step : ℕ) (p q : ℤ) → Rising (multiples (step_of step) p q)
range_rising zero p q = multiples-rising 0 p q
range_rising (suc k) p q = multiples-rising k p q

-- ---- the field check
bounded_allows : (f : FieldSpec) (v : ℤ) → allows (bounded f) v ≡ true → allows f v ≡ true
bounded_allows (Free step) v h = (and_split (le_z (pos 0) v && le_z v (pos 255)) (on_step step v) h).1
bounded_allows (Ranged p q step) v h = h
bounded_allows (Listed values) v h = h

pub domain_value-allowed : (f : FieldSpec) (v : ℤ) → elem_z v (domain f) ≡ true → allows f v ≡ true
domain_value-allowed f v h = bounded_allows f v (sym (domain_has f v) ∙ h)

-- A domain's values pass its own field check.
pub domain-allowed : (f : FieldSpec) → All (λ v. allows f v ≡ true) (domain f)
domain-allowed f = All_imp (domain_value-allowed f) (elem_z-all (domain f))
