-- The value at a place of a domain, and that the code can hold it.
use mathlib.Core.Bool.{Bool, cond, false, true}
use mathlib.Core.List.{List, [], ◌∷◌}
use mathlib.Core.Path.{◌∙◌, ◌≡◌, ap, refl, sym}
use Prim.Native.Nat.{◌*◌, ◌+◌, ◌/◌, ◌<◌, ◌≤◌, suc, zero, ℕ}
use native.Mathlib.Nat.{le-div_iff_mul-le, mul_comm, mul-zero, suc-mul}
use native.Mathlib.Omega.{arith}
use lib.Dec.{eqb}
use lib.IntN.{+ℤ_assoc, +ℤ_idr, ◌*ℤ◌, ◌+ℤ◌, ◌-ℤ◌, nat_abs, negsuc, pos, pos-*ℤ-pos, pos-+ℤ-pos, ℤ}
use lib.ListN.{get_or, length}
use lib.Signed.{le_z, mag}
use mir.Syntax.{w64}
use mir.Val.{SFits, to_z}
use mir.ValLaws.{to_z-of_z, to_z_pos}
use borrow.Author.Rules.{sfits_of}
use Rattle.lists.proofs.Signed.{apart_bound}
use Rattle.spec.specs.Code.{InRise, IsRise, high_of, low_of, ps_of}
use Rattle.spec.specs.Domain.{domain, first_multiple, how_many, multiples, progression, step_of}
use Rattle.spec.specs.Record.{Record, field_by, record_at, records_of}
use Rattle.spec.specs.Refusal.{on_scale}
use Rattle.spec.proofs.Fields.{length_records, record_get_d}
use Rattle.spec.proofs.Multiples.{first_bound, held, scale_bound, step_positive, step_small}
use Rattle.spec.specs.declared.domains.Rise.{Rise}

progression_at : (k : ℕ) (a : ℤ) (n j : ℕ) → j < n → get_or (progression k a n) j (pos 0) ≡ a +ℤ pos (k * j)
progression_at k a zero j l = absurd (omega arith)
progression_at k a (suc n) zero l = sym (ap (λ (m : ℕ). a +ℤ pos m) (mul-zero k) ∙ +ℤ_idr a)
progression_at k a (suc n) (suc j) l =
    let e : k + k * j ≡ k * suc j = omega arith in
    progression_at k (a +ℤ pos k) n j (omega arith) ∙ +ℤ_assoc a (pos k) (pos (k * j)) ∙ ap (λ x. a +ℤ x) (pos-+ℤ-pos k (k * j)) ∙ ap (λ (m : ℕ). a +ℤ pos m) e

-- ---- places within the count
steps_bound : (k : ℕ) (first q : ℤ) (j : ℕ) → 0 < k → j < how_many k first q → k * j ≤ nat_abs q + nat_abs first
steps_bound k first q j s l = go (le_z first q) l
  where
    go : (b : Bool) → j < cond b (suc (nat_abs (q -ℤ first) / k)) 0 → k * j ≤ nat_abs q + nat_abs first
    go true h =
        let g = (le-div_iff_mul-le {k = k} {x = j} {y = nat_abs (q -ℤ first)} s).0 (omega arith) in
        let e = mul_comm k j in
        omega (arith, apart_bound q first)
    go false h = absurd (omega arith)

place_bound : (k j : ℕ) → 0 < k → j ≤ k * j
place_bound zero j s = absurd (omega arith)
place_bound (suc k) j s = omega (arith, suc-mul k j)

module _ (d : Rise) (r p q : ℤ) (j : ℕ) (is : IsRise d (step_of (nat_abs r)) p q) (inside : j < how_many (step_of (nat_abs r)) (first_multiple (step_of (nat_abs r)) p) q) where
  abs_step : nat_abs d.step ≡ step_of (nat_abs r)
  abs_step = ap nat_abs is.step_is

  pub in_rise : on_scale r ≡ true → on_scale p ≡ true → on_scale q ≡ true → InRise d j
  in_rise r_in p_in q_in =
      let k = step_of (nat_abs r) in
      let small = step_small (nat_abs r) (scale_bound r r_in) in
      let first = first_bound k p small (scale_bound p p_in) in
      let last = scale_bound q q_in in
      let steps = steps_bound k (first_multiple k p) q j (step_positive (nat_abs r)) inside in
      record {
        rising = is.step_is ∙ ap (λ x. pos (nat_abs x)) (sym is.step_is);
        first-in = rw is.first first;
        steps-in = rw abs_step (omega arith);
        place_in = omega (arith, place_bound k j (step_positive (nat_abs r)));
      }

  pub rise_at : d.first +ℤ pos (nat_abs d.step * j) ≡ get_or (multiples (step_of (nat_abs r)) p q) j (pos 0)
  rise_at = rw (is.first, abs_step) (sym (progression_at (step_of (nat_abs r)) (first_multiple (step_of (nat_abs r)) p) (how_many (step_of (nat_abs r)) (first_multiple (step_of (nat_abs r)) p) q) j inside))

-- ---- the code's arithmetic
mag_abs : (z : ℤ) → mag z ≤ nat_abs z
mag_abs (pos n) = omega arith
mag_abs (negsuc n) = omega arith

sum_bound : (v : ℤ) (m : ℕ) → nat_abs (v +ℤ pos m) ≤ nat_abs v + m
sum_bound (pos a) m = omega arith
sum_bound (negsuc a) m = omega (arith, apart_bound (pos m) (pos (suc a)))

pub record Stepped (first step : ℤ) (k : ℕ) : Type 0 where
  pub product : SFits w64 (held step *ℤ to_z w64 k)
  pub sum : SFits w64 (held first +ℤ held (held step *ℤ to_z w64 k))
  pub is : held (held first +ℤ held (held step *ℤ to_z w64 k)) ≡ first +ℤ pos (nat_abs step * k)

pub stepped : (d : Rise) (k : ℕ) → SFits w64 d.first → SFits w64 d.step → InRise d k → Stepped d.first d.step k
stepped d k ff sf h =
    let m = nat_abs d.step * k in
    let bound = h.steps-in in
    let k-is : to_z w64 k ≡ pos k = to_z_pos w64 k (let b = h.place_in in omega arith) in
    let product_is : held d.step *ℤ to_z w64 k ≡ pos m = rw (to_z-of_z w64 d.step sf, k-is) (ap (λ x. x *ℤ pos k) h.rising ∙ pos-*ℤ-pos (nat_abs d.step) k) in
    let sum_is : held d.first +ℤ held (held d.step *ℤ to_z w64 k) ≡ d.first +ℤ pos m = rw (product_is, to_z-of_z w64 d.first ff, to_z_pos w64 m (omega arith)) in
    let fits : SFits w64 (d.first +ℤ pos m) = record { sfits = (let b = h.first-in in omega (arith, mag_abs (d.first +ℤ pos m), sum_bound d.first m)) } in
    record {
      product = rw product_is (sfits_of (omega arith));
      sum = rw sum_is fits;
      is = rw sum_is (to_z-of_z w64 (d.first +ℤ pos m) fits);
    }

-- ---- by the field's form
module _ (h : Record) (ms : List Record) where
  pub domain_listed : (form : ℕ) → 2 ≤ form → domain (field_by form h ms) ≡ ps_of ms
  domain_listed zero l = absurd (omega arith)
  domain_listed (suc zero) l = absurd (omega arith)
  domain_listed (suc (suc k)) l = refl

  -- The multiples in the range that the form says.
  pub domain_rise : (form : ℕ) → form < 2 → domain (field_by form h ms) ≡ multiples (step_of (nat_abs h.r)) (low_of form h.p) (high_of form h.q)
  domain_rise zero l = refl
  domain_rise (suc zero) l = refl
  domain_rise (suc (suc k)) l = absurd (omega arith)

-- That range is on the scale where p and q are.
pub range_in : (form : ℕ) (p q : ℤ) → on_scale p ≡ true → on_scale q ≡ true → (on_scale (low_of form p) ≡ true) × (on_scale (high_of form q) ≡ true)
range_in form p q p_in q_in = go (eqb form 1)
  where
    go : (b : Bool) → (on_scale (cond b p (pos 0)) ≡ true) × (on_scale (cond b q (pos 255)) ≡ true)
    go true = (p_in, q_in)
    go false = (refl, refl)

-- The value at a place of a list of values.
pub p_place : (bytes : List ℕ) (i : ℕ) → i < length bytes / 32 → get_or (ps_of (records_of bytes)) i (pos 0) ≡ (record_at bytes i).p
p_place bytes i l = at (records_of bytes) i (record_at bytes i) (omega (arith, length_records bytes)) ∙ ap (λ x. x.p) (record_get_d (record_at bytes i) bytes i l)
  where
    at : (rs : List Record) (k : ℕ) (d : Record) → k < length rs → get_or (ps_of rs) k (pos 0) ≡ (get_or rs k d).p
    at [] k d h = absurd (omega arith)
    at (r ∷ rs) zero d h = refl
    at (r ∷ rs) (suc k) d h = at rs k d (omega arith)
