-- Laws of whole numbers, by moving them up by a number so large that none stays below 0.
use mathlib.Core.Bool.{Bool, ◌||◌, cond, false, false≢true, true}
use mathlib.Core.List.{List, [], ◌∷◌}
use mathlib.Core.Path.{◌∙◌, ◌≡◌, ap, refl, sym}
use Prim.Native.Nat.{◌+◌, ◌-◌, ◌≤◌, suc, zero, ℕ}
use native.Mathlib.Omega.{arith}
use lib.Dec.{eqb, leb, ltb}
use lib.IntN.{◌+ℤ◌, ◌-ℤ◌, nat_abs, negsuc, neg_ℤ, pos, sub_ℕ, ℤ}
use lib.Signed.{le_z, lt_z}
use Rattle.lists.specs.Integers.{elem_z, eq_z}
use Rattle.lists.proofs.All.{All, All_imp, []ᴬ, ◌∷ᴬ◌}
use Rattle.lists.proofs.Tests.{bool_ext, eqb_ext, eqb_no, eqb_yes, leb_ext, leb_no, leb_yes, ltb_no, ltb_yes, no_ge, or_true, yes_eq, yes_lt}

abbrev pub up : ℕ → ℤ → ℕ
up n (pos a) = a + n
up n (negsuc a) = n - suc a

abbrev pub Over : ℕ → ℤ → Type 0
Over n (pos a) = Unit {0}
Over n (negsuc a) = suc a ≤ n

pub up_le : (n : ℕ) (v w : ℤ) → Over n v → Over n w → le_z v w ≡ leb (up n v) (up n w)
up_le n (pos a) (pos b) h k = leb_ext a b (a + n) (b + n) (λ e. omega arith) (λ e. omega arith)
up_le n (pos a) (negsuc b) h k = sym (leb_no (a + n) (n - suc b) (omega arith))
up_le n (negsuc a) (pos b) h k = sym (leb_yes (n - suc a) (b + n) (omega arith))
up_le n (negsuc a) (negsuc b) h k = leb_ext b a (n - suc a) (n - suc b) (λ e. omega arith) (λ e. omega arith)

pub up_eq : (n : ℕ) (v w : ℤ) → Over n v → Over n w → eq_z v w ≡ eqb (up n v) (up n w)
up_eq n (pos a) (pos b) h k = eqb_ext a b (a + n) (b + n) (λ e. omega arith) (λ e. omega arith)
up_eq n (pos a) (negsuc b) h k = sym (eqb_no (a + n) (n - suc b) (omega arith))
up_eq n (negsuc a) (pos b) h k = sym (eqb_no (n - suc a) (b + n) (omega arith))
up_eq n (negsuc a) (negsuc b) h k = eqb_ext a b (n - suc a) (n - suc b) (λ e. omega arith) (λ e. omega arith)

-- a - b, moved up
sub-up : (n a b : ℕ) → b ≤ n → (Over n (sub_ℕ a b)) × (up n (sub_ℕ a b) ≡ a + n - b)
sub-up n a b h = go (ltb a b) refl
  where
    go : (c : Bool) → ltb a b ≡ c → (Over n (cond c (negsuc (b - suc a)) (pos (a - b)))) × (up n (cond c (negsuc (b - suc a)) (pos (a - b))) ≡ a + n - b)
    go true e = let q = yes_lt a b e in (omega arith, omega arith)
    go false e = let q = no_ge a b e in (tt, omega arith)

pub up_add : (n : ℕ) (v : ℤ) (k : ℕ) → Over n v → (Over n (v +ℤ pos k)) × (up n (v +ℤ pos k) ≡ up n v + k)
up_add n (pos a) k h = (tt, omega arith)
up_add n (negsuc a) k h = let r = sub-up n k (suc a) h in (r.0, r.1 ∙ omega arith)

pub up_neg : (n m : ℕ) → m ≤ n → (Over n (neg_ℤ (pos m))) × (up n (neg_ℤ (pos m)) ≡ n - m)
up_neg n zero h = (tt, omega arith)
up_neg n (suc m) h = (h, refl)

abs_sub : (a b : ℕ) → b ≤ a → nat_abs (sub_ℕ a b) ≡ a - b
abs_sub a b h = ap (λ (c : Bool). nat_abs (cond c (negsuc (b - suc a)) (pos (a - b)))) (ltb_no a b h)

-- how far apart
pub up_apart : (n : ℕ) (q a : ℤ) → Over n q → Over n a → up n a ≤ up n q → nat_abs (q -ℤ a) ≡ up n q - up n a
up_apart n (pos x) (pos zero) h k l = omega arith
up_apart n (pos x) (pos (suc m)) h k l = abs_sub x (suc m) (omega arith) ∙ omega arith
up_apart n (pos x) (negsuc m) h k l = omega arith
up_apart n (negsuc x) (pos zero) h k l = absurd (omega arith)
up_apart n (negsuc x) (pos (suc m)) h k l = absurd (omega arith)
up_apart n (negsuc x) (negsuc m) h k l = abs_sub (suc m) (suc x) (omega arith) ∙ omega arith

pub over_of : (n : ℕ) (v : ℤ) → nat_abs v ≤ n → Over n v
over_of n (pos a) h = tt
over_of n (negsuc a) h = h

pub up_lt : (n : ℕ) (v w : ℤ) → Over n v → Over n w → lt_z v w ≡ ltb (up n v) (up n w)
up_lt n (pos a) (pos b) h k = bool_ext (ltb a b) (ltb (a + n) (b + n)) (λ e. let q = yes_lt a b e in ltb_yes (a + n) (b + n) (omega arith)) (λ e. let q = yes_lt (a + n) (b + n) e in ltb_yes a b (omega arith))
up_lt n (pos a) (negsuc b) h k = sym (ltb_no (a + n) (n - suc b) (omega arith))
up_lt n (negsuc a) (pos b) h k = sym (ltb_yes (n - suc a) (b + n) (omega arith))
up_lt n (negsuc a) (negsuc b) h k = bool_ext (ltb b a) (ltb (n - suc a) (n - suc b)) (λ e. let q = yes_lt b a e in ltb_yes (n - suc a) (n - suc b) (omega arith)) (λ e. let q = yes_lt (n - suc a) (n - suc b) e in ltb_yes b a (omega arith))

pub eq_z-refl : (v : ℤ) → eq_z v v ≡ true
eq_z-refl (pos a) = eqb_yes a a refl
eq_z-refl (negsuc a) = eqb_yes a a refl

pub eq_z_eq : (v w : ℤ) → eq_z v w ≡ true → v ≡ w
eq_z_eq (pos a) (pos b) e = ap pos (yes_eq a b e)
eq_z_eq (pos a) (negsuc b) e = absurd (false≢true e)
eq_z_eq (negsuc a) (pos b) e = absurd (false≢true e)
eq_z_eq (negsuc a) (negsuc b) e = ap negsuc (yes_eq a b e)

-- each element of a list is in it
pub elem_z-all : (vs : List ℤ) → All (λ v. elem_z v vs ≡ true) vs
elem_z-all [] = []ᴬ
elem_z-all (v ∷ vs) = ap (λ b. b || elem_z v vs) (eq_z-refl v) ∷ᴬ All_imp (λ w (h : elem_z w vs ≡ true). ap (λ b. eq_z w v || b) h ∙ or_true (eq_z w v)) (elem_z-all vs)
