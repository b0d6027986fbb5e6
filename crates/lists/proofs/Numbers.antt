-- Laws of numbers in a row, and of products. In a joined file the fields of the first half are below n, those of the second are n + f.
use mathlib.Core.Bool.{false}
use mathlib.Core.List.{List, [], ◌++◌, ◌∷◌, map}
use mathlib.Core.Path.{◌∙◌, ◌≡◌, ap, refl, sym}
use Prim.Native.Nat.{◌*◌, ◌+◌, ◌<◌, suc, zero, ℕ}
use native.Mathlib.Nat.{add-suc, add-zero, mul_assoc, one-mul, suc-add, zero-add}
use native.Mathlib.Omega.{arith}
use lib.Dec.{eqb, eqb-suc-suc}
use lib.ListN.{length}
use Rattle.lists.specs.Lists.{product, span, upto}
use Rattle.lists.proofs.Tests.{eqb_no}

pub span_add : (a n m : ℕ) → span a (n + m) ≡ span a n ++ span (a + n) m
span_add a zero m = rw (zero-add, add-zero)
span_add a (suc n) m = rw (suc-add, add-suc, ← suc-add a n) (ap (λ l. a ∷ l) (span_add (suc a) n m))

pub span-map : (n a m : ℕ) → span (n + a) m ≡ map (λ f. n + f) (span a m)
span-map n a zero = refl
span-map n a (suc m) = ap (λ l. (n + a) ∷ l) (rw (← add-suc n a) (span-map n (suc a) m))

pub upto_add : (n m : ℕ) → upto (n + m) ≡ upto n ++ map (λ f. n + f) (upto m)
upto_add n m = span_add 0 n m ∙ ap (λ l. upto n ++ l) (ap (λ (a : ℕ). span a m) (zero-add n ∙ sym (add-zero n)) ∙ span-map n 0 m)

pub length-span : (a n : ℕ) → length (span a n) ≡ n
length-span a zero = refl
length-span a (suc n) = ap suc (length-span (suc a) n)

pub eqb_add : (n a b : ℕ) → eqb (n + a) (n + b) ≡ eqb a b
eqb_add zero a b = rw (zero-add a, zero-add b)
eqb_add (suc n) a b = rw (suc-add n a, suc-add n b) (eqb-suc-suc (n + a) (n + b) ∙ eqb_add n a b)

pub eqb_apart : (n a b : ℕ) → a < n → eqb a (n + b) ≡ false
eqb_apart n a b h = eqb_no a (n + b) (omega arith)

pub eqb_apart' : (n a b : ℕ) → a < n → eqb (n + b) a ≡ false
eqb_apart' n a b h = eqb_no (n + b) a (omega arith)

pub product_append : (xs ys : List ℕ) → product (xs ++ ys) ≡ product xs * product ys
product_append [] ys = sym (one-mul (product ys))
product_append (x ∷ xs) ys = ap (λ (k : ℕ). x * k) (product_append xs ys) ∙ sym (mul_assoc x (product xs) (product ys))
