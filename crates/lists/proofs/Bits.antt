-- `and_z` is the AND of two's complement, `low_bit` the number modulo 2.
use mathlib.Core.Path.{◌∙◌, ◌≡◌, ap, ap₂, refl, sym}
use Prim.Native.Nat.{◌%◌, ◌*◌, ◌+◌, ◌-◌, ◌/◌, ◌<◌, ◌^◌, ◌≤◌, max, min, suc, zero, ℕ}
use native.Mathlib.Nat.{div-div-eq-div-mul, div-one, min_comm, mul_comm, mul-one, pow-suc, pow-zero, suc-add, zero-add}
use native.Mathlib.Omega.{arith}
use lib.Arith.{bin_ind}
use lib.Bits.{and_comm, and_le_l, and_le_r, and_step, and_zero_r, bit_and, bit_or, bit_xor, or_add_and, or_disjoint, or_step, shifted_even, shifted_half, xor_add_and}
use lib.IntN.{nat_abs, negsuc, pos, ℤ}
use Rattle.lists.specs.Integers.{and_z, low_bit}

-- bit i, lowest first
abbrev pub bit : ℕ → ℕ → ℕ
bit n zero = n % 2
bit n (suc i) = bit (n / 2) i

-- bit i of a number in two's complement: −1 − a is NOT a
abbrev pub bit_z : ℤ → ℕ → ℕ
bit_z (pos a) i = bit a i
bit_z (negsuc a) i = 1 - bit a i

pub bit_is : (n i : ℕ) → bit n i ≡ n / 2 ^ i % 2
bit_is n zero = ap (λ (x : ℕ). x % 2) (sym (ap (λ (p : ℕ). n / p) (pow-zero 2) ∙ div-one n))
bit_is n (suc i) = bit_is (n / 2) i ∙ ap (λ (x : ℕ). x % 2) (div-div-eq-div-mul n 2 (2 ^ i) ∙ ap (λ (p : ℕ). n / p) (mul_comm 2 (2 ^ i) ∙ sym (pow-suc 2 i)))

pub bit_lt : (n i : ℕ) → bit n i < 2
bit_lt n zero = omega arith
bit_lt n (suc i) = bit_lt (n / 2) i

-- a number from its halves
halves : (q r : ℕ) → r < 2 → ((q * 2 + r) / 2 ≡ q) × ((q * 2 + r) % 2 ≡ r)
halves q r h = (omega arith, omega arith)

pub bit_and_lem : (a b i : ℕ) → bit (bit_and a b) i ≡ min (bit a i) (bit b i)
bit_and_lem a b zero = ap (λ (x : ℕ). x % 2) (and_step a b) ∙ (halves (bit_and (a / 2) (b / 2)) (min (a % 2) (b % 2)) (omega arith)).1
bit_and_lem a b (suc i) = ap (λ (x : ℕ). bit x i) (ap (λ (x : ℕ). x / 2) (and_step a b) ∙ (halves (bit_and (a / 2) (b / 2)) (min (a % 2) (b % 2)) (omega arith)).0) ∙ bit_and_lem (a / 2) (b / 2) i

pub bit_or_lem : (a b i : ℕ) → bit (bit_or a b) i ≡ max (bit a i) (bit b i)
bit_or_lem a b zero = ap (λ (x : ℕ). x % 2) (or_step a b) ∙ (halves (bit_or (a / 2) (b / 2)) (max (a % 2) (b % 2)) (omega arith)).1
bit_or_lem a b (suc i) = ap (λ (x : ℕ). bit x i) (ap (λ (x : ℕ). x / 2) (or_step a b) ∙ (halves (bit_or (a / 2) (b / 2)) (max (a % 2) (b % 2)) (omega arith)).0) ∙ bit_or_lem (a / 2) (b / 2) i

-- m without the bits of a
less_step : (m a : ℕ) → m - bit_and m a ≡ (m / 2 - bit_and (m / 2) (a / 2)) * 2 + min (m % 2) (1 - a % 2)
less_step m a =
    let e = and_step m a in
    let l = and_le_l (m / 2) (a / 2) in
    ap (λ (x : ℕ). m - x) e ∙ go (bit_and (m / 2) (a / 2)) l
  where
    go : (c : ℕ) → c ≤ m / 2 → m - (c * 2 + min (m % 2) (a % 2)) ≡ (m / 2 - c) * 2 + min (m % 2) (1 - a % 2)
    go c l = omega arith

bit_less : (m a i : ℕ) → bit (m - bit_and m a) i ≡ min (bit m i) (1 - bit a i)
bit_less m a zero = ap (λ (x : ℕ). x % 2) (less_step m a) ∙ (halves (m / 2 - bit_and (m / 2) (a / 2)) (min (m % 2) (1 - a % 2)) (omega arith)).1
bit_less m a (suc i) = ap (λ (x : ℕ). bit x i) (ap (λ (x : ℕ). x / 2) (less_step m a) ∙ (halves (m / 2 - bit_and (m / 2) (a / 2)) (min (m % 2) (1 - a % 2)) (omega arith)).0) ∙ bit_less (m / 2) (a / 2) i

-- bit i of v AND m is bit i of v and bit i of m
pub and_z_bit : (v : ℤ) (m i : ℕ) → bit (and_z v m) i ≡ min (bit_z v i) (bit m i)
and_z_bit (pos a) m i = bit_and_lem m a i ∙ min_comm (bit m i) (bit a i)
and_z_bit (negsuc a) m i = bit_less m a i ∙ min_comm (bit m i) (1 - bit a i)

-- the same from a word's bits: −1 − a stands as 2^k − 1 − a
not_step : (k a : ℕ) → a < 2 ^ suc k → 2 ^ suc k - suc a ≡ (2 ^ k - suc (a / 2)) * 2 + (1 - a % 2)
not_step k a h = let e = pow-suc 2 k in omega arith

pub word_and : (k a m : ℕ) → a < 2 ^ k → m < 2 ^ k → bit_and (2 ^ k - suc a) m ≡ m - bit_and m a
word_and zero a m h l = let e : m ≡ 0 = let p = pow-zero 2 in omega arith in ap (bit_and (2 ^ 0 - suc a)) e ∙ and_zero_r (2 ^ 0 - suc a) ∙ ap (λ (x : ℕ). x - bit_and x a) (sym e)
word_and (suc k) a m h l =
    let e = pow-suc 2 k in
    let n = not_step k a h in
    let hv = halves (2 ^ k - suc (a / 2)) (1 - a % 2) (omega arith) in
    and_step (2 ^ suc k - suc a) m
    ∙ ap₂ (λ (x y : ℕ). bit_and x (m / 2) * 2 + min y (m % 2)) (ap (λ (x : ℕ). x / 2) n ∙ hv.0) (ap (λ (x : ℕ). x % 2) n ∙ hv.1)
    ∙ ap₂ (λ (x y : ℕ). x * 2 + y) (word_and k (a / 2) (m / 2) (omega arith) (omega arith)) (min_comm (1 - a % 2) (m % 2))
    ∙ sym (less_step m a)

-- v as k bits
abbrev pub word_of : ℕ → ℤ → ℕ
word_of k (pos a) = a
word_of k (negsuc a) = 2 ^ k - suc a

pub and_z_word : (k : ℕ) (v : ℤ) (m : ℕ) → nat_abs v ≤ 2 ^ k → m < 2 ^ k → and_z v m ≡ bit_and (word_of k v) m
and_z_word k (pos a) m h l = and_comm m a
and_z_word k (negsuc a) m h l = sym (word_and k a m h l)

-- the lowest bit is the number modulo 2
pub low_bit_mod : (v : ℤ) → low_bit v ≡ nat_abs v % 2
low_bit_mod (pos a) = and_step 1 a ∙ omega arith
low_bit_mod (negsuc a) = ap (λ (x : ℕ). 1 - x) (and_step 1 a) ∙ omega arith

pub low_bit_bit : (v : ℤ) → low_bit v ≡ bit_z v 0
low_bit_bit (pos a) = and_step 1 a ∙ omega arith
low_bit_bit (negsuc a) = ap (λ (x : ℕ). 1 - x) (and_step 1 a) ∙ omega arith

-- ---- no bit at all
pub or_none : (a b : ℕ) → bit_or a b ≡ 0 → (a ≡ 0) × (b ≡ 0)
or_none a b e = (omega (arith, or_add_and a b, and_le_r a b), omega (arith, or_add_and a b, and_le_l a b))

pub xor_none : (a b : ℕ) → bit_xor a b ≡ 0 → a ≡ b
xor_none a b e = omega (arith, xor_add_and a b, and_le_l a b, and_le_r a b)

-- ---- disjoint bits
pub no_bits : (n : ℕ) → ((i : ℕ) → bit n i ≡ 0) → n ≡ 0
no_bits = bin_ind (λ n. ((i : ℕ) → bit n i ≡ 0) → n ≡ 0) (λ h. refl) (λ n ih h. let a = h 0 in let b = ih (λ i. h (suc i)) in omega arith)

pub or_sum : (a b : ℕ) → ((i : ℕ) → min (bit a i) (bit b i) ≡ 0) → bit_or a b ≡ a + b
or_sum a b h = or_disjoint a b (no_bits (bit_and a b) (λ i. bit_and_lem a b i ∙ h i))

pub bit_zero : (i : ℕ) → bit 0 i ≡ 0
bit_zero zero = refl
bit_zero (suc i) = bit_zero i

pub bit_high : (d w i : ℕ) → d < 2 ^ w → w ≤ i → bit d i ≡ 0
bit_high d zero i h l = ap (λ (x : ℕ). bit x i) (let p = pow-zero 2 in let e : d ≡ 0 = omega arith in e) ∙ bit_zero i
bit_high d (suc w) zero h l = absurd (omega arith)
bit_high d (suc w) (suc i) h l = let e = pow-suc 2 w in bit_high (d / 2) w i (omega arith) (omega arith)

-- a shifted number has its bits from the shift on
pub bit_below : (d s i : ℕ) → i < s → bit (d * 2 ^ s) i ≡ 0
bit_below d zero i h = absurd (omega arith)
bit_below d (suc s) zero h = shifted_even d s
bit_below d (suc s) (suc i) h = ap (λ (x : ℕ). bit x i) (shifted_half d s) ∙ bit_below d s i (omega arith)

pub bit_shifted : (d s i : ℕ) → bit (d * 2 ^ s) (s + i) ≡ bit d i
bit_shifted d zero i = ap₂ bit (ap (λ (x : ℕ). d * x) (pow-zero 2) ∙ mul-one d) (zero-add i)
bit_shifted d (suc s) i = ap (bit (d * 2 ^ suc s)) (suc-add s i) ∙ ap (λ (x : ℕ). bit x (s + i)) (shifted_half d s) ∙ bit_shifted d s i
