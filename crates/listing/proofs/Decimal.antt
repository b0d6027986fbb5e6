-- A printed number reads back as itself, and is what std prints for it.
use mathlib.Core.Bool.{Bool, false, true}
use mathlib.Core.List.{List, [], ◌++◌, ◌∷◌, foldl, foldl-append}
use mathlib.Core.Path.{◌∙◌, ◌≡◌, ap, refl}
use Prim.Native.Nat.{◌%◌, ◌*◌, ◌+◌, ◌-◌, ◌/◌, ◌<◌, ◌^◌, ◌≤◌, suc, zero, ℕ}
use native.Mathlib.Nat.{pow-suc, pow-zero}
use native.Mathlib.Omega.{arith}
use lib.Dec.{ltb}
use lib.ListN.{length, length-append}
use Rattle.lists.proofs.All.{All, All_append, []ᴬ, ◌∷ᴬ◌}
use Rattle.lists.proofs.Tests.{no_ge, yes_lt}
use Rattle.std.specs.Fmt as std-text
use Rattle.std.proofs.lemmas.Fmt.{decimal_digit, decimal_step}
use lib.IntN.{negsuc, pos, ℤ}
use mir.Syntax.{w64}
use mir.Val.{SFits}
use Rattle.listing.specs.Text.{decimal, digits_of, signed_decimal}

-- the number that digits stand for, most significant first
abbrev pub read_decimal : List ℕ → ℕ
read_decimal text = foldl (λ n digit. n * 10 + (digit - 48)) 0 text

last_read : (n : ℕ) (front : List ℕ) → read_decimal front ≡ n / 10 → read_decimal (front ++ ((48 + n % 10) ∷ [])) ≡ n
last_read n front e =
    foldl-append (λ n digit. n * 10 + (digit - 48)) 0 front ((48 + n % 10) ∷ [])
    ∙ ap (λ (m : ℕ). m * 10 + (48 + n % 10 - 48)) e ∙ omega arith

digits_read : (k n : ℕ) (last : Bool) → ltb n 10 ≡ last → n < k → read_decimal (digits_of k last n) ≡ n
digits_read zero n last e h = absurd (omega arith)
digits_read (suc k) n true e h = omega arith
digits_read (suc k) n false e h =
    let ten = no_ge n 10 e in
    last_read n (digits_of k (ltb (n / 10) 10) (n / 10)) (digits_read k (n / 10) (ltb (n / 10) 10) refl (omega arith))

pub decimal_read : (n : ℕ) → read_decimal (decimal n) ≡ n
unfolding decimal
decimal_read n = digits_read (suc n) n (ltb n 10) refl (omega arith)

-- Every character is a digit.
abbrev Digit : ℕ → Type 0
Digit c = (48 ≤ c) × (c < 58)

digits-digits : (k n : ℕ) (last : Bool) → ltb n 10 ≡ last → All Digit (digits_of k last n)
digits-digits zero n last e = []ᴬ
digits-digits (suc k) n true e = let h = yes_lt n 10 e in ◌∷ᴬ◌ {x = 48 + n} (omega arith, omega arith) []ᴬ
digits-digits (suc k) n false e = All_append (digits-digits k (n / 10) (ltb (n / 10) 10) refl) (◌∷ᴬ◌ {x = 48 + n % 10} (omega arith, omega arith) []ᴬ)

pub decimal-digits : (n : ℕ) → All Digit (decimal n)
unfolding decimal
decimal-digits n = digits-digits (suc n) n (ltb n 10) refl

-- ---- what std prints
std_digits : (fuel n : ℕ) (last : Bool) → ltb n 10 ≡ last → n < fuel → n < 2 ^ 64 → std-text.decimal n ≡ digits_of fuel last n
std_digits zero n last e h small = absurd (omega arith)
std_digits (suc fuel) n true e h small = decimal_digit n (yes_lt n 10 e)
std_digits (suc fuel) n false e h small =
    let large = no_ge n 10 e in
    decimal_step n large small ∙ ap (λ (l : List ℕ). l ++ ((48 + n % 10) ∷ [])) (std_digits fuel (n / 10) (ltb (n / 10) 10) refl (omega arith) (omega arith))

-- What std prints for a number of 64 bits is the decimal text.
pub std_decimal : (n : ℕ) → n < 2 ^ 64 → std-text.decimal n ≡ decimal n
unfolding decimal
std_decimal n small = std_digits (suc n) n (ltb n 10) refl (omega arith) small

-- The same with a sign.
pub std_signed : (v : ℤ) → SFits w64 v → std-text.signed_decimal v ≡ signed_decimal v
std_signed (pos n) f = std_decimal n (omega (arith, f.sfits))
std_signed (negsuc n) f = ap (λ (l : List ℕ). 45 ∷ l) (std_decimal (suc n) (omega (arith, f.sfits)))

-- A number below 10^k has at most k digits.
digits_short : (fuel n k : ℕ) (last : Bool) → ltb n 10 ≡ last → n < 10 ^ suc k → length (digits_of fuel last n) ≤ suc k
digits_short zero n k last e h = omega arith
digits_short (suc fuel) n k true e h = omega arith
digits_short (suc fuel) n zero false e h = let large = no_ge n 10 e in let one = pow-suc 10 0 in let none = pow-zero 10 in absurd (omega arith)
digits_short (suc fuel) n (suc k) false e h =
    let step = pow-suc 10 (suc k) in
    let front = digits_of fuel (ltb (n / 10) 10) (n / 10) in
    let less = digits_short fuel (n / 10) k (ltb (n / 10) 10) refl (omega arith) in
    let more = length-append front ((48 + n % 10) ∷ []) in
    omega arith

pub decimal_short : (n k : ℕ) → n < 10 ^ suc k → length (decimal n) ≤ suc k
unfolding decimal
decimal_short n k h = digits_short (suc n) n k (ltb n 10) refl h
