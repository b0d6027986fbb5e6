-- Functions on whole numbers that the kit lacks.
use Rattle.std.specs.Prelude.{Bool, false, cond, List, [], ◌∷◌, ℕ, suc, ◌+◌, ◌-◌, ◌*◌, ◌^◌, eqb, ltb, ℤ, pos, negsuc, ◌+ℤ◌}
use Rattle.std.specs.Int.Bits.{bit_and}
use Rattle.lists.specs.Lists.{any}

abbrev pub eq_z : ℤ → ℤ → Bool
eq_z (pos a) (pos b) = eqb a b
eq_z (pos a) (negsuc b) = false
eq_z (negsuc a) (pos b) = false
eq_z (negsuc a) (negsuc b) = eqb a b

abbrev pub elem_z : ℤ → List ℤ → Bool
elem_z v vs = any (eq_z v) vs

abbrev pub sum_z : List ℤ → ℤ
sum_z [] = pos 0
sum_z (v ∷ vs) = v +ℤ sum_z vs

-- v AND m in two's complement, for m not negative. −1 − a is NOT a, and NOT a AND m is m without the bits of a
abbrev pub and_z : ℤ → ℕ → ℕ
and_z (pos a) m = bit_and m a
and_z (negsuc a) m = m - bit_and m a

abbrev pub low_bit : ℤ → ℕ
low_bit v = and_z v 1

-- the number that bytes stand for, least significant first
abbrev pub little_endian : List ℕ → ℕ
little_endian [] = 0
little_endian (x ∷ xs) = x + 256 * little_endian xs

-- a 64-bit word read as a signed number
abbrev pub signed64 : ℕ → ℤ
signed64 n = cond (ltb n (2 ^ 63)) (pos n) (negsuc (2 ^ 64 - suc n))
