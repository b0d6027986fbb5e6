-- What the machine's tests of 64-bit signed numbers say of the numbers. A signed local holds bits.
use mathlib.Core.Path.{◌≡◌, refl}
use Prim.Native.Nat.{◌-◌, ◌^◌, suc}
use native.Mathlib.Omega.{arith}
use lib.Dec.{eqb}
use lib.IntN.{negsuc, pos, ℤ}
use mir.Syntax.{w64}
use mir.Val.{SFits, of_z}
use Rattle.lists.specs.Integers.{eq_z}
use Rattle.lists.proofs.Tests.{eqb_ext, eqb_no}

-- equality of the bits is equality of the numbers
pub eq_bits : (a b : ℤ) → SFits w64 a → SFits w64 b → eqb (of_z w64 a) (of_z w64 b) ≡ eq_z a b
eq_bits (pos a) (pos b) f g = refl
eq_bits (pos a) (negsuc b) f g = eqb_no a (2 ^ 64 - suc b) (λ e. omega arith)
eq_bits (negsuc a) (pos b) f g = eqb_no (2 ^ 64 - suc a) b (λ e. omega arith)
eq_bits (negsuc a) (negsuc b) f g = eqb_ext (2 ^ 64 - suc a) (2 ^ 64 - suc b) a b (λ e. omega arith) (λ e. omega arith)

pub zero_fits : SFits w64 (pos 0)
zero_fits = record { sfits = omega arith }
