-- The machine's AND and remainder by 2, of the numbers.
use mathlib.Core.Bool.{false, true≢false}
use mathlib.Core.Path.{◌∙◌, ◌≡◌, ap, sym}
use Prim.Native.Nat.{◌^◌, ◌<◌, ◌≤◌, ℕ}
use native.Mathlib.Omega.{arith}
use lib.Bits.{and_le_l, bit_and}
use lib.Dec.{eqb}
use lib.IntN.{nat_abs, negsuc, pos, ℤ}
use mir.Syntax.{w64}
use mir.Val.{SFits, of_z}
use Rattle.lists.specs.Integers.{and_z, eq_z}
use Rattle.lists.proofs.Bits.{and_z_word}
use Rattle.lists.proofs.Words.{eq_bits}
use Rattle.spec.specs.Refusal.{negative}

and_le : (v : ℤ) (m : ℕ) → and_z v m ≤ m
and_le (pos a) m = and_le_l m a
and_le (negsuc a) m = omega arith

and_bits : (v : ℤ) (m : ℕ) → SFits w64 v → m < 2 ^ 63 → bit_and (of_z w64 v) m ≡ and_z v m
and_bits (pos a) m f h = sym (and_z_word 64 (pos a) m (omega arith) (omega arith))
and_bits (negsuc a) m f h = sym (and_z_word 64 (negsuc a) m (omega arith) (omega arith))

pub masked : (v mask q : ℤ) → SFits w64 v → SFits w64 mask → SFits w64 q → negative mask ≡ false
    → eqb (bit_and (of_z w64 v) (of_z w64 mask)) (of_z w64 q) ≡ eq_z (pos (and_z v (nat_abs mask))) q
masked v (pos m) q fv fm fq n =
    ap (λ (x : ℕ). eqb x (of_z w64 q)) (and_bits v m fv fm.sfits) ∙ eq_bits (pos (and_z v m)) q (record { sfits = omega (arith, and_le v m, fm.sfits) }) fq
masked v (negsuc m) q fv fm fq n = absurd (true≢false n)
