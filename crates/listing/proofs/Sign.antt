use mathlib.Core.Bool.{false, true}
use mathlib.Core.Path.{◌∙◌, ◌≡◌, sym}
use native.Mathlib.Omega.{arith}
use lib.IntN.{pos, ℤ}
use mir.Syntax.{w64}
use mir.Val.{SFits, of_z}
use Rattle.lists.specs.Integers.{eq_z}
use Rattle.lists.proofs.Tests.{eqb_no, eqb_yes}
use Rattle.lists.proofs.Words.{eq_bits}

-- A test for 1, on the bits.
one_fits : SFits w64 (pos 1)
one_fits = record { sfits = omega arith }

pub is_one : (v : ℤ) → SFits w64 v → of_z w64 v ≡ 1 → eq_z v (pos 1) ≡ true
is_one v f e = sym (eq_bits v (pos 1) f one_fits) ∙ eqb_yes (of_z w64 v) 1 e

pub not_one : (v : ℤ) → SFits w64 v → ¬ (of_z w64 v ≡ 1) → eq_z v (pos 1) ≡ false
not_one v f e = sym (eq_bits v (pos 1) f one_fits) ∙ eqb_no (of_z w64 v) 1 e
