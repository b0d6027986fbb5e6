-- Laws of numbers read from bytes.
use mathlib.Core.List.{List}
use mathlib.Core.Path.{◌≡◌}
use Prim.Native.Nat.{◌*◌, ◌+◌, ◌<◌, ◌≤◌, suc, ℕ}
use native.Mathlib.Nat.{add-suc}
use native.Mathlib.Numerals.{add-one}
use native.Mathlib.Omega.{arith}
use lib.ListN.{drop, get_or, length, take}
use lib.Seq.{drop-cons}
use Rattle.lists.specs.Integers.{little_endian}

-- one byte off the front
digit : (s : List ℕ) (at k n : ℕ) → at + k < length s → little_endian (take (suc n) (drop (at + k) s)) ≡ get_or s (at + k) 0 + 256 * little_endian (take n (drop (at + suc k) s))
digit s at k n h = rw (drop-cons s (at + k) 0 h, add-suc)

digit₀ : (s : List ℕ) (at n : ℕ) → at < length s → little_endian (take (suc n) (drop at s)) ≡ get_or s at 0 + 256 * little_endian (take n (drop (at + 1) s))
digit₀ s at n h = rw (drop-cons s at 0 h, add-one)

-- Three bytes, and five as one number.
pub lead_word : (s : List ℕ) (at : ℕ) → at + 8 ≤ length s → little_endian (take 8 (drop at s)) ≡ get_or s at 0 + get_or s (at + 1) 0 * 0x100 + get_or s (at + 2) 0 * 0x1_0000 + little_endian (take 5 (drop (at + 3) s)) * 0x100_0000
lead_word s at h = omega (arith, digit₀ s at 7 (omega arith), digit s at 1 6 (omega arith), digit s at 2 5 (omega arith))
