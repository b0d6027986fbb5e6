-- Two functions of a number that are equal on a range, by one equation that is computed over the whole range.
use mathlib.Core.List.{map}
use mathlib.Core.Path.{◌≡◌, subst}
use Prim.Native.Nat.{◌+◌, ◌<◌, ◌≤◌, suc, zero, ℕ}
use native.Mathlib.Decide.{ℕ_discrete}
use native.Mathlib.Omega.{arith}
use Rattle.lists.specs.Lists.{span}

pub in_range : {A : Type 0} (f g : ℕ → A) (lo n : ℕ) → map f (span lo n) ≡ map g (span lo n) → (k : ℕ) → lo ≤ k → k < lo + n → f k ≡ g k
in_range f g lo zero e k h l = absurd (omega arith)
in_range f g lo (suc n) e k h l = go (ℕ_discrete lo k) (cc) (in_range f g (suc lo) n (cc) k)
  where
    go : Dec (lo ≡ k) → f lo ≡ g lo → (suc lo ≤ k → k < suc lo + n → f k ≡ g k) → f k ≡ g k
    go (yes q) first later = subst (λ i. f i ≡ g i) q first
    go (no q) first later = later (omega arith) (omega arith)
