-- A rule of a constant table, proved at all of its entries by one test that is computed over the whole table.
use mathlib.Core.Bool.{Bool, ◌&&◌, true}
use mathlib.Core.List.{List, [], ◌∷◌}
use mathlib.Core.Path.{◌∙◌, ◌≡◌, ap, sym}
use Prim.Native.Nat.{◌+◌, ◌<◌, suc, zero, ℕ}
use native.Mathlib.Nat.{add-suc, add-zero, suc-add, zero-add}
use native.Mathlib.Omega.{arith}
use lib.ListN.{get_or, length}
use Rattle.lists.proofs.Tests.{and_split}

-- the test passes at each entry and its place, counted from i
abbrev pub every : (ℕ → ℕ → Bool) → ℕ → List ℕ → Bool
every test i [] = true
every test i (x ∷ xs) = test i x && every test (suc i) xs

every_from : (test : ℕ → ℕ → Bool) (xs : List ℕ) (i : ℕ) → every test i xs ≡ true → (k : ℕ) → k < length xs → test (i + k) (get_or xs k 0) ≡ true
every_from test [] i e k h = absurd (omega arith)
every_from test (x ∷ xs) i e zero h = ap (λ (m : ℕ). test m x) (add-zero i) ∙ (and_split (test i x) (every test (suc i) xs) e).0
every_from test (x ∷ xs) i e (suc k) h =
    ap (λ (m : ℕ). test m (get_or xs k 0)) (add-suc i k ∙ sym (suc-add i k)) ∙ every_from test xs (suc i) (and_split (test i x) (every test (suc i) xs) e).1 k (omega arith)

-- So it passes at each place.
pub table_at : (test : ℕ → ℕ → Bool) (xs : List ℕ) → every test 0 xs ≡ true → (k : ℕ) → k < length xs → test k (get_or xs k 0) ≡ true
table_at test xs e k h = ap (λ (m : ℕ). test m (get_or xs k 0)) (sym (zero-add k)) ∙ every_from test xs 0 e k h
