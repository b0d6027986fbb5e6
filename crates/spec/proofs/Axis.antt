-- The turns of a loop that looks for a record.
use mathlib.Core.Bool.{Bool, ◌||◌, false, true}
use mathlib.Core.List.{List}
use mathlib.Core.Path.{◌∙◌, ◌≡◌, ap, refl, sym}
use Prim.Native.Nat.{◌+◌, ◌/◌, ◌<◌, ◌≤◌, suc, zero, ℕ}
use native.Mathlib.Numerals.{add-one}
use native.Mathlib.Omega.{arith}
use lib.ListN.{drop, drop_of_length-le, length}
use Rattle.std.specs.List.{list_any, range_with_len}
use Rattle.lists.specs.Lists.{any}
use Rattle.spec.specs.Record.{Record, record_at, records_of}
use Rattle.spec.proofs.Fields.{length_records, records_from}

or_five : (a b c d e : Bool) → (a || (b || (c || (d || e)))) ≡ (a || b || c || d || e)
or_five true b c d e = refl
or_five false true c d e = refl
or_five false false true d e = refl
or_five false false false d e = refl

module _ (p : Record → Bool) (file : List ℕ) where
  -- Some record from i on passes the test.
  abbrev pub any_from : ℕ → Bool
  any_from i = any p (drop i (records_of file))

  pub any_more : (i : ℕ) → i < length file / 32 → p (record_at file i) ≡ false → any_from (i + 1) ≡ any_from i
  any_more i h t = rw (add-one, records_from file i h) (rw t)

  pub any-stop : (i : ℕ) → i < length file / 32 → p (record_at file i) ≡ true → any_from i ≡ true
  any-stop i h t = rw (records_from file i h) (rw t)

  pub any_end : (i : ℕ) → length file / 32 ≤ i → any_from i ≡ false
  any_end i h = let e : length (records_of file) ≤ i = omega (arith, length_records file) in rw (drop_of_length-le (records_of file) e)

  -- So is it one record on, and four.
  pub any_step : (i k : ℕ) → i + 1 ≡ k → i < length file / 32 → any_from i ≡ (p (record_at file i) || any_from k)
  any_step i k e h = ap (any p) (records_from file i h) ∙ ap (λ (j : ℕ). p (record_at file i) || any_from j) (sym (add-one i) ∙ e)

  pub any_four : (i : ℕ) → i + 4 ≤ length file / 32
      → any_from i ≡ (p (record_at file i) || p (record_at file (i + 1)) || p (record_at file (i + 2)) || p (record_at file (i + 3)) || any_from (i + 4))
  any_four i h =
      let a = p (record_at file i) in
      let b = p (record_at file (i + 1)) in
      let c = p (record_at file (i + 2)) in
      any_step i (i + 1) refl (omega arith)
      ∙ ap (λ (t : Bool). a || t) (any_step (i + 1) (i + 2) (omega arith) (omega arith))
      ∙ ap (λ (t : Bool). a || (b || t)) (any_step (i + 2) (i + 3) (omega arith) (omega arith))
      ∙ ap (λ (t : Bool). a || (b || (c || t))) (any_step (i + 3) (i + 4) (omega arith) (omega arith))
      ∙ or_five a b c (p (record_at file (i + 3))) (any_from (i + 4))

  -- The same, asked of the record at each place.
  any-places : (n i : ℕ) → i + n ≡ length file / 32 → list_any (λ (j : ℕ). p (record_at file j)) (range_with_len i n) ≡ any_from i
  any-places zero i e = sym (any_end i (omega arith))
  any-places (suc n) i e =
      ap (λ (b : Bool). p (record_at file i) || b) (any-places n (i + 1) (omega arith) ∙ ap any_from (add-one i))
      ∙ sym (ap (any p) (records_from file i (omega arith)))

  pub any_place : list_any (λ (j : ℕ). p (record_at file j)) (range_with_len 0 (length file / 32)) ≡ any p (records_of file)
  any_place = any-places (length file / 32) 0 (omega arith)
