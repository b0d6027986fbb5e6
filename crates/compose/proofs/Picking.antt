-- Numbers that pass a test, written into a list behind those before.
use mathlib.Core.Bool.{Bool, false, true}
use mathlib.Core.List.{List, [], ◌++◌, ◌∷◌, append_assoc, append-nil}
use mathlib.Core.Logic.{◌⊎◌, inl, inr}
use mathlib.Core.Path.{◌∙◌, ◌≡◌, ap, sym}
use Prim.Native.Nat.{◌+◌, ◌-◌, ◌<◌, ◌≤◌, suc, ℕ}
use native.Mathlib.Nat.{add-zero, zero-add}
use native.Mathlib.Omega.{arith}
use lib.ListN.{drop, length, length-append, set, take, take-append-drop}
use lib.Seq.{length-take-le}
use Rattle.lists.specs.Lists.{cons_if, filter, over, span, upto}
use Rattle.lists.proofs.Filling.{over-long, over_more}
use Rattle.lists.proofs.Lists.{filter_append}
use Rattle.lists.proofs.Numbers.{span_add, upto_add}

pub upto_more : (j : ℕ) → upto (j + 1) ≡ upto j ++ (j ∷ [])
upto_more j = upto_add j 1 ∙ ap (λ (n : ℕ). upto j ++ (n ∷ [])) (add-zero j)

module _ (q : ℕ → Bool) (old : List ℕ) (before : ℕ) where
  -- those before, and those below k that pass
  abbrev pub picked : ℕ → List ℕ
  picked k = take before old ++ filter q (upto k)

  pub picking_start : before ≤ length old → (old ≡ over (picked 0) old) × (before ≡ before + length (filter q (upto 0)))
  picking_start h = (
    sym (take-append-drop before old) ∙ ap (λ (l : List ℕ). l ++ drop before old) (sym (append-nil (take before old))) ∙ ap (λ (n : ℕ). picked 0 ++ drop n old) (sym (ap length (append-nil (take before old)) ∙ length-take-le before old h)),
    sym (add-zero before),
  )

  -- There is room for one that passes.
  pub picking_room : (c k : ℕ) → k < c → q k ≡ true → before + length (filter q (upto c)) ≤ length old → before + length (filter q (upto k)) < length old
  picking_room c k h e room =
      let s : k + (c - k) ≡ c = omega arith in
      let n : c - k ≡ suc (c - suc k) = omega arith in
      let split : upto c ≡ upto k ++ span k (c - k) = ap upto (sym s) ∙ span_add 0 k (c - k) ∙ ap (λ (i : ℕ). upto k ++ span i (c - k)) (zero-add k) in
      let parts = ap (filter q) split ∙ filter_append q (upto k) (span k (c - k)) in
      let one : filter q (span k (c - k)) ≡ k ∷ filter q (span (suc k) (c - suc k)) = rw (n, e) in
      omega (arith, ap length parts, length-append (filter q (upto k)) (filter q (span k (c - k))), ap length one)

  module _ (k : ℕ) where
    more : (b : Bool) → q k ≡ b → filter q (upto (k + 1)) ≡ filter q (upto k) ++ cons_if b k []
    more b e = ap (filter q) (upto_more k) ∙ filter_append q (upto k) (k ∷ []) ∙ ap (λ (b : Bool). filter q (upto k) ++ cons_if b k []) e

    picked-long : before ≤ length old → length (picked k) ≡ before + length (filter q (upto k))
    picked-long h = length-append (take before old) (filter q (upto k)) ∙ ap (λ (n : ℕ). n + length (filter q (upto k))) (length-take-le before old h)

    module _ (numbers : List ℕ) (count : ℕ) (w : numbers ≡ over (picked k) old) (n : count ≡ before + length (filter q (upto k))) where
      pub picking_long : before + length (filter q (upto k)) ≤ length old → length numbers ≡ length old
      picking_long h = ap length w ∙ over-long (picked k) old (omega (arith, picked-long (omega arith)))

      -- Number k was looked at: t is whether it passes.
      pub picking_turn : (numbers' : List ℕ) (count' : ℕ) (t : Bool) → q k ≡ t
          → ((t ≡ true) × (before + length (filter q (upto k)) < length old) × (numbers' ≡ set numbers count k) × (count' ≡ count + 1)) ⊎ ((t ≡ false) × (numbers' ≡ numbers) × (count' ≡ count))
          → (numbers' ≡ over (picked (k + 1)) old) × (count' ≡ before + length (filter q (upto (k + 1))))
      picking_turn numbers' count' t e (inl (y, room, a, b)) =
          let m = more true (e ∙ y) in
          let long = picked-long (omega arith) in
          let c : count ≡ length (picked k) = n ∙ sym long in (
            a ∙ ap (λ (z : List ℕ). set z count k) w ∙ ap (λ (i : ℕ). set (over (picked k) old) i k) c ∙ over_more (picked k) old k (omega (arith, long))
                ∙ ap (λ (z : List ℕ). over z old) (append_assoc (take before old) (filter q (upto k)) (k ∷ []) ∙ ap (λ (z : List ℕ). take before old ++ z) (sym m)),
            omega (arith, b, n, ap length m, length-append (filter q (upto k)) (k ∷ [])),
          )
      picking_turn numbers' count' t e (inr (y, a, b)) =
          let m = more false (e ∙ y) ∙ append-nil (filter q (upto k)) in (
            a ∙ w ∙ ap (λ (z : List ℕ). over (take before old ++ z) old) (sym m),
            omega (arith, b, n, ap length m),
          )
