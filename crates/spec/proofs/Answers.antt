-- The answer of validate, case by case.
use mathlib.Core.Bool.{Bool, cond, false, true}
use mathlib.Core.List.{List}
use mathlib.Core.Option.{none, some}
use mathlib.Core.Path.{◌≡◌, refl, sym}
use Prim.Native.Nat.{◌<◌, ◌≤◌, ℕ}
use native.Mathlib.Omega.{arith}
use lib.Dec.{leb, ltb}
use lib.ListN.{length}
use Rattle.lists.proofs.Tests.{ltb_no, ltb_yes, no_gt}
use Rattle.spec.specs.Code.{capped}
use Rattle.spec.specs.Domain.{too_many, total}
use Rattle.spec.specs.Record.{decoded, records_of}
use Rattle.spec.specs.Refusal.{Refused, accepted, answer, file_fault, ragged, records_fault, refused}
use Rattle.spec.specs.Shape.{Shape, shape_of, stands_at}
use Rattle.spec.specs.Spec.{Spec}

-- ---- the capped total
pub many : (s : Spec) → 1000000000 < capped (total s) → too_many s ≡ true
unfolding too_many
many s h = go (leb (total s) 1000000000) refl h
  where
    go : (b : Bool) → leb (total s) 1000000000 ≡ b → 1000000000 < cond b (total s) 1000000001 → ltb 1000000000 (total s) ≡ true
    go true e h = ltb_yes 1000000000 (total s) h
    go false e h = let g = no_gt (total s) 1000000000 e in ltb_yes 1000000000 (total s) (omega arith)

pub few : (s : Spec) → capped (total s) ≤ 1000000000 → (too_many s ≡ false) × (capped (total s) ≡ total s)
unfolding too_many
few s h = go (leb (total s) 1000000000) refl h
  where
    go : (b : Bool) → leb (total s) 1000000000 ≡ b → cond b (total s) 1000000001 ≤ 1000000000 → (ltb 1000000000 (total s) ≡ false) × (cond b (total s) 1000000001 ≡ total s)
    go true e h = (ltb_no 1000000000 (total s) h, refl)
    go false e h = absurd (omega arith)

-- ---- the answer
module _ (file : List ℕ) (s : Shape) where
  pub answer-ragged : ragged file ≡ true → refused (record { number = 1; at = 0 }) ≡ answer (file_fault file) s
  unfolding file_fault
  answer-ragged e = rw e

  module _ (whole : ragged file ≡ false) where
    pub answer_fault : (r : Refused) → some r ≡ records_fault (records_of file) → refused r ≡ answer (file_fault file) s
    unfolding file_fault
    answer_fault r e = rw (whole, sym e)

    pub answer_many : records_fault (records_of file) ≡ none → too_many (decoded file) ≡ true → refused (record { number = 10; at = 0 }) ≡ answer (file_fault file) s
    unfolding file_fault
    answer_many e m = rw (whole, e, m)

    pub answer-accepted : records_fault (records_of file) ≡ none → too_many (decoded file) ≡ false → accepted s ≡ answer (file_fault file) s
    unfolding file_fault
    answer-accepted e m = rw (whole, e, m)

-- The shape, part by part.
pub shape_is : (file : List ℕ) {f k a b t : ℕ} → f ≡ length (decoded file).fields → k ≡ length (decoded file).constraints → a ≡ stands_at 1 (records_of file) → b ≡ stands_at 2 (records_of file) → t ≡ total (decoded file)
    → ◌≡◌ {A = Shape} (record { fields = f; constraints = k; constraints_at = a; projector_at = b; total = t }) (shape_of file)
unfolding shape_of
shape_is file f k a b t = λ i. record { fields = f i; constraints = k i; constraints_at = a i; projector_at = b i; total = t i }
