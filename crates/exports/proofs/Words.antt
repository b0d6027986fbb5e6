-- The words of an answer, written at the start of the lent array, and the status.
use mathlib.Core.Bool.{Bool, true}
use mathlib.Core.List.{List, [], ◌∷◌}
use mathlib.Core.Option.{Option, none}
use mathlib.Core.Path.{◌∙◌, ◌≡◌, ap, refl}
use Prim.Native.Nat.{ℕ}
use lib.ListN.{length, take}
use Rattle.lists.specs.Lists.{over}
use Rattle.spec.specs.Record.{decoded}
use Rattle.spec.specs.Refusal.{Answer, Refused, file_fault, unless_refused}
use Rattle.spec.specs.declared.validate.Shape as code
use Rattle.classifier.specs.Count.{scratch_for}
use Rattle.classifier.specs.Page.{after_tuple}
use Rattle.classifier.proofs.Answered.{ShapeIs}
use Rattle.exports.specs.Calls.{if_called, spec_words, start_of, status}

-- An answer that is told is the one that is given, and so are its words.
module _ {R A : Type 0} (words : Answer R A → List ℕ) (told given : Answer R A) (long : Bool) (l : long ≡ true) (is : told ≡ given) where
  pub answered : (new old : List ℕ) → new ≡ over (words told) old → (status true true told ≡ status long true given) × (new ≡ if_called long true (over (words given) old) old)
  answered new old e = (rw l (ap (status true true) is), rw l (e ∙ ap (λ (a : Answer R A). over (words a) old) is))

-- ---- a file that is accepted
pub spec_told : (file : List ℕ) (shape : code.Shape) (scratch : ℕ) → file_fault file ≡ none → ShapeIs file shape → scratch ≡ unless_refused (file_fault file) (scratch_for (decoded file)) 0
    → (shape.fields ∷ shape.constraints ∷ shape.total ∷ scratch ∷ []) ≡ spec_words (decoded file)
spec_told file shape scratch fine is e =
    let s : scratch ≡ scratch_for (decoded file) = e ∙ ap (λ (o : Option Refused). unless_refused o (scratch_for (decoded file)) 0) fine in
    λ i. is.fields i ∷ is.constraints i ∷ is.total_is i ∷ s i ∷ []

-- ---- the start of a page
-- A tuple is given where the lent numbers are not empty: the first 32 of them.
pub start_tuple_lem : (l t : List ℕ) → ¬ (length l ≡ 0) → t ≡ take 32 l → after_tuple t ≡ start_of l
start_tuple_lem [] t h e = absurd (h refl)
start_tuple_lem (x ∷ l) t h e = ap after_tuple e
