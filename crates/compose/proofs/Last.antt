-- The last cross onto a field is its kept map, and exhaustive forces by masks before sets.
use mathlib.Core.List.{List, [], ◌++◌, ◌∷◌, foldl, foldl-append}
use mathlib.Core.Option.{none, some}
use mathlib.Core.Path.{◌∙◌, ◌≡◌, ap, refl}
use Prim.Native.Nat.{ℕ}
use lib.IntN.{ℤ}
use Rattle.lists.specs.Lists.{filter}
use Rattle.lists.proofs.Tests.{eqb_no, eqb_yes}
use Rattle.spec.specs.Spec.{ConstraintSpec, Cross, Entry, by_mask, by_set}
use Rattle.compose.specs.Force.{enables, force, force_by, forcing_order}
use Rattle.compose.specs.Maps.{keep_by, kept, kept_map, replace_if}
use Rattle.compose.specs.Tuples.{exhaustive, structural}

-- The last cross onto a field is kept, whatever stood before it.
pub kept_last : (cs : List ConstraintSpec) (parent f : ℕ) (entries : List Entry) → kept_map (cs ++ (Cross parent f entries ∷ [])) f ≡ some (kept parent entries)
kept_last cs parent f entries = foldl-append (keep_by f) none cs (Cross parent f entries ∷ []) ∙ ap (λ b. replace_if b parent entries (kept_map cs f)) (eqb_yes f f refl)

-- A cross onto another field changes nothing.
pub kept_other : (cs : List ConstraintSpec) (parent child f : ℕ) (entries : List Entry) → ¬ (child ≡ f) → kept_map (cs ++ (Cross parent child entries ∷ [])) f ≡ kept_map cs f
kept_other cs parent child f entries h = foldl-append (keep_by f) none cs (Cross parent child entries ∷ []) ∙ ap (λ b. replace_if b parent entries (kept_map cs f)) (eqb_no child f h)

-- Structural forces by a constraint after those before it.
pub force_structural : (cs : List ConstraintSpec) (c : ConstraintSpec) (row : List ℤ) → force structural (cs ++ (c ∷ [])) row ≡ force_by (force structural cs row) c
unfolding force forcing_order
force_structural cs c row = foldl-append force_by row cs (c ∷ [])

-- Exhaustive takes all enable_mask in file order, then all enable_set in file order.
pub force_exhaustive : (cs : List ConstraintSpec) (row : List ℤ) → force exhaustive cs row ≡ foldl force_by (foldl force_by row (filter (enables by_mask) cs)) (filter (enables by_set) cs)
unfolding force forcing_order
force_exhaustive cs row = foldl-append force_by row (filter (enables by_mask) cs) (filter (enables by_set) cs)
