-- What a place says.
use mathlib.Core.Bool.{Bool, ◌&&◌, false, true, true≢false}
use mathlib.Core.List.{List, [], ◌++◌, ◌∷◌, map}
use mathlib.Core.Option.{none}
use mathlib.Core.Path.{◌∙◌, ◌≡◌, ap, refl}
use Prim.Native.Nat.{◌+◌, ◌<◌, suc, zero, ℕ}
use native.Mathlib.Omega.{arith}
use lib.Dec.{eqb}
use lib.IntN.{ℤ}
use lib.ListN.{get_or, length, length-append, length-map}
use Rattle.lists.specs.Lists.{all, first_false}
use Rattle.lists.proofs.First.{first_false_append, first_false_at, first_false-none}
use Rattle.lists.proofs.Lists.{all_append, all_map, get_d_left}
use Rattle.lists.proofs.Tests.{yes_eq}
use Rattle.spec.specs.Spec.{FieldSpec, Spec}
use Rattle.registry.specs.Check.{holds}
use Rattle.registry.specs.Project.{project}
use Rattle.evaluate.specs.Verdict.{evaluate, field_checks, if_passed, passed, place_of}

pub length-field_checks : (fs : List FieldSpec) (row : List ℤ) → length (field_checks fs row) ≡ length fs
length-field_checks [] row = refl
length-field_checks (f ∷ fs) [] = ap suc (length-field_checks fs [])
length-field_checks (f ∷ fs) (v ∷ row) = ap suc (length-field_checks fs row)

-- A row passes exactly when every field check and every constraint is met.
pub passed_exactly : (s : Spec) (row : List ℤ) → passed (evaluate s row) ≡ (all (λ b. b) (field_checks s.fields row) && all (holds row) s.constraints)
passed_exactly s row =
    first_false-none (field_checks s.fields row ++ map (holds row) s.constraints)
    ∙ all_append (λ b. b) (field_checks s.fields row) (map (holds row) s.constraints)
    ∙ ap (λ b. all (λ c. c) (field_checks s.fields row) && b) (all_map (λ c. c) (holds row) s.constraints)

-- Field number + 1, where field f is the first whose check fails.
pub place_field : (s : Spec) (row : List ℤ) (f : ℕ) → f < length s.fields → ((g : ℕ) → g < f → get_or (field_checks s.fields row) g true ≡ true) → get_or (field_checks s.fields row) f true ≡ false → place_of s row ≡ suc f
place_field s row f h before e =
    first_false_at (checks ++ rules) f (rw (length-append checks rules, length-field_checks s.fields row) (omega arith))
    (λ g k. get_d_left checks rules true g (length-field_checks s.fields row) (omega arith) ∙ before g k) (get_d_left checks rules true f (length-field_checks s.fields row) h ∙ e)
  where
    checks : List Bool
    checks = field_checks s.fields row

    rules : List Bool
    rules = map (holds row) s.constraints

-- n + constraint number from 1, where every field check passes and constraint c, counted from 0, is the first that is not met.
pub place_constraint : (s : Spec) (row : List ℤ) (c : ℕ) → c < length s.constraints → first_false (field_checks s.fields row) ≡ 0
    → ((d : ℕ) → d < c → get_or (map (holds row) s.constraints) d true ≡ true) → get_or (map (holds row) s.constraints) c true ≡ false → place_of s row ≡ length s.fields + suc c
place_constraint s row c h fields before e =
    first_false_append (field_checks s.fields row) (map (holds row) s.constraints)
    ∙ rw (fields, length-field_checks s.fields row, first_false_at (map (holds row) s.constraints) c (rw (length-map s.constraints (holds row)) h) before e)

-- A failed verdict has no projection.
pub failed-none : (s : Spec) (row : List ℤ) → passed (evaluate s row) ≡ false → (evaluate s row).projection ≡ none
failed-none s row h = go (place_of s row) h
  where
    go : (p : ℕ) → eqb p 0 ≡ false → if_passed p (project s.projector row) ≡ none
    go zero h = absurd (true≢false h)
    go (suc p) h = refl

-- A passed one has the projector's.
pub passed_projects : (s : Spec) (row : List ℤ) → passed (evaluate s row) ≡ true → (evaluate s row).projection ≡ project s.projector row
passed_projects s row h = ap (λ (p : ℕ). if_passed p (project s.projector row)) (yes_eq (place_of s row) 0 h)
