-- The place of a row, by the fields and by the constraints that fail.
use mathlib.Core.Bool.{Bool, and-true, cond, false, true}
use mathlib.Core.List.{List, [], ◌++◌, ◌∷◌, map}
use mathlib.Core.Path.{◌∙◌, ◌≡◌, ap, ap₂, refl, sym}
use Prim.Native.Nat.{◌+◌, ◌-◌, ◌≤◌, suc, zero, ℕ}
use native.Mathlib.Numerals.{add-one}
use native.Mathlib.Omega.{arith}
use lib.IntN.{ℤ}
use lib.ListN.{drop, get_or, length, length-append, length-drop}
use Rattle.lists.specs.Lists.{all, concat_map, first_false, place_at, span, upto}
use Rattle.lists.proofs.First.{first_false_append, or_shift, shift}
use Rattle.spec.specs.Kind.{Kind, constraint, field, member, projector, unknown}
use Rattle.spec.specs.Record.{Group, constraint_in, constraint_of, group}
use Rattle.spec.specs.Spec.{ConstraintSpec, Spec}
use Rattle.registry.specs.Check.{holds}
use Rattle.registry.specs.Code.{group_in}
use Rattle.compose.specs.Code.{constraints_in, groups_in}
use Rattle.compose.proofs.Chosen.{groups-few}
use Rattle.compose.proofs.Positions.{groups_end, groups_turn}
use Rattle.evaluate.specs.Code.{behind, first_chosen, holds_at}
use Rattle.evaluate.specs.Verdict.{field_checks, place_of}
use Rattle.evaluate.proofs.Place.{length-field_checks}
use Rattle.evaluate.proofs.Rows.{behind_more, behind-none}

-- ---- of a specification
pub place_fields_lem : (s : Spec) (row : List ℤ) (f : ℕ) → first_false (field_checks s.fields row) ≡ suc f → place_of s row ≡ suc f
place_fields_lem s row f e = first_false_append (field_checks s.fields row) (map (holds row) s.constraints) ∙ rw e

pub place_constraints : (s : Spec) (row : List ℤ) → first_false (field_checks s.fields row) ≡ 0 → place_of s row ≡ behind (length s.fields) (first_false (map (holds row) s.constraints))
place_constraints s row e =
    first_false_append (field_checks s.fields row) (map (holds row) s.constraints)
    ∙ ap₂ (λ (p n : ℕ). or_shift p n (first_false (map (holds row) s.constraints))) e (length-field_checks s.fields row)
    ∙ same (length s.fields) (first_false (map (holds row) s.constraints))
  where
    same : (n k : ℕ) → shift n k ≡ behind n k
    same n zero = refl
    same n (suc k) = refl

-- ---- of heads: every group decodes to at most one constraint
one_at_most : (g : Group) → length (constraint_of g) ≤ 1
one_at_most (group h ms) = go h.kind
  where
    go : (k : Kind) → length (constraint_in k h ms) ≤ 1
    go field = omega arith
    go unknown = omega arith
    go (constraint k) = omega arith
    go (projector k) = omega arith
    go (member k) = omega arith

few-constraints : (gs : List Group) → length (concat_map constraint_of gs) ≤ length gs
few-constraints [] = omega arith
few-constraints (g ∷ gs) =
    let h = one_at_most g in
    let t = few-constraints gs in
    let e = length-append (constraint_of g) (concat_map constraint_of gs) in
    omega arith

-- One constraint in front.
turn : (row : List ℤ) (j : ℕ) (cs rest : List ConstraintSpec) (next : ℕ) → length cs ≡ 1 → next ≡ behind (j + 1) (first_false (map (holds row) rest))
    → cond (all (holds row) cs) next (suc j) ≡ behind j (first_false (map (holds row) (cs ++ rest)))
turn row j [] rest next e r = absurd (omega arith)
turn row j (c ∷ []) rest next e r = rw (r, and-true (holds row c)) (go (holds row c))
  where
    go : (b : Bool) → cond b (behind (j + 1) (first_false (map (holds row) rest))) (suc j) ≡ behind j (place_at b (first_false (map (holds row) rest)))
    go true = sym (behind_more j (first_false (map (holds row) rest)))
    go false = omega arith
turn row j (c ∷ d ∷ cs) rest next e r = absurd (omega arith)

-- The constraints from number j on, m of them.
place_from : (file rules : List ℕ) (row : List ℤ) (m j : ℕ) → suc (j + m) ≡ length rules → length (constraints_in file (drop j rules)) ≡ m
    → first_chosen (holds_at file rules row) (span j m) ≡ behind j (first_false (map (holds row) (constraints_in file (drop j rules))))
place_from file rules row zero j w e = ap (λ (gs : List Group). behind j (first_false (map (holds row) (concat_map constraint_of gs)))) (sym (groups_end file rules j (omega arith)))
place_from file rules row (suc m) j w e =
    turn row j here rest (first_chosen (holds_at file rules row) (span (suc j) m)) counted.0
    (place_from file rules row m (suc j) (omega arith) counted.1 ∙ ap (λ (i : ℕ). behind i (first_false (map (holds row) rest))) (sym (add-one j)))
    ∙ ap (λ (cs : List ConstraintSpec). behind j (first_false (map (holds row) cs))) (sym split)
  where
    here : List ConstraintSpec
    here = constraint_of (group_in file (get_or rules j 0) (get_or rules (suc j) 0))

    rest : List ConstraintSpec
    rest = constraints_in file (drop (suc j) rules)

    split : constraints_in file (drop j rules) ≡ here ++ rest
    split = ap (concat_map constraint_of) (groups_turn file rules j (omega arith))

    counted : (length here ≡ 1) × (length rest ≡ m)
    counted =
        let a = one_at_most (group_in file (get_or rules j 0) (get_or rules (suc j) 0)) in
        let b = few-constraints (groups_in file (drop (suc j) rules)) in
        let d = groups-few file (drop (suc j) rules) m (let l = length-drop (suc j) rules in omega arith) in
        let s = ap length split ∙ length-append here rest in
        (omega arith, omega arith)

pub place_chosen : (file rules : List ℕ) (row : List ℤ) → suc (length (constraints_in file rules)) ≡ length rules → first_false (map (holds row) (constraints_in file rules)) ≡ first_chosen (holds_at file rules row) (upto (length rules - 1))
place_chosen file rules row e =
    let n : length rules - 1 ≡ length (constraints_in file rules) = omega arith in
    behind-none (first_false (map (holds row) (constraints_in file rules)))
    ∙ sym (place_from file rules row (length (constraints_in file rules)) 0 (omega arith) refl)
    ∙ ap (λ (k : ℕ). first_chosen (holds_at file rules row) (upto k)) (sym n)
