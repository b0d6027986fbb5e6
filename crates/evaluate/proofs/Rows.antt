-- The checks of the fields of a row, one by one, and of a row of values from the lists.
use mathlib.Core.Bool.{Bool, false, true}
use mathlib.Core.List.{List, [], ◌++◌, ◌∷◌, map}
use mathlib.Core.Path.{◌∙◌, ◌≡◌, ap, ap₂, refl, subst, sym}
use Prim.Native.Nat.{◌+◌, ◌<◌, suc, zero, ℕ}
use native.Mathlib.Nat.{zero-add}
use native.Mathlib.Numerals.{add-one}
use native.Mathlib.Omega.{arith}
use lib.IntN.{pos, ℤ}
use lib.ListN.{drop, get_or, length}
use lib.Seq.{drop-cons}
use Rattle.lists.specs.Lists.{concat_map, first_false, further, map_from, place_at}
use Rattle.lists.proofs.All.{All, All_at}
use Rattle.spec.specs.Domain.{allows, domain, domains}
use Rattle.spec.specs.Record.{Group, field_of}
use Rattle.spec.specs.Spec.{FieldSpec, Spec}
use Rattle.spec.proofs.Domain.{domain-allowed}
use Rattle.spec.proofs.Named.{width}
use Rattle.compose.specs.Code.{FieldsIn, fields_in}
use Rattle.compose.specs.Maps.{allowed, allowed_lists, list_at}
use Rattle.compose.specs.Tuples.{Engine, exhaustive, lists_of, structural, values}
use Rattle.compose.specs.Walk.{Placed, length_at, plan_of}
use Rattle.compose.proofs.Allowed.{allowed-allows}
use Rattle.compose.proofs.Laid.{field_group, field_at}
use Rattle.compose.proofs.Positions.{groups_turn}
use Rattle.evaluate.specs.Code.{behind}
use Rattle.evaluate.specs.Verdict.{field_checks}

-- ---- the fields from f on
pub behind-none : (k : ℕ) → k ≡ behind 0 k
behind-none zero = refl
behind-none (suc k) = sym (zero-add (suc k))

pub behind_more : (f k : ℕ) → behind f (further k) ≡ behind (f + 1) k
behind_more f zero = refl
behind_more f (suc k) = omega arith

-- where every check passes, the first does and the others do
placed-none : (b : Bool) (k : ℕ) → place_at b k ≡ 0 → (b ≡ true) × (k ≡ 0)
placed-none true zero e = (refl, refl)
placed-none true (suc k) e = absurd (omega arith)
placed-none false k e = absurd (omega arith)

module _ (file fields : List ℕ) (row : List ℤ) (f : ℕ) (inside : FieldsIn file fields) (long : length fields ≡ suc (length row)) where
  module _ (l : f < length row) where
    -- the check of the field at f, and what those after it say
    abbrev here : Bool
    here = allows (field_at file (get_or fields f 0) (get_or fields (suc f) 0)) (get_or row f (pos 0))

    abbrev after : ℕ
    after = first_false (field_checks (fields_in file (drop (f + 1) fields)) (drop (f + 1) row))

    fields_turn : first_false (field_checks (fields_in file (drop f fields)) (drop f row)) ≡ place_at here after
    fields_turn = rw (add-one f)
        (ap₂ (λ (ds : List FieldSpec) (vs : List ℤ). first_false (field_checks ds vs))
        (ap (λ (gs : List Group). concat_map field_of gs) (groups_turn file fields f (omega arith))
        ∙ ap (λ (ds : List FieldSpec). ds ++ fields_in file (drop (suc f) fields)) (field_group file (get_or fields f 0) (get_or fields (suc f) 0) (inside f (omega arith))))
        (drop-cons row f (pos 0) l))

    pub fields-stop : here ≡ false → behind f (first_false (field_checks (fields_in file (drop f fields)) (drop f row))) ≡ f + 1
    fields-stop e = ap (behind f) (fields_turn ∙ ap (λ (b : Bool). place_at b after) e)

    pub fields_more : here ≡ true → behind f (first_false (field_checks (fields_in file (drop f fields)) (drop f row))) ≡ behind (f + 1) after
    fields_more e = ap (behind f) (fields_turn ∙ ap (λ (b : Bool). place_at b after) e) ∙ behind_more f after

    pub fields-passed : first_false (field_checks (fields_in file (drop f fields)) (drop f row)) ≡ 0 → (here ≡ true) × (after ≡ 0)
    fields-passed e = placed-none here after (sym fields_turn ∙ e)

-- ---- values of the lists that an engine goes through pass their field checks
picked_allowed : (lists : ℕ → FieldSpec → List ℤ) → ((f : ℕ) (d : FieldSpec) → All (λ v. allows d v ≡ true) (lists f d))
    → (a : ℕ) (ds : List FieldSpec) (t : List ℕ) → length t ≡ length ds → ((f : ℕ) → f < length ds → get_or t f 0 < length (list_at (map_from lists a ds) f))
    → first_false (field_checks ds (values (map_from lists a ds) t)) ≡ 0
picked_allowed lists each a [] t e below = refl
picked_allowed lists each a (d ∷ ds) [] e below = absurd (omega arith)
picked_allowed lists each a (d ∷ ds) (i ∷ t) e below =
    let first = All_at (pos 0) (lists a d) (each a d) i (below 0 (omega arith)) in
    let rest = picked_allowed lists each (suc a) ds t (omega arith) (λ f l. below (suc f) (omega arith)) in
    ap (λ (b : Bool). place_at b (first_false (field_checks ds (values (map_from lists (suc a) ds) t)))) first ∙ ap further rest

map_from_lem : {A B : Type 0} (g : A → B) (a : ℕ) (xs : List A) → map g xs ≡ map_from (λ k. g) a xs
map_from_lem g a [] = refl
map_from_lem g a (x ∷ xs) = ap (λ ys. g x ∷ ys) (map_from_lem g (suc a) xs)

pub raw-allowed : (engine : Engine) (s : Spec) (t : List ℕ) → Placed (width s) (length_at (plan_of engine s)) t → first_false (field_checks s.fields (values (lists_of engine s) t)) ≡ 0
unfolding plan_of lists_of allowed_lists domains
raw-allowed structural s t placed = picked_allowed (allowed s.constraints) (allowed-allows s.constraints) 0 s.fields t placed.long placed.below
raw-allowed exhaustive s t placed =
    let e = map_from_lem domain 0 s.fields in
    ap (λ (lists : List (List ℤ)). first_false (field_checks s.fields (values lists t))) e
    ∙ picked_allowed (λ k. domain) (λ f. domain-allowed) 0 s.fields t placed.long (λ f l. subst (λ (lists : List (List ℤ)). get_or t f 0 < length (list_at lists f)) e (placed.below f l))
