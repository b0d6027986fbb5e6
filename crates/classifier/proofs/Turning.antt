-- What a turn of a page asks and writes, on a plan that lies in the file and the scratch.
use mathlib.Core.Bool.{true}
use mathlib.Core.List.{List}
use mathlib.Core.Path.{◌∙◌, ◌≡◌, ap, fun_ext, subst, sym}
use Prim.Native.Nat.{◌+◌, suc, ℕ}
use lib.IntN.{ℤ}
use lib.ListN.{length, take}
use Rattle.spec.specs.Record.{decoded}
use Rattle.spec.proofs.Named.{width}
use Rattle.registry.specs.Code.{RowIn}
use Rattle.compose.specs.Code.{MaybeMap, ChosenFrom, Stands, chosen_in, constraints_in, enables_of, is_enabling, plan_in}
use Rattle.compose.specs.declared.places.Span.{Span}
use Rattle.compose.specs.Force.{force}
use Rattle.compose.specs.Tuples.{Engine, lists_of, values}
use Rattle.compose.specs.Walk.{Placed, Plan, length_at, plan_of}
use Rattle.compose.proofs.Bounds.{rows_scaled}
use Rattle.compose.proofs.Emitted.{held}
use Rattle.compose.proofs.Forcing.{length_forced}
use Rattle.compose.proofs.Rows.{length-values}
use Rattle.compose.proofs.Stepping.{width_in}
use Rattle.compose.proofs.Walk.{plan_lists}
use Rattle.evaluate.specs.Verdict.{evaluate}
use Rattle.classifier.specs.Code.{Settled, Walking, forced_row, rules_of}
use Rattle.classifier.specs.Count.{verdict_of}
use Rattle.classifier.specs.Page.{words}
use Rattle.classifier.proofs.Going.{Begun, going_held}
use Rattle.classifier.proofs.Wording.{words-length}
use Rattle.classifier.proofs.Walked.{forced_is, walking_settled, walking_wide}

-- The words of a tuple's verdict, n fields and c constraints standing at the heads, and the numbers those of the enable records.
abbrev pub words_in : List ℕ → List ℕ → ℕ → ℕ → List (List ℤ) → List ℕ → List ℕ → List ℤ
words_in file heads n c lists numbers t = words (evaluate (decoded file) (forced_row file (rules_of heads n c) numbers (values lists t)))

module _ {engine : Engine} {file heads : List ℕ} {c : ℕ} {checks due : List ℕ} {scratch : List ℤ} {lists : List Span} {maps : List MaybeMap} {order : List ℕ} (w : Walking engine file heads c checks due scratch lists maps order)
    (numbers : List ℕ) (chosen : chosen_in file (rules_of heads (length order) c) numbers ≡ enables_of engine (constraints_in file (rules_of heads (length order) c)))
    (kinds : ChosenFrom file (rules_of heads (length order) c) 0 is_enabling numbers) where
  abbrev plan : Plan
  plan = plan_in file scratch lists maps order

  lists-are : (plan_in file scratch lists maps order).lists ≡ lists_of engine (decoded file)
  lists-are = ap (λ (p : Plan). p.lists) w.planned.plan-is ∙ plan_lists engine (decoded file)

  forced_by : (row : List ℤ) → forced_row file (rules_of heads (length order) c) numbers row ≡ force engine (decoded file).constraints row
  forced_by row = forced_is engine file (rules_of heads (length order) c) numbers (decoded file) row (chosen ∙ ap (enables_of engine) w.opened.constraints-are)

  -- They are the words of the definition's verdict.
  pub words_verdict : words_in file heads (length order) c (plan_in file scratch lists maps order).lists numbers ≡ (λ t. words (verdict_of engine (decoded file) t))
  unfolding verdict_of
  words_verdict = fun_ext (λ t. ap (λ (row : List ℤ). words (evaluate (decoded file) row)) (forced_by (values plan.lists t) ∙ ap (λ (ls : List (List ℤ)). force engine (decoded file).constraints (values ls t)) lists-are))

  module _ (tuple : List ℕ) (raw : List ℤ) (b : Begun (plan_in file scratch lists maps order) (length order) tuple) (st : Stands (plan_in file scratch lists maps order) (take (length order) tuple) raw) where
    raw-long : length raw ≡ length order
    raw-long = ap length st.row_is ∙ length-values plan.lists (take (length order) tuple) b.placed.long ∙ width_in file scratch lists maps order

    pub words_long : length (words_in file heads (length order) c (plan_in file scratch lists maps order).lists numbers (take (length order) tuple)) ≡ length order + 4
    words_long =
        let row = values plan.lists (take (length order) tuple) in
        words-length (evaluate (decoded file) (forced_row file (rules_of heads (length order) c) numbers row)) ∙ ap (λ (k : ℕ). k + 4) (length_forced (chosen_in file (rules_of heads (length order) c) numbers) row ∙ ap length (sym st.row_is) ∙ raw-long)

    fits : Placed (width (decoded file)) (length_at (plan_of engine (decoded file))) (take (length order) tuple) × (held engine (decoded file) (take (length order) tuple) ≡ true)
    fits = going_held w tuple b

    row_is : raw ≡ values (lists_of engine (decoded file)) (take (length order) tuple)
    row_is = st.row_is ∙ ap (λ (ls : List (List ℤ)). values ls (take (length order) tuple)) lists-are

    -- What a verdict asks of the row.
    pub turn_settled : Settled file (take (suc (length order)) heads) (rules_of heads (length order) c) due raw
    turn_settled = subst (Settled file (take (suc (length order)) heads) (rules_of heads (length order) c) due) (sym row_is) (walking_settled w (take (length order) tuple) (subst (λ (k : ℕ). Placed k (length_at (plan_of engine (decoded file))) (take (length order) tuple)) (sym (walking_wide w)) fits.0) fits.1)

    pub turn_row : RowIn (forced_row file (rules_of heads (length order) c) numbers raw)
    turn_row = subst RowIn (ap (force engine (decoded file).constraints) (sym row_is) ∙ sym (forced_by raw)) (rows_scaled engine file w.opened.accepted (take (length order) tuple) fits.0)
