-- The words of a verdict, where they stand: its row from word 4 on, the rest before it.
use mathlib.Core.List.{List, [], ◌++◌, ◌∷◌, append-nil, map}
use mathlib.Core.Option.{Option, none, some}
use mathlib.Core.Path.{◌∙◌, ◌≡◌, ap}
use Prim.Native.Nat.{◌+◌, ◌-◌, ◌/◌, ◌≤◌, ℕ}
use native.Mathlib.Omega.{arith}
use borrow.Rule.Slice.PartMut.{put_mid}
use lib.Dec.{eqb}
use lib.IntN.{pos, ℤ}
use lib.ListN.{drop, drop_of_length-le, length, length-append, length-drop, length-map, set, take}
use lib.Seq.{drop_at, length-take-le, take_all}
use Rattle.lists.proofs.First.{first_false_le}
use Rattle.spec.specs.Record.{decoded}
use Rattle.registry.specs.Check.{holds}
use Rattle.registry.specs.Code.{group_in, project_of}
use Rattle.compose.specs.Code.{chosen_in}
use Rattle.compose.proofs.Forcing.{length_forced}
use Rattle.evaluate.specs.Verdict.{evaluate, field_checks, if_passed, place_of, Verdict}
use Rattle.evaluate.proofs.Place.{length-field_checks}
use Rattle.classifier.specs.Code.{JudgingIn, ProjectsAs, forced_row}
use Rattle.classifier.specs.Page.{flag, projection_words, words, words_of}
use Rattle.classifier.proofs.Placing.{wide}

-- ---- how many
pub words-length : (v : Verdict) → length (words v) ≡ words_of (length v.values)
words-length v = go v.projection
  where
    go : (p : Option ℤ) → length (pos 0 ∷ pos 0 ∷ (projection_words p ++ v.values)) ≡ words_of (length v.values)
    go none = omega arith
    go (some x) = omega arith

-- ---- words before a row
put_four : (l row ps : List ℤ) (a b : ℤ) → 4 ≤ length l → drop 4 l ≡ row → take 2 (set (set l 0 a) 1 b) ++ (ps ++ drop 4 (set (set l 0 a) 1 b)) ≡ a ∷ b ∷ (ps ++ row)
put_four [] row ps a b h e = absurd (omega arith)
put_four (x ∷ []) row ps a b h e = absurd (omega arith)
put_four (x ∷ y ∷ []) row ps a b h e = absurd (omega arith)
put_four (x ∷ y ∷ z ∷ []) row ps a b h e = absurd (omega arith)
put_four (x ∷ y ∷ z ∷ v ∷ l) row ps a b h e = ap (λ (r : List ℤ). a ∷ b ∷ (ps ++ r)) e

-- ---- a verdict
module _ {file fields rules enables checks due : List ℕ} (raw : List ℤ) (j : JudgingIn file fields rules enables checks due (length raw)) where
  pub forced_long : length (forced_row file rules enables raw) ≡ length raw
  forced_long = length_forced (chosen_in file rules enables) raw

  -- A place is at most the number of fields and constraints.
  pub place_few : (row : List ℤ) → place_of (decoded file) row ≤ 288
  place_few row =
      let f = field_checks (decoded file).fields row in
      let h = map (holds row) (decoded file).constraints in
      let n = length-field_checks (decoded file).fields row ∙ wide j in
      omega (arith, first_false_le (f ++ h), length-append f h, n, length-map (decoded file).constraints (holds row), j.few, j.rules-few, j.constraints_many)

  module _ (out : List ℤ) (long : length out ≡ length raw + 4) (row : List ℤ) (forced : row ≡ forced_row file rules enables raw) where
    -- The row lies from word 4 on.
    abbrev laid : List ℤ
    laid = put_mid 4 (length out - 4) out row

    row-long : length row ≡ length raw
    row-long = ap length forced ∙ forced_long

    front_long : length (take 4 out) ≡ 4
    front_long = length-take-le 4 out (omega arith)

    laid_row : drop 4 (put_mid 4 (length out - 4) out row) ≡ row
    laid_row = drop_at (take 4 out) (row ++ drop (length out - 4) (drop 4 out)) 4 front_long ∙ ap (λ (r : List ℤ). row ++ r) (drop_of_length-le (drop 4 out) {i = length out - 4} (omega (arith, length-drop 4 out))) ∙ append-nil row

    pub laid_long : length (put_mid 4 (length out - 4) out row) ≡ length out
    laid_long = let d = ap length laid_row in let r = row-long in omega (arith, length-drop 4 laid, length-append (take 4 out) (row ++ drop (length out - 4) (drop 4 out)), front_long)

    pub laid_part : take (length (put_mid 4 (length out - 4) out row) - 4) (drop 4 (put_mid 4 (length out - 4) out row)) ≡ forced_row file rules enables raw
    laid_part = ap (take (length laid - 4)) laid_row ∙ take_all (length laid - 4) row (omega (arith, laid_long, row-long)) ∙ forced

    -- The other words before it.
    pub laid_words : (head place : ℕ) (p : Option ℤ) (new : List ℤ) (a b : ℤ) → ProjectsAs file head (length raw) → place ≡ place_of (decoded file) (forced_row file rules enables raw)
        → p ≡ if_passed place (project_of (group_in file head (length file / 32)) (forced_row file rules enables raw)) → a ≡ flag (eqb place 0) → b ≡ pos place
        → new ≡ take 2 (set (set (put_mid 4 (length out - 4) out row) 0 a) 1 b) ++ (projection_words p ++ drop 4 (set (set (put_mid 4 (length out - 4) out row) 0 a) 1 b))
        → new ≡ words (evaluate (decoded file) (forced_row file rules enables raw))
    laid_words head place p new a b is placed projected ea eb e =
        let r = forced_row file rules enables raw in
        e ∙ put_four laid r (projection_words p) a b (omega (arith, laid_long)) (laid_row ∙ forced)
        ∙ rw (ea, eb, projected, is.is r, placed)
