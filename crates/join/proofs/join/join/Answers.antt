-- `join::join::join` meets its contract: the first file's refusal comes before the second's.
use mathlib.Core.List.{List}
use mathlib.Core.Option.{none}
use mathlib.Core.Path.{◌∙◌, ◌≡◌, ap, ap₂, sym}
use Prim.Native.Nat.{ℕ}
use lib.ListN.{length}
use Rattle.std.proofs.lemmas.Result.{err_from_is_err_and}
use Rattle.spec.specs.Refusal.{file_fault}
use Rattle.join.specs.Join.{join_answer, join_output}
use Rattle.join.proofs.Faults.{answer-refused, fault_first, fault_second, output_refused}
use Rattle.join.proofs.join.join.Goals.{In_ok-s}
use Rattle.join.proofs.join.join.Goals as goal

pub returns-in_err-s-clause-answer : goal.returns-in_err-s-clause-answer
returns-in_err-s-clause-answer c =
    let p = err_from_is_err_and c.from_residual.result c.from_residual.ensures.1 in
    rw (p.1, p.2) (answer-refused _ _ _ _ (fault_first _ _ _ _ c.in_err-s.ensures))

pub returns-in_err-s-clause-out : goal.returns-in_err-s-clause-out
returns-in_err-s-clause-out c = output_refused _ _ _ _ (fault_first _ _ _ _ c.in_err-s.ensures)

-- the first file is accepted
good : (c : In_ok-s) → file_fault c.args.first.now ≡ none
good c = ap file_fault (sym c.in_ok-s.ensures) ∙ c.in_ok-s.s.accepted

pub returns-in_err-t-clause-answer : goal.returns-in_err-t-clause-answer
returns-in_err-t-clause-answer c =
    let p = err_from_is_err_and c.from_residual-in_err-t.result c.from_residual-in_err-t.ensures.1 in
    rw (p.1, p.2) (answer-refused _ _ _ _ (fault_second _ _ _ (good (goal.at.returns-in_err-t-clause-answer c).In_ok-s) _ c.in_err-t.ensures))

pub returns-in_err-t-clause-out : goal.returns-in_err-t-clause-out
returns-in_err-t-clause-out c = output_refused _ _ _ _ (fault_second _ _ _ (good (goal.at.returns-in_err-t-clause-out c).In_ok-s) _ c.in_err-t.ensures)

pub returns : goal.returns
returns c =
    let r = c.join_accepted in
    let out = c.args.out.now in
    record {
      answer = r.ensures.answer ∙ ap₂ (λ (f g : List ℕ). join_answer (length out) f g) c.in_ok-s.ensures c.in_ok-t.ensures;
      out = r.ensures.out ∙ ap₂ (λ (f g : List ℕ). join_output f g out) c.in_ok-s.ensures c.in_ok-t.ensures;
    }
