-- `spec::validate::validate_noting` meets its contract: refused 1, by the scan, or 10; else the shape.
use Rattle.std.proofs.Common.{◌≡◌, ◌∙◌, ap, ap₂, sym, ℕ}
use mathlib.Core.Bool.{cond}
use lib.Dec.{eqb}
use Rattle.std.proofs.lemmas.Result.{err_from_is_err_and}
use Rattle.spec.specs.Code.{as_refused, capped}
use Rattle.spec.specs.Domain.{total}
use Rattle.spec.specs.Record.{decoded}
use Rattle.spec.specs.Refusal.{accepted, refused}
use Rattle.spec.specs.Shape.{shape_of}
use Rattle.spec.proofs.Answers.{answer-accepted, answer_fault, answer_many, answer-ragged, few, many, shape_is}
use Rattle.spec.proofs.Shapes.{total-capped}
use Rattle.spec.proofs.validate.validate_noting.Goals.{After-total-total}
use Rattle.spec.proofs.validate.validate_noting.Goals as goal

pub returns-then-len : goal.returns-then-len
returns-then-len c = record { answer = ap refused c.at.ensures ∙ answer-ragged c.args.file.now (shape_of c.args.file.now) c.if-len.true; noted = tt }

pub returns-in_err-scan : goal.returns-in_err-scan
returns-in_err-scan c =
    let p = err_from_is_err_and c.from_residual.result c.from_residual.ensures.1 in
    rw (p.1, p.2) (record { answer = answer_fault c.args.file.now (shape_of c.args.file.now) c.if-len.false (as_refused c.in_err-scan.field-0.0) c.in_err-scan.ensures.fault; noted = tt })

total_is : (c : After-total-total) → c.total-total.result ≡ capped (total (decoded c.args.file.now))
total_is c =
    let f = c.fields_of-fields.ensures in
    c.total-total.ensures ∙ ap₂ (λ (n : ℕ) (k : ℕ). cond (eqb n 0) 0 k) f.count f.product ∙ total-capped (decoded c.args.file.now)

pub returns-then-is_too_large : goal.returns-then-is_too_large
returns-then-is_too_large c =
    let file = c.args.file.now in
    record {
      answer = ap refused c.at-then-is_too_large.ensures
          ∙ answer_many file (shape_of file) c.if-len.false (sym c.in_ok-scan.ensures.fault) (many (decoded file) (rw (sym (total_is (goal.at.returns-then-is_too_large c).After-total-total)) c.if-is_too_large.true));
      noted = tt;
    }

pub returns : goal.returns
returns c =
    let file = c.args.file.now in
    let t = total_is (goal.at.returns c).After-total-total in
    let f = few (decoded file) (rw (sym t) c.if-is_too_large.false) in
    let fields = c.fields_of-fields.ensures in
    let constraints = c.constraints_of-constraints.ensures in
    record {
      answer = ap accepted (shape_is file fields.count constraints.count fields.end constraints.end (t ∙ f.1)) ∙ answer-accepted file (shape_of file) c.if-len.false (sym c.in_ok-scan.ensures.fault) f.0;
      noted = c.in_ok-scan.ensures.noted;
    }
