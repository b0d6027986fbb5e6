use Rattle.std.proofs.Common.{List, subst, ℕ}
use Rattle.std.proofs.lemmas.Result.{err_from_is_err_and}
use Rattle.compose.specs.Code.{as_engine}
use Rattle.classifier.specs.Code.{as_page, as_start}
use Rattle.classifier.proofs.Late.{Leaves, leaves_file, leaves_outcome}
use Rattle.classifier.proofs.page.page.Goals as goal

pub returns-in_err-parsed-clause-answer : goal.returns-in_err-parsed-clause-answer
returns-in_err-parsed-clause-answer c =
    let p = err_from_is_err_and c.from_residual.result c.from_residual.ensures.1 in
    rw (p.1, p.2) (leaves_file (as_engine c.args.engine) c.args.file.now (as_start c.args.start) c.args.out.now c.args.scratch.now _ c.in_err-parsed.ensures).0

pub returns-in_err-parsed-clause-out : goal.returns-in_err-parsed-clause-out
returns-in_err-parsed-clause-out c = (leaves_file (as_engine c.args.engine) c.args.file.now (as_start c.args.start) c.args.out.now c.args.scratch.now _ c.in_err-parsed.ensures).1

pub returns-in_err-parsed-clause-scratch : goal.returns-in_err-parsed-clause-scratch
returns-in_err-parsed-clause-scratch c = (leaves_file (as_engine c.args.engine) c.args.file.now (as_start c.args.start) c.args.out.now c.args.scratch.now _ c.in_err-parsed.ensures).2

pub returns : goal.returns
returns c =
    let e = as_engine c.args.engine in
    let start = as_start c.args.start in
    let r = c.run in
    let left = leaves_outcome e c.in_ok-parsed.parsed.groups.file.now start c.args.out.now c.args.scratch.now r.new.out r.new.scratch r.ensures.scratch r.result r.ensures.answer r.ensures.out in
    let leaves = subst (λ (f : List ℕ). Leaves e f start c.args.out.now c.args.scratch.now (as_page r.result) r.new.out r.new.scratch) c.in_ok-parsed.ensures left in
    record { answer = leaves.0; out = leaves.1; scratch = leaves.2 }
