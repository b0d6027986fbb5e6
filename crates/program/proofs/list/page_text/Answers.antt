-- By what `page` answered; the lines of a page are those of its words.
use Rattle.std.proofs.Common.{◌∙◌, ◌≡◌, ap, arith, length, sym, take}
use Rattle.std.specs.Prelude.{Result}
use Rattle.spec.specs.declared.refusal.Refusal.{Refusal}
use Rattle.compose.specs.Code.{as_engine}
use Rattle.classifier.specs.Code.{as_page, as_start}
use Rattle.classifier.specs.Page.{page_answer}
use Rattle.classifier.specs.declared.writing.Page.{Page}
use Rattle.program.specs.Printed.{page_lines}
use Rattle.program.proofs.Printing.{fields-few, page_printed}
use Rattle.program.proofs.list.page_text.Goals.{After-put_verdicts-len}
use Rattle.program.proofs.list.page_text.Goals as goal

pub overflow_add-fields_of : goal.overflow_add-fields_of
overflow_add-fields_of c = omega (arith, c.fields_of.ensures, fields-few c.args.file.now)

lines-are : (c : After-put_verdicts-len)
    → take c.put_verdicts-len.result c.put_verdicts-len.new.out
    ≡ page_lines (as_engine c.args.engine) c.args.file.now (as_start c.args.start) (page_answer (as_engine c.args.engine) (length c.args.scratch.now) (length c.args.words.now) c.args.file.now (as_start c.args.start))
lines-are c =
    let args = c.args in
    let page = c.page in
    let put = c.put_verdicts-len in
    let told = ap (λ (v : Result Page Refusal). as_page v) (sym c.in-Ok.is) ∙ page.ensures.answer in
    (page_printed (as_engine args.engine) args.file.now (as_start args.start) args.words.now (length args.scratch.now) c.in-Ok.page told _ c.fields_of.result put.result args.text.now put.new.out page.ensures.out c.fields_of.ensures c.requires put.ensures.out_after put.ensures.value put.ensures.upper_bound).1

pub returns-then-page-clause-lines : goal.returns-then-page-clause-lines
returns-then-page-clause-lines c = lines-are (goal.at.returns-then-page-clause-lines c).After-put_verdicts-len

pub returns-else-page-clause-lines : goal.returns-else-page-clause-lines
returns-else-page-clause-lines c = lines-are (goal.at.returns-else-page-clause-lines c).After-put_verdicts-len
