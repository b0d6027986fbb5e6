-- Each arm is told which answer came, and its line stands at the start of the text.
use mathlib.Core.Path.{◌∙◌, ◌≡◌, ap, sym}
use native.Mathlib.Omega.{arith}
use borrow.Author.Rules.{rules}
use lib.ListN.{length}
use lib.Seq.{sets}
use Rattle.std.specs.Prelude.{Result}
use Rattle.spec.specs.declared.validate.Shape.{Shape}
use Rattle.listing.specs.Code.{as_answer_by}
use Rattle.listing.specs.Text.{accepted_line, answer_line, refused_line}
use Rattle.listing.proofs.Buffer.{put_first}
use Rattle.listing.proofs.text.put_answer.Goals as goal

pub returns-in-Ok : goal.returns-in-Ok
returns-in-Ok o c =
    let put = c.put_accepted in
    let args = c.args in
    let room : length args.text.now ≡ 64 = search rules in
    let stands = put_first args.text.now put.new.out (accepted_line c.in-Ok.shape.total) put.result put.ensures.out_after put.ensures.value (omega (arith, put.ensures.upper_bound)) in
    let same = ap (λ (v : Result Shape _). answer_line (as_answer_by o.R.IntoNumbered.numbers v)) (sym c.in-Ok.is) in
    record { prefix_len = stands.0; text_after = stands.1 ∙ same; text_after_2 = put.ensures.out_after ∙ ap (sets args.text.now 0) same }

pub returns-in-Err : goal.returns-in-Err
returns-in-Err o c =
    let put = c.put_refused in
    let args = c.args in
    let room : length args.text.now ≡ 64 = search rules in
    let told = rw c.into_numbered-numbered.ensures at put.ensures in
    let line = refused_line (o.R.IntoNumbered.numbers c.in-Err.refusal) in
    let stands = put_first args.text.now put.new.out line put.result told.out_after told.value (omega (arith, put.ensures.upper_bound)) in
    let same = ap (λ (v : Result Shape _). answer_line (as_answer_by o.R.IntoNumbered.numbers v)) (sym c.in-Err.is) in
    record { prefix_len = stands.0; text_after = stands.1 ∙ same; text_after_2 = told.out_after ∙ ap (sets args.text.now 0) same }
