-- By what `validate` answered.
use Rattle.std.proofs.Common.{◌∙◌, ap, sym}
use Rattle.std.specs.Prelude.{Result}
use Rattle.spec.specs.Code.{as_answer}
use Rattle.spec.specs.declared.refusal.Refusal.{Refusal}
use Rattle.spec.specs.declared.validate.Shape.{Shape}
use Rattle.classifier.proofs.Answered.{shape_told, validated_fault, validated_shape}
use Rattle.program.proofs.Printing.{fields-accepted, fields-refused}
use Rattle.program.proofs.list.fields_of.Goals as goal

pub returns-in-Err : goal.returns-in-Err
returns-in-Err c =
    let file = c.args.file.now in
    fields-refused file _ (validated_fault file _ (ap (λ (v : Result Shape Refusal). as_answer v) (sym c.in-Err.is) ∙ c.validate.ensures))

pub returns-in-Ok : goal.returns-in-Ok
returns-in-Ok c =
    let file = c.args.file.now in
    let shape = c.in-Ok.shape in
    let told = validated_shape file shape (ap (λ (v : Result Shape Refusal). as_answer v) (sym c.in-Ok.is) ∙ c.validate.ensures) in
    fields-accepted file shape.fields told.0 (shape_told file shape told.1).fields
