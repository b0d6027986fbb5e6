-- `exports::rules_validate` meets its contract.
use mathlib.Core.List.{List}
use mathlib.Core.Option.{Option}
use mathlib.Core.Path.{◌∙◌, ap, sym}
use Prim.Native.Nat.{ℕ}
use lib.Dec.{leb}
use lib.ListN.{length}
use Rattle.lists.specs.Lists.{over}
use Rattle.lists.proofs.Tests.{leb_yes}
use Rattle.spec.specs.Code.{as_answer}
use Rattle.spec.specs.Record.{decoded}
use Rattle.spec.specs.Refusal.{Refused, accepted, answer, file_fault}
use Rattle.classifier.proofs.Answered.{shape_told, validated_shape}
use Rattle.exports.specs.Calls.{answer_words, spec_words}
use Rattle.exports.proofs.Words.{answered, spec_told}
use Rattle.exports.proofs.rules_validate.Goals as goal

pub returns-in-Ok-clause-words : goal.returns-in-Ok-clause-words
returns-in-Ok-clause-words c =
    let a = c.args in
    let shape = validated_shape a.file.now c.in-Ok.shape (ap as_answer (sym c.in-Ok.is) ∙ c.validate.ensures) in
    let words = spec_told a.file.now c.in-Ok.shape c.scratch_for.result shape.0 (shape_told a.file.now c.in-Ok.shape shape.1) c.scratch_for.ensures in
    (answered (answer_words 4 spec_words) (accepted (decoded a.file.now)) (answer (file_fault a.file.now) (decoded a.file.now)) (leb 4 (length a.words.now)) (leb_yes 4 (length a.words.now) c.if-words-lt4.false) (ap (λ (o : Option Refused). answer o (decoded a.file.now)) (sym shape.0)) c.put.new.words a.words.now (c.put.ensures ∙ ap (λ (w : List ℕ). over w a.words.now) words)).1
