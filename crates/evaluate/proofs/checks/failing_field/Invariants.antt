-- The first that fails is the first of those from f on, behind f others; of the raw row none from f on fails.
use Rattle.std.proofs.Common.{◌≡◌, drop}
use Rattle.lists.specs.Lists.{first_false}
use Rattle.compose.specs.Code.{fields_in}
use Rattle.evaluate.specs.Code.{behind}
use Rattle.evaluate.specs.Verdict.{field_checks}
use Rattle.evaluate.proofs.checks.failing_field.Given as goal

abbrev pub invariant-loop-f : goal.invariant-loop-f
invariant-loop-f l =
    (first_false (field_checks (fields_in l.file l.fields) l.row) ≡ behind l.f (first_false (field_checks (fields_in l.file (drop l.f l.fields)) (drop l.f l.row))))
    × (first_false (field_checks (fields_in l.file (drop l.f l.fields)) (drop l.f l.raw)) ≡ 0)
