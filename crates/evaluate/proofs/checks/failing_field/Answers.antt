use Rattle.std.proofs.Common.{◌∙◌, ◌≡◌, ◌+◌, Bool, true, List, ℤ, add-one, arith, get_or, pos, rules, sym}
use Rattle.evaluate.specs.Code.{allowed_at}
use Rattle.evaluate.proofs.Rows.{fields_more, fields-passed, fields-stop}
use Rattle.evaluate.proofs.checks.failing_field.Goals.{Joined-else-value-raw, else-value-raw-via-then-value-raw+else-not-is_allowed, else-value-raw-via-else-value-raw}
use Rattle.evaluate.proofs.checks.failing_field.Goals as goal

pub returns-then-not-is_allowed-clause-first : goal.returns-then-not-is_allowed-clause-first
returns-then-not-is_allowed-clause-first c =
    let l = c.loop-f in
    sym (l.invariant.0 ∙ fields-stop c.args.file.now c.args.fields.now c.args.row.now l.f c.requires.0 c.requires.1 (omega arith) (let e : allowed_at c.args.file.now (get_or c.args.fields.now l.f 0) (get_or c.args.fields.now (l.f + 1) 0) (get_or c.args.row.now l.f (pos 0)) ≡ c.is_allowed.result = search rules in rw (← (add-one l.f)) (e ∙ c.if-not-is_allowed.true)) ∙ add-one l.f)

-- a value that the turn goes past is allowed: by that answer, or because it is the raw one
module _ (c : Joined-else-value-raw) where
  abbrev allowed : List ℤ → Bool
  allowed row = allowed_at c.args.file.now (get_or c.args.fields.now c.loop-f.f 0) (get_or c.args.fields.now (c.loop-f.f + 1) 0) (get_or row c.loop-f.f (pos 0))

  passes : allowed c.args.raw.now ≡ true → allowed c.args.row.now ≡ true
  passes raw = elim c.else-value-raw.branch [
    | else-value-raw-via-then-value-raw+else-not-is_allowed w ↦ let e : allowed c.args.row.now ≡ w.is_allowed.result = search rules in e ∙ w.if-not-is_allowed.false
    | else-value-raw-via-else-value-raw w ↦ let e : get_or c.args.row.now c.loop-f.f (pos 0) ≡ get_or c.args.raw.now c.loop-f.f (pos 0) = search rules in rw e raw
  ]

pub loop-f-preserved : goal.loop-f-preserved
loop-f-preserved c =
    let l = c.loop-f in
    let file = c.args.file.now in
    let fields = c.args.fields.now in
    let raw = fields-passed file fields c.args.raw.now l.f c.requires.0 (omega arith) (omega arith) l.invariant.1 in
    let p = passes (goal.at.loop-f-preserved c).Joined-else-value-raw (rw (add-one l.f) raw.0) in
    (l.invariant.0 ∙ fields_more file fields c.args.row.now l.f c.requires.0 c.requires.1 (omega arith) (rw (add-one l.f) at p), raw.1)
