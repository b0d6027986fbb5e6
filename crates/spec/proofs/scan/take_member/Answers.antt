-- `spec::scan::take_member` meets its contract: a member of the open list, or of none.
use Rattle.std.proofs.Common.{◌∙◌, ap, refl, sym, ◌+◌, ℕ}
use mathlib.Core.Option.{none, some}
use native.Mathlib.Omega.{arith}
use Rattle.std.proofs.lemmas.Result.{err_from_is_err_and}
use Rattle.spec.specs.Code.{as_record, as_refused}
use Rattle.spec.specs.Refusal.{belongs, refuse}
use Rattle.spec.proofs.Turns.{at_member, at_stray, fault_refused, refused_at}
use Rattle.spec.proofs.scan.take_member.Goals as goal

pub returns-in_err-close_list : goal.returns-in_err-close_list
returns-in_err-close_list c =
    let stray = ap (λ h. belongs h (as_record c.args.m)) (sym c.record_at-head.ensures.read) ∙ sym c.belongs_to.ensures ∙ c.if-not-belongs_to.true in
    let p = err_from_is_err_and c.from_residual.result c.from_residual.ensures.1 in
    rw (p.1, p.2) (record { left = (at_stray c.args.file.now c.args.state _ _ c.args.i refl refl (as_record c.args.m) c.requires.2 c.requires.1 (some (as_refused c.in_err-close_list.field-0.0)) _ c.in_err-close_list.ensures refl c.requires.3 stray, tt); same = tt })

pub returns-then-not-belongs_to : goal.returns-then-not-belongs_to
returns-then-not-belongs_to c =
    let stray = ap (λ h. belongs h (as_record c.args.m)) (sym c.record_at-head.ensures.read) ∙ sym c.belongs_to.ensures ∙ c.if-not-belongs_to.true in
    record { left = (at_stray c.args.file.now c.args.state _ _ c.args.i refl refl (as_record c.args.m) c.requires.2 c.requires.1 none _ c.in_ok-close_list.ensures refl c.requires.3 stray ∙ fault_refused c.misfiled_fault.result _ (c.args.i + 1) c.misfiled_fault.ensures ∙ ap some (sym c.at.ensures), tt); same = tt }

pub returns-in_err-refuse_at : goal.returns-in_err-refuse_at
returns-in_err-refuse_at c =
    let p = err_from_is_err_and c.from_residual-in_err-refuse_at.result c.from_residual-in_err-refuse_at.ensures.1 in
    let own = refused_at _ _ _ c.in_err-refuse_at.ensures ∙ ap (λ (n : ℕ). refuse n (c.args.i + 1)) c.judge_member.ensures in
    rw (p.1, p.2) (record { left = (at_member c.args.file.now c.args.state _ _ c.args.i c.record_at-head.ensures.read c.part-before.ensures.records (as_record c.args.m) c.requires.2 c.requires.1 (some (as_refused c.in_err-refuse_at.field-0.0)) own c.requires.0 c.requires.3 (sym c.belongs_to.ensures ∙ c.if-not-belongs_to.false), tt); same = tt })

pub returns : goal.returns
returns c =
    let own = refused_at _ _ _ c.in_ok-refuse_at.ensures ∙ ap (λ (n : ℕ). refuse n (c.args.i + 1)) c.judge_member.ensures in
    record { left = (at_member c.args.file.now c.args.state _ _ c.args.i c.record_at-head.ensures.read c.part-before.ensures.records (as_record c.args.m) c.requires.2 c.requires.1 none own c.requires.0 c.requires.3 (sym c.belongs_to.ensures ∙ c.if-not-belongs_to.false), omega arith); same = refl }
