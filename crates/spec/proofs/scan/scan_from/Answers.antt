-- `spec::scan::scan_from` meets its contract. The invariant: what was left at the start is what is left now.
use Rattle.std.proofs.Common.{◌≡◌, ◌∙◌, ap, sym, ◌+◌, ◌/◌, length}
use native.Mathlib.Omega.{arith}
use Rattle.std.proofs.lemmas.Result.{err_from_is_err_and, on_ok_weaker}
use Rattle.spec.specs.Code.{as_context, heads_before, left_at, noting}
use Rattle.spec.proofs.Noting.{noting_run}
use Rattle.spec.proofs.scan.scan_from.Goals.{After-loop-i}
use Rattle.spec.proofs.scan.scan_from.Goals as goal

pub loop-i-init : goal.loop-i-init
loop-i-init c =
    let p = c.pass_plain-i.ensures in
    (omega (arith, c.requires.0, p.left.0), p.left.1, p.left.2, noting_run c.args.file.now c.args.heads.now _ 1 c.pass_plain-i.result p.left.0 p.left.1 p.members)

pub returns-in_err-state : goal.returns-in_err-state
returns-in_err-state c =
    let p = err_from_is_err_and c.from_residual.result c.from_residual.ensures.1 in
    rw (p.1, p.2) (record { left = sym (c.loop-i.invariant.2 ∙ c.in_err-state.ensures.left.0); noted = tt })

pub loop-i-preserved : goal.loop-i-preserved
loop-i-preserved c =
    let p = c.pass_plain-i-in-loop-i.ensures in
    let t = c.in_ok-state.ensures in
    (omega (arith, t.left.1, p.left.0), p.left.1, c.loop-i.invariant.2 ∙ t.left.0 ∙ p.left.2, noting_run c.args.file.now _ _ (c.loop-i.i + 1) c.pass_plain-i-in-loop-i.result p.left.0 p.left.1 p.members ∙ t.noted ∙ c.loop-i.invariant.3)

-- all records are judged
ended : (c : After-loop-i) → c.loop-i.i ≡ length c.args.file.now / 32
ended c = omega arith

pub close-requires : goal.close-requires
close-requires c = omega (arith, c.loop-i.invariant.0)

pub returns-clause-left : goal.returns-clause-left
returns-clause-left c =
    let file = c.args.file.now in
    c.close.ensures.left ∙ sym (c.loop-i.invariant.2 ∙ ap (left_at file c.loop-i.state) (ended (goal.at.returns-clause-left c).After-loop-i))

pub returns-clause-noted : goal.returns-clause-noted
returns-clause-noted c =
    let noted = noting c.args.file.now c.loop-i.heads (heads_before (as_context c.loop-i.state.context)) in
    let e = ap noted (sym (ended (goal.at.returns-clause-noted c).After-loop-i)) ∙ c.loop-i.invariant.3 in
    on_ok_weaker c.close.result (λ (n : c.close.new.heads ≡ noted (length c.args.file.now / 32)). n ∙ e) c.close.ensures.noted
