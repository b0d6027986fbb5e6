-- `spec::domains::has_p_from` meets its contract. The invariant: the value is in the run from `from` on exactly when it is in what is left of it.
use Rattle.std.proofs.Common.{rules, ◌∙◌, sym, w64, SFits}
use Rattle.lists.proofs.Tests.{eqb_no, eqb_yes}
use Rattle.spec.proofs.Runs.{has_end, has_here, has_past, read_eq}
use Rattle.spec.proofs.domains.has_p_from.Goals as goal

pub returns-then-x-v : goal.returns-then-x-v
returns-then-x-v c =
    let f : SFits w64 c.args.v.0 = search rules in
    let read = read_eq c.args.v.0 c.p_at-x.result _ f (search rules) c.p_at-x.ensures in
    sym (c.loop-i.invariant ∙ has_here c.args.v.0 c.args.run.now c.loop-i.i c.loop-i-test.true (sym read ∙ eqb_yes _ _ c.if-x-v.true))

pub loop-i-preserved : goal.loop-i-preserved
loop-i-preserved c =
    let f : SFits w64 c.args.v.0 = search rules in
    let read = read_eq c.args.v.0 c.p_at-x.result _ f (search rules) c.p_at-x.ensures in
    c.loop-i.invariant ∙ has_past c.args.v.0 c.args.run.now c.loop-i.i c.loop-i-test.true (sym read ∙ eqb_no _ _ c.if-x-v.false)

pub returns : goal.returns
returns c = sym (c.loop-i.invariant ∙ has_end c.args.v.0 c.args.run.now c.loop-i.i c.loop-i-test.false)
