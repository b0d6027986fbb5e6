-- `spec::domains::has_p` meets its contract. The invariant: the value is in the run exactly when it is in what is left of it.
use mathlib.Core.Bool.{◌||◌}
use mathlib.Core.Path.{◌∙◌, ◌≡◌, ap, ap₂, sym}
use Prim.Native.Nat.{◌*◌, ◌+◌}
use native.Mathlib.Omega.{arith}
use Rattle.spec.proofs.Runs.{eight_here, eight_past, has_from}
use Rattle.spec.proofs.domains.has_p.Goals as goal

pub returns-then-has_p_of_four : goal.returns-then-has_p_of_four
returns-then-has_p_of_four c =
    sym (c.loop-block.invariant ∙ eight_here c.args.v.0 c.args.run.now (c.loop-block.block * 8) (sym (ap₂ ◌||◌ c.has_p_of_four.ensures c.has_p_of_four-in-loop-block.ensures) ∙ c.if-has_p_of_four.true))

pub loop-block-preserved : goal.loop-block-preserved
loop-block-preserved c =
    let i = c.loop-block.block * 8 in
    let e : i + 8 ≡ (c.loop-block.block + 1) * 8 = omega arith in
    c.loop-block.invariant ∙ eight_past c.args.v.0 c.args.run.now i (sym (ap₂ ◌||◌ c.has_p_of_four.ensures c.has_p_of_four-in-loop-block.ensures) ∙ c.if-has_p_of_four.false) ∙ ap (has_from c.args.v.0 c.args.run.now) e
