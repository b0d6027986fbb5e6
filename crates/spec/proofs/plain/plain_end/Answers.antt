-- `spec::plain::plain_end` meets its contract.
use Prim.Native.Nat.{◌*◌, ◌+◌, ℕ}
use native.Mathlib.Omega.{arith}
use Rattle.lists.proofs.Bits.{or_none}
use Rattle.spec.specs.Code.{IsPlain}
use Rattle.spec.specs.Record.{record_at}
use Rattle.spec.proofs.Passing.{said_on}
use Rattle.spec.proofs.plain.plain_end.Goals as goal

pub loop-block-preserved : goal.loop-block-preserved
loop-block-preserved c =
    let a = c.args in
    let k = a.i + c.loop-block.block * 8 in
    let Plainly : ℕ → Type 0 = λ j. IsPlain a.list (record_at a.file.now j) in
    let z = or_none _ _ c.if-flaws_of_four-ne0.false in
    let four = said_on Plainly a.i k (k + 4) c.loop-block.invariant (c.flaws_of_four.ensures z.0) in
    let eight = said_on Plainly a.i (k + 4) (k + 8) four (λ j g l. c.flaws_of_four-in-loop-block.ensures z.1 j g (omega arith)) in
    λ j g l. eight j g (omega arith)
