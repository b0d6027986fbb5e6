-- `spec::plain::flaws_of_four` meets its contract.
use Prim.Native.Nat.{◌+◌, ℕ}
use native.Mathlib.Omega.{arith}
use Rattle.lists.proofs.Bits.{or_none}
use Rattle.spec.specs.Code.{IsPlain}
use Rattle.spec.specs.Record.{record_at}
use Rattle.spec.proofs.Passing.{said_more}
use Rattle.spec.proofs.plain.flaws_of_four.Goals as goal

pub returns : goal.returns
returns c = λ z.
    let i = c.args.i in
    let Plainly : ℕ → Type 0 = λ j. IsPlain c.args.list (record_at c.args.file.now j) in
    let a = or_none _ _ z in
    let b = or_none _ _ a.0 in
    let d = or_none _ _ b.0 in
    let one = said_more Plainly i i (λ j g l. absurd (omega arith)) (c.flaws.ensures d.0) in
    let two = said_more Plainly i (i + 1) one (c.flaws-2.ensures d.1) in
    let three = said_more Plainly i (i + 2) (λ j g l. two j g (omega arith)) (c.flaws-3.ensures b.1) in
    let four = said_more Plainly i (i + 3) (λ j g l. three j g (omega arith)) (c.flaws-4.ensures a.1) in
    λ j g l. four j g (omega arith)
