-- `spec::plain::end_by_one` meets its contract. The invariant: the records before k are plain.
use Rattle.spec.specs.Code.{IsPlain}
use Rattle.spec.specs.Record.{record_at}
use Rattle.spec.proofs.Passing.{said_more}
use Rattle.spec.proofs.plain.end_by_one.Goals as goal

pub loop-k-preserved : goal.loop-k-preserved
loop-k-preserved c =
    let a = c.args in
    said_more (λ j. IsPlain a.list (record_at a.file.now j)) a.i c.loop-k.k c.loop-k.invariant (c.flaws.ensures c.if-flaws-ne0.false)
