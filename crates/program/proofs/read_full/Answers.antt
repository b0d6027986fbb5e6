use Rattle.std.proofs.Common.{rules, sym, subst}
use Rattle.std.specs.Io.KnownBytes.{Consumes}
use Rattle.program.proofs.Reading.{Consumes_more, take_read}
use Rattle.program.proofs.read_full.Goals as goal

pub loop-n-preserved : goal.loop-n-preserved
loop-n-preserved g c =
    let read = take_read c.loop-n.n _ c.in_ok-more.more c.loop-n.file c.read.new.buf c.loop-n.invariant.1 c.in_ok-more.ensures.bound.0 in
    (search rules, search rules, subst (Consumes _ _) (sym read) (Consumes_more _ _ _ _ _ c.loop-n.invariant.2 c.in_ok-more.ensures.bytes.0))
