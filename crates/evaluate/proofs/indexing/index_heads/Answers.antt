use Rattle.std.proofs.Common.{add-one, arith}
use Rattle.evaluate.proofs.Marked.{unindexed_up, zeros_index, zeros_unindexed}
use Rattle.evaluate.proofs.indexing.index_heads.Goals.{then-is_long, else-is_long}
use Rattle.evaluate.proofs.indexing.index_heads.Goals as goal

pub loop-k-init : goal.loop-k-init
loop-k-init c = (zeros_index c.args.rules.file.now c.args.index.now c.requires.3, zeros_unindexed c.args.rules.file.now c.args.index.now c.requires.3 _)

pub loop-k-preserved : goal.loop-k-preserved
loop-k-preserved c =
    let l = c.loop-k in
    let h = c.args.rules.inside l.k (omega arith) in
    let e = add-one l.k in
    elim c.if-is_long.branch [
      | then-is_long w ↦ rw w.index-is (w.index_at.ensures.index, w.index_at.ensures.rest)
      | else-is_long w ↦ rw (w.index-is, e) (l.invariant.0, let b = h.before in unindexed_up l.index _ _ (omega arith) l.invariant.1)
    ]
