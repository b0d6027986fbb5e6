-- `evaluate::indexing::index_heads` meets its contract. The invariant: nothing is indexed from head k on.
use lib.ListN.{get_or}
use Rattle.registry.specs.Index.{IndexIn}
use Rattle.evaluate.specs.Code.{Unindexed}
use Rattle.evaluate.proofs.indexing.index_heads.Given as goal

abbrev pub invariant-loop-k : goal.invariant-loop-k
invariant-loop-k l = IndexIn l.rules.file.now l.index × Unindexed l.index (get_or l.rules.heads.now (l.k) 0)
