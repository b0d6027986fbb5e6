-- `compose::finding::mark_all` meets its contract. The invariant: the values of the blocks before are marked.
use Rattle.std.proofs.Common.{◌≡◌, ◌*◌, take}
use Rattle.compose.specs.Code.{marked}
use Rattle.compose.proofs.finding.mark_all.Given as goal

abbrev pub invariant-loop-block : goal.invariant-loop-block
invariant-loop-block l = l.row ≡ marked l.w.0 (take (l.block * 8) l.list) l.initial.row
