-- `compose::finding::mark_between` meets its contract. The invariant: the values before i are marked.
use Rattle.std.proofs.Common.{◌≡◌, List, take, ℕ}
use Rattle.compose.specs.Code.{marked}
use Rattle.compose.proofs.finding.mark_between.Given as goal

abbrev pub invariant-loop-i : goal.invariant-loop-i
invariant-loop-i l = (cells : List ℕ) → l.initial.row ≡ marked l.w.0 (take l.from l.list) cells → l.row ≡ marked l.w.0 (take l.i l.list) cells
