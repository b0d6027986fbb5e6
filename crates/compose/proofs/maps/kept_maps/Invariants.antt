-- `compose::maps::kept_maps` meets its contract. The invariant: the maps kept so far, with the constraints left, make the kept maps.
use Rattle.compose.proofs.Kept.{Kept}
use Rattle.compose.proofs.maps.kept_maps.Given as goal

abbrev pub invariant-loop-k : goal.invariant-loop-k
invariant-loop-k l = Kept l.rules.file.now l.rules.heads.now l.rules.fields l.maps l.k
