-- `compose::force::force` meets its contract. The invariant: what was written so far, and what is left to force by, give what all of them give.
use mathlib.Core.Bool.{◌||◌}
use mathlib.Core.List.{foldl}
use mathlib.Core.Path.{◌≡◌}
use lib.ListN.{drop}
use Rattle.compose.specs.Code.{chosen_in, is_forced}
use Rattle.compose.specs.Force.{force_by}
use Rattle.compose.proofs.force.force.Given as goal

abbrev pub invariant-loop-number : goal.invariant-loop-number
invariant-loop-number l = ((l.wrote || is_forced (chosen_in l.file l.heads (drop l.number-index l.chosen)) l.row) ≡ is_forced (chosen_in l.file l.heads l.chosen) l.initial.row)
    × (foldl force_by l.row (chosen_in l.file l.heads (drop l.number-index l.chosen)) ≡ foldl force_by l.initial.row (chosen_in l.file l.heads l.chosen))
