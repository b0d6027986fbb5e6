-- `compose::filters::lay_lists` meets its contract. The invariant: the lists of the first k - 1 fields are laid, and there is room for the rest.
use mathlib.Core.Path.{◌≡◌}
use lib.ListN.{length}
use Rattle.compose.specs.Code.{constraints_in}
use Rattle.compose.proofs.Laid.{Laid}
use Rattle.compose.proofs.filters.lay_lists.Given as goal

abbrev pub invariant-loop-k : goal.invariant-loop-k
invariant-loop-k l = Laid l.rules.file.now l.fields (constraints_in l.rules.file.now l.rules.heads.now) (length l.initial.scratch) l.scratch l.lists l.at l.k × (length l.lists ≡ 32)
