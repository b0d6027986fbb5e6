-- `compose::filters::compact_ascending` meets its contract. The invariant: those of the first i values that are among the items stand in front, and the value at i is one of them.
use Rattle.std.proofs.Common.{◌≡◌, ◌-◌, ◌<◌, true, pos, get_or, length}
use Rattle.compose.proofs.Narrowing.{Moved, is_item}
use Rattle.compose.proofs.filters.compact_ascending.Given as goal

abbrev pub invariant-loop-i : goal.invariant-loop-i
invariant-loop-i l = Moved (is_item l.items.run.now) l.initial.list l.initial.list l.list l.kept l.i × (l.i < length l.initial.list → is_item l.items.run.now (get_or l.initial.list l.i (pos 0)) ≡ true)

abbrev pub decreases-loop-i : goal.decreases-loop-i
decreases-loop-i l = length l.initial.list - l.i
