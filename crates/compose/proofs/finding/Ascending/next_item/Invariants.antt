-- `compose::finding::Ascending::next_item` meets its contract. The invariant: the index looked for is the first from i on.
use Rattle.std.proofs.Common.{◌≡◌, ◌-◌, ◌≤◌, length}
use Rattle.compose.specs.Walk.{least}
use Rattle.compose.proofs.Ascending.{listed}
use Rattle.compose.proofs.finding.Ascending.next_item.Given as goal

abbrev pub invariant-loop-i : goal.invariant-loop-i
invariant-loop-i l = (l.i ≤ length l.self.list.now) × (least (listed l.self.list.now l.items.run.now) l.i (length l.self.list.now - l.i) ≡ least (listed l.self.list.now l.items.run.now) 0 (length l.self.list.now))

abbrev pub decreases-loop-i : goal.decreases-loop-i
decreases-loop-i l = length l.self.list.now - l.i
