-- `compose::finding::Ascending::next_pair` meets its contract. The invariant: the index looked for is the first from i on.
use Rattle.std.proofs.Common.{◌≡◌, ◌-◌, ◌≤◌, length}
use Rattle.compose.specs.Walk.{least}
use Rattle.compose.proofs.Ascending.{paired}
use Rattle.compose.proofs.finding.Ascending.next_pair.Given as goal

abbrev pub invariant-loop-i : goal.invariant-loop-i
invariant-loop-i l = (l.i ≤ length l.self.list.now) × (least (paired l.self.list.now l.members.run.now l.v.0) l.i (length l.self.list.now - l.i) ≡ least (paired l.self.list.now l.members.run.now l.v.0) l.initial.i (length l.self.list.now - l.initial.i))

abbrev pub decreases-loop-i : goal.decreases-loop-i
decreases-loop-i l = length l.self.list.now - l.i
