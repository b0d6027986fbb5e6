-- `join::join::put_records` meets its contract. The invariant: the records before i are written.
use mathlib.Core.Path.{◌≡◌}
use Prim.Native.Nat.{◌*◌, ◌-◌}
use lib.ListN.{length, take}
use Rattle.join.specs.Code.{moved_range}
use Rattle.join.proofs.join.put_records.Given as goal

abbrev pub invariant-loop-i : goal.invariant-loop-i
invariant-loop-i l = (length l.out ≡ (l.to - l.from) * 32) × (take ((l.i - l.from) * 32) l.out ≡ moved_range l.by l.file l.from l.i)
