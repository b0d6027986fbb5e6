-- The invariant: with the lines to come put, the buffer holds them all.
use mathlib.Core.Path.{◌≡◌}
use Prim.Native.Nat.{◌*◌, ◌-◌, ◌≤◌}
use lib.ListN.{drop, length}
use lib.Seq.{sets}
use Rattle.listing.specs.Words.{bytes_for, lines_of}
use Rattle.listing.proofs.Buffer.{Left}
use Rattle.listing.proofs.text.put_lines.Given as goal

abbrev pub invariant-loop-i : goal.invariant-loop-i
invariant-loop-i l = (length l.out ≡ length l.initial.out) × (l.next ≤ bytes_for (l.i * l.width)) × Left (sets l.initial.out 0 (lines_of l.count l.width l.words)) (length (lines_of l.count l.width l.words)) l.out l.next (lines_of (l.count - l.i) l.width (drop (l.i * l.width) l.words))
