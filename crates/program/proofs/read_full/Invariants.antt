-- What was read stands at the start of `file`, and each turn leaves less room.
use Rattle.std.proofs.Common.{◌≡◌, ◌-◌, ◌≤◌, length, take}
use Rattle.std.specs.Io.KnownBytes.{Consumes}
use Rattle.program.proofs.read_full.Given as goal

abbrev pub invariant-loop-n : goal.invariant-loop-n
invariant-loop-n g l = (length l.file ≡ length l.initial.file) × (l.n ≤ length l.file) × Consumes (g.R.Read.remaining l.initial.input) (g.R.Read.remaining l.input) (take l.n l.file)

abbrev pub decreases-loop-n : goal.decreases-loop-n
decreases-loop-n g l = length l.file - l.n
