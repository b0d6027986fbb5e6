-- `spec::plain::plain_end` meets its contract. The invariant: the records of the blocks so far are plain.
use Prim.Native.Nat.{◌*◌, ◌+◌, ◌<◌, ◌≤◌, ℕ}
use Rattle.spec.specs.Code.{IsPlain}
use Rattle.spec.specs.Record.{record_at}
use Rattle.spec.proofs.plain.plain_end.Given as goal

abbrev pub invariant-loop-block : goal.invariant-loop-block
invariant-loop-block l = (j : ℕ) → l.i ≤ j → j < l.i + l.block * 8 → IsPlain l.list (record_at l.file j)
