-- `spec::plain::end_by_one` meets its contract. The invariant: the records before k are plain.
use Prim.Native.Nat.{◌<◌, ◌≤◌, ℕ}
use Rattle.spec.specs.Code.{IsPlain}
use Rattle.spec.specs.Record.{record_at}
use Rattle.spec.proofs.plain.end_by_one.Given as goal

abbrev pub invariant-loop-k : goal.invariant-loop-k
invariant-loop-k l = (j : ℕ) → l.i ≤ j → j < l.k → IsPlain l.list (record_at l.file j)
