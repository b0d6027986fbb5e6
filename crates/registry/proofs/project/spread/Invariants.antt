-- `registry::project::spread` meets its contract. The invariant: the word and the axes left give what the start and all axes give.
use Rattle.std.proofs.Common.{◌≡◌, ◌<◌, ◌^◌, map}
use Rattle.spec.specs.Record.{axis_of, records_of}
use Rattle.registry.specs.Project.{digits, fitting, plus}
use Rattle.registry.proofs.Digits.{packed_from}
use Rattle.registry.proofs.project.spread.Given as goal

abbrev pub invariant-loop-i : goal.invariant-loop-i
invariant-loop-i l = (l.word < 2 ^ 63) × (packed_from l.axes l.word l.rest l.i ≡ fitting (plus l.start (digits (map axis_of (records_of l.axes)) l.v)))
