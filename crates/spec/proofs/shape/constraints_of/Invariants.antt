-- `spec::shape::constraints_of` meets its contract. The invariant: the records before i are gone through.
use mathlib.Core.Path.{◌≡◌}
use Prim.Native.Nat.{◌+◌, ◌-◌, ◌/◌}
use lib.ListN.{drop, length}
use Rattle.spec.specs.Kind.{is_constraint}
use Rattle.spec.specs.Record.{heads_from, heads_of, records_of}
use Rattle.spec.proofs.Heads.{Gone}
use Rattle.spec.proofs.Sections.{constraint-section}
use Rattle.spec.proofs.shape.constraints_of.Given as goal

abbrev pub invariant-loop-i : goal.invariant-loop-i
invariant-loop-i l = Gone 1 is_constraint constraint-section l.file l.i l.count × (drop (l.fields.count + l.count) (heads_of l.file) ≡ heads_from l.i (drop l.i (records_of l.file)))

abbrev pub decreases-loop-i : goal.decreases-loop-i
decreases-loop-i l = length l.file / 32 - l.i
