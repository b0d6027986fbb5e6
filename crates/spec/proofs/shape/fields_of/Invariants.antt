-- `spec::shape::fields_of` meets its contract. The invariant: the records before i are gone through, and the product so far times that of the fields from i on is the whole, capped; the places from number count on are those of the records from i on.
use mathlib.Core.Path.{◌≡◌}
use Prim.Native.Nat.{◌*◌, ◌-◌, ◌/◌, ◌≤◌}
use lib.ListN.{drop, length}
use Rattle.spec.specs.Code.{capped}
use Rattle.spec.specs.Kind.{is_field}
use Rattle.spec.specs.Record.{heads_from, heads_of, records_of}
use Rattle.spec.proofs.Heads.{Gone}
use Rattle.spec.proofs.Sections.{field_section}
use Rattle.spec.proofs.Shapes.{product_from}
use Rattle.spec.proofs.shape.fields_of.Given as goal

abbrev pub invariant-loop-count : goal.invariant-loop-count
invariant-loop-count l = Gone 0 is_field field_section l.file l.i l.count × (l.product ≤ 1000000001) × (capped (l.product * product_from l.file l.i) ≡ capped (product_from l.file 0)) × (drop l.count (heads_of l.file) ≡ heads_from l.i (drop l.i (records_of l.file)))

abbrev pub decreases-loop-count : goal.decreases-loop-count
decreases-loop-count l = length l.file / 32 - l.i
