-- `spec::faults::judge_list` meets its contract, for a field and a decompose.
use Rattle.std.proofs.Common.{rules, w64, SFits, to_z-of_z}
use Rattle.spec.proofs.Uses.{no_records}
use Rattle.spec.proofs.faults.judge_list.Goals as goal

pub returns-then-h-is_empty : goal.returns-then-h-is_empty
returns-then-h-is_empty c = rw (c.in-Field.is, rw no_records at c.if-h-is_empty.true)

pub returns-else-h-is_empty : goal.returns-else-h-is_empty
returns-else-h-is_empty c = rw (c.in-Field.is, rw no_records at c.if-h-is_empty.false)

pub returns-then-is_empty-bad_offset : goal.returns-then-is_empty-bad_offset
returns-then-is_empty-bad_offset c =
    let q : SFits w64 c.args.h.q = search rules in
    let offset = simp to_z-of_z at c.bad_offset.ensures in
    rw (c.in-Decompose.is, rw (no_records, offset) at c.if-is_empty-bad_offset.true)

pub returns-else-is_empty-bad_offset : goal.returns-else-is_empty-bad_offset
returns-else-is_empty-bad_offset c =
    let q : SFits w64 c.args.h.q = search rules in
    let offset = simp to_z-of_z at c.bad_offset.ensures in
    rw (c.in-Decompose.is, rw (no_records, offset) at c.if-is_empty-bad_offset.false)
