-- The first tuples that are due are written, and the next one stands in `tuple`.
use Rattle.std.proofs.Common.{◌+◌, ◌-◌, length, take}
use Rattle.compose.specs.Plans.{as_plan}
use Rattle.compose.proofs.Walk.{from_tuple}
use Rattle.classifier.proofs.Going.{Going}
use Rattle.classifier.proofs.Paging.{Writing}
use Rattle.classifier.proofs.Turning.{words_in}
use Rattle.classifier.proofs.tabled.Tabled.write_page.Given as goal

abbrev pub invariant-loop-out : goal.invariant-loop-out
invariant-loop-out l =
    let plan = l.self.walk.plan in
    let n = length plan.order.now in
    let due = from_tuple (as_plan plan) (take n l.initial.tuple) in
    Writing (words_in plan.file.now l.self.groups.heads.now n l.self.groups.constraints (as_plan plan).lists (take l.many l.numbers)) (n + 4) l.fn.out due l.initial.last l.at l.count l.last l.out
    × Going (as_plan plan) n due l.count l.tuple l.raw

abbrev pub decreases-loop-out : goal.decreases-loop-out
decreases-loop-out l = length (from_tuple (as_plan l.self.walk.plan) (take (length l.self.walk.plan.order.now) l.initial.tuple)) - l.count
