use Rattle.std.proofs.Common.{◌∙◌, ◌≡◌, List, Option, ap, false, length, rules, sym, true, ℕ}
use Rattle.std.specs.Prelude.{Err, Ok}
use Rattle.spec.specs.declared.refusal.Fault.TheVariants as faults
use Rattle.compose.specs.Plans.{as_plan}
use Rattle.compose.specs.Walk.{is_tuple}
use Rattle.compose.proofs.Stepping.{width_in}
use Rattle.classifier.specs.Code.{as_start, is_start}
use Rattle.classifier.proofs.Late.{prepared_late}
use Rattle.classifier.proofs.Starts.{Wide, late_14, late_15}
use Rattle.classifier.proofs.writing.late.Goals.{In-Some}
use Rattle.classifier.proofs.writing.late.Goals as goal

-- a start that is given is asked about
given : (c : In-Some) → is_start (as_plan c.args.prepared.now.plan) (as_start c.args.start) ≡ is_tuple (as_plan c.args.prepared.now.plan) c.in-Some.t
given c = ap (λ (s : Option (List ℕ)). is_start (as_plan c.args.prepared.now.plan) (as_start s)) c.in-Some.is

pub returns-then-n-room : goal.returns-then-n-room
returns-then-n-room c =
    let plan = c.args.prepared.now.plan in
    let wide : Wide (as_start c.args.start) = search rules in
    prepared_late c.args.prepared.now c.args.room (as_start c.args.start) wide {A = Unit {0}} (Err faults.OutputShort) (late_14 (as_plan plan) (length plan.order.now) c.args.room (as_start c.args.start) (width_in plan.file.now plan.scratch.now plan.lists.now plan.maps.now plan.order.now) c.if-n-room.true)

pub returns-then-is_emitted : goal.returns-then-is_emitted
returns-then-is_emitted c =
    let plan = c.args.prepared.now.plan in
    let wide : Wide (as_start c.args.start) = search rules in
    prepared_late c.args.prepared.now c.args.room (as_start c.args.start) wide (Ok (tt {0})) (late_15 (as_plan plan) (length plan.order.now) c.args.room (as_start c.args.start) (width_in plan.file.now plan.scratch.now plan.lists.now plan.maps.now plan.order.now) c.if-n-room.false true (given (goal.at.returns-then-is_emitted c).In-Some ∙ sym c.is_emitted.ensures ∙ c.if-is_emitted.true))

pub returns-else-is_emitted : goal.returns-else-is_emitted
returns-else-is_emitted c =
    let plan = c.args.prepared.now.plan in
    let wide : Wide (as_start c.args.start) = search rules in
    prepared_late c.args.prepared.now c.args.room (as_start c.args.start) wide {A = Unit {0}} (Err faults.NotEmitted) (late_15 (as_plan plan) (length plan.order.now) c.args.room (as_start c.args.start) (width_in plan.file.now plan.scratch.now plan.lists.now plan.maps.now plan.order.now) c.if-n-room.false false (given (goal.at.returns-else-is_emitted c).In-Some ∙ sym c.is_emitted.ensures ∙ c.if-is_emitted.false))

pub returns-in-None : goal.returns-in-None
returns-in-None c =
    let plan = c.args.prepared.now.plan in
    let wide : Wide (as_start c.args.start) = search rules in
    prepared_late c.args.prepared.now c.args.room (as_start c.args.start) wide (Ok (tt {0})) (late_15 (as_plan plan) (length plan.order.now) c.args.room (as_start c.args.start) (width_in plan.file.now plan.scratch.now plan.lists.now plan.maps.now plan.order.now) c.if-n-room.false true (ap (λ (s : Option (List ℕ)). is_start (as_plan plan) (as_start s)) c.in-None.is))
