-- A tuple is written a turn, until there is none or no room.
use Rattle.std.proofs.Common.{◌∙◌, ◌≡◌, ◌+◌, ◌-◌, ◌≤◌, Bool, List, [], ◌∷◌, ℕ, ℤ, ap, arith, cond, drop, length, length-append, length-drop, pos, refl, replicate, rules, subst, sym, take}
use borrow.Rule.Slice.PartMut.{put_mid}
use lib.Seq.{length-take-le}
use Rattle.spec.specs.Record.{decoded}
use Rattle.compose.specs.Code.{ChosenFrom, EnablesIn, Stands, as_engine, chosen_in, constraints_in, enables_of, is_enabling}
use Rattle.compose.specs.Plans.{as_plan}
use Rattle.compose.specs.Walk.{has_tuple_after, tuple_after}
use Rattle.compose.proofs.Stepping.{picked_front, picked_in, picked_long, stands_picked}
use Rattle.compose.proofs.Walk.{from_tuple}
use Rattle.evaluate.specs.Verdict.{evaluate}
use Rattle.classifier.specs.Code.{EnablesAre, as_start, forced_row, rules_of}
use Rattle.classifier.specs.Count.{verdict_of}
use Rattle.classifier.specs.Page.{due_tuples, start_tuple, words, words_of}
use Rattle.classifier.proofs.Going.{Begun, going_begun, going_due, going_last, going_next, going_over, going_padded, going_turn}
use Rattle.classifier.proofs.Paging.{Writing, next_fewer, page_finished, page_stopped, writing_none, writing_turn, writing_wide}
use Rattle.classifier.proofs.Starts.{Wide}
use Rattle.classifier.proofs.Turning.{turn_row, turn_settled, words_in, words_long, words_verdict}
use Rattle.classifier.proofs.Walked.{enables_given, enables_lie, rules_given, given_few, walking_walks, walking_wide}
use Rattle.classifier.proofs.tabled.Tabled.write_page.Goals.{After-enables_of-many, After-write_verdict, At-loop-out, In-Some}
use Rattle.classifier.proofs.tabled.Tabled.write_page.Goals as goal

pub enables_of-many-requires : goal.enables_of-many-requires
enables_of-many-requires c =
    let self = c.args.self.now in
    let is = rules_given self.groups c.rules.result self.walk.plan.file.now (length self.walk.plan.order.now) self.file_is self.width_is c.rules.ensures.file c.rules.ensures.heads in
    (given_few self.walk.plan.file.now self.groups.heads.now c.rules.result.heads.now (length self.walk.plan.order.now) self.groups.constraints is.heads_are self.walking.opened, refl)

-- the enable records
module _ (c : After-enables_of-many) where
  abbrev file : List ℕ
  file = c.args.self.now.walk.plan.file.now

  abbrev n : ℕ
  n = length c.args.self.now.walk.plan.order.now

  abbrev asked : List ℕ
  asked = rules_of c.args.self.now.groups.heads.now n c.args.self.now.groups.constraints

  abbrev numbers : List ℕ
  numbers = take c.enables_of-many.result c.enables_of-many.new.numbers

  given : EnablesAre (as_engine c.args.self.now.engine) file asked numbers
  given =
      let self = c.args.self.now in
      let is = rules_given self.groups c.rules.result file n self.file_is self.width_is c.rules.ensures.file c.rules.ensures.heads in
      enables_given (as_engine self.engine) file asked numbers n c.rules.result is c.enables_of-many.ensures.chosen c.enables_of-many.ensures.kinds.1

  chosen : chosen_in file asked numbers ≡ enables_of (as_engine c.args.self.now.engine) (constraints_in file asked)
  chosen = given.are

  kinds : ChosenFrom file asked 0 is_enabling numbers
  kinds = given.kinds

  lie : EnablesIn file asked numbers n
  lie = enables_lie file c.args.self.now.groups.heads.now n c.args.self.now.groups.constraints numbers c.args.self.now.walking.opened kinds

pub first_from-requires : goal.first_from-requires
first_from-requires c = (walking_walks c.args.self.now.walking, c.requires)

-- the first tuple
module _ (c : In-Some) where
  wide : Wide (as_start c.args.start)
  wide = search rules

  begun : Begun (as_plan c.args.self.now.walk.plan) (length c.args.self.now.walk.plan.order.now) c.in-Some.tuple
  begun = going_begun c.args.self.now.walking (as_start c.args.start) wide c.requires c.in-Some.tuple (sym c.in-Some.ensures)

  front_long : length (take (length c.args.self.now.walk.plan.order.now) c.in-Some.tuple) ≡ length c.args.self.now.walk.plan.order.now
  front_long = length-take-le (length c.args.self.now.walk.plan.order.now) c.in-Some.tuple (omega (arith, begun.long, c.args.self.now.walking.planned.plan-in.places.few))

  -- what is due
  due_is : due_tuples (as_engine c.args.self.now.engine) (decoded c.args.self.now.walk.plan.file.now) (as_start c.args.start) ≡ from_tuple (as_plan c.args.self.now.walk.plan) (take (length c.args.self.now.walk.plan.order.now) c.in-Some.tuple)
  due_is = going_due c.args.self.now.walking (as_start c.args.start) wide c.requires c.in-Some.tuple (sym c.in-Some.ensures)

pub pick_row-requires : goal.pick_row-requires
pick_row-requires c =
    let t = (goal.at.pick_row-requires c).In-Some in
    let plan = c.args.self.now.walk.plan in
    let places = c.args.self.now.walking.planned.plan-in.places in
    (picked_in plan.file.now plan.scratch.now plan.lists.now plan.maps.now plan.order.now places (take (length plan.order.now) c.in-Some.tuple) (begun t).placed, length-take-le (length plan.order.now) (replicate 32 (pos 0)) places.few ∙ sym (front_long t))

pub loop-out-init : goal.loop-out-init
loop-out-init c =
    let t = (goal.at.loop-out-init c).In-Some in
    let plan = c.args.self.now.walk.plan in
    let places = c.args.self.now.walking.planned.plan-in.places in
    let m = length plan.order.now in
    let u = take m c.in-Some.tuple in
    let row = c.pick_row.new.row in
    let rest = drop m (replicate 32 (pos 0)) in (
      writing_none _ _ _ _ _,
      record {
        begun = begun t;
        wide = length-append row rest ∙ omega (arith, ap length c.pick_row.ensures ∙ picked_long plan.scratch.now plan.lists.now u ∙ front_long t, length-drop m (replicate 32 (pos 0)), places.few);
        stands = subst (Stands (as_plan c.args.self.now.walk.plan) u) (sym (picked_front plan.scratch.now plan.lists.now u m row rest (front_long t) c.pick_row.ensures)) (stands_picked plan.file.now plan.scratch.now plan.lists.now plan.maps.now plan.order.now places (walking_walks c.args.self.now.walking) u (begun t).placed);
        left = refl;
      },
    )

-- what is written so far, in the definition's words
module _ (c : At-loop-out) where
  written : (at count : ℕ) (last : List ℕ) (out : List ℤ) (ts : List (List ℕ)) (numbers : List ℕ)
      → chosen_in c.args.self.now.walk.plan.file.now (rules_of c.args.self.now.groups.heads.now (length c.args.self.now.walk.plan.order.now) c.args.self.now.groups.constraints) numbers ≡ enables_of (as_engine c.args.self.now.engine) (constraints_in c.args.self.now.walk.plan.file.now (rules_of c.args.self.now.groups.heads.now (length c.args.self.now.walk.plan.order.now) c.args.self.now.groups.constraints))
      → ChosenFrom c.args.self.now.walk.plan.file.now (rules_of c.args.self.now.groups.heads.now (length c.args.self.now.walk.plan.order.now) c.args.self.now.groups.constraints) 0 is_enabling numbers
      → due_tuples (as_engine c.args.self.now.engine) (decoded c.args.self.now.walk.plan.file.now) (as_start c.args.start) ≡ ts
      → Writing (words_in c.args.self.now.walk.plan.file.now c.args.self.now.groups.heads.now (length c.args.self.now.walk.plan.order.now) c.args.self.now.groups.constraints (as_plan c.args.self.now.walk.plan).lists numbers) (length c.args.self.now.walk.plan.order.now + 4) c.args.out.now ts c.start_tuple-last.result at count last out
      → Writing (λ t. words (verdict_of (as_engine c.args.self.now.engine) (decoded c.args.self.now.walk.plan.file.now) t)) (length c.args.self.now.walk.plan.order.now + 4) c.args.out.now (due_tuples (as_engine c.args.self.now.engine) (decoded c.args.self.now.walk.plan.file.now) (as_start c.args.start)) (start_tuple (as_start c.args.start)) at count last out
  written at count last out ts numbers ch ki e st =
      let k = length c.args.self.now.walk.plan.order.now + 4 in
      let old = c.args.out.now in
      subst (λ (w : List ℕ → List ℤ). Writing w k old (due_tuples (as_engine c.args.self.now.engine) (decoded c.args.self.now.walk.plan.file.now) (as_start c.args.start)) (start_tuple (as_start c.args.start)) at count last out) (words_verdict c.args.self.now.walking numbers ch ki)
      (subst (λ (ts : List (List ℕ)). Writing (words_in c.args.self.now.walk.plan.file.now c.args.self.now.groups.heads.now (length c.args.self.now.walk.plan.order.now) c.args.self.now.groups.constraints (as_plan c.args.self.now.walk.plan).lists numbers) k old ts (start_tuple (as_start c.args.start)) at count last out) (sym e)
      (subst (λ (t : List ℕ). Writing (words_in c.args.self.now.walk.plan.file.now c.args.self.now.groups.heads.now (length c.args.self.now.walk.plan.order.now) c.args.self.now.groups.constraints (as_plan c.args.self.now.walk.plan).lists numbers) k old ts t at count last out) c.start_tuple-last.ensures st))

  wide_out : length c.loop-out.out ≡ length c.args.out.now
  wide_out = writing_wide _ _ _ _ _ c.loop-out.at c.loop-out.count c.loop-out.last c.loop-out.out c.loop-out.invariant.0

  wide_words : length c.args.self.now.walk.plan.order.now + 4 ≡ words_of (length (decoded c.args.self.now.walk.plan.file.now).fields)
  wide_words = ap words_of (walking_wide c.args.self.now.walking)

  next : drop c.loop-out.count (from_tuple (as_plan c.args.self.now.walk.plan) (take (length c.args.self.now.walk.plan.order.now) c.in-Some.tuple))
      ≡ take (length c.args.self.now.walk.plan.order.now) c.loop-out.tuple ∷ cond (has_tuple_after (as_plan c.args.self.now.walk.plan) (take (length c.args.self.now.walk.plan.order.now) c.loop-out.tuple)) (from_tuple (as_plan c.args.self.now.walk.plan) (tuple_after (as_plan c.args.self.now.walk.plan) (take (length c.args.self.now.walk.plan.order.now) c.loop-out.tuple))) []
  next = going_next c.args.self.now.walking _ c.loop-out.count c.loop-out.tuple c.loop-out.raw c.loop-out.invariant.1

pub returns-then-out-at : goal.returns-then-out-at
returns-then-out-at c =
    let a = (goal.at.returns-then-out-at c).At-loop-out in
    let q = (goal.at.returns-then-out-at c).After-enables_of-many in
    let i = (goal.at.returns-then-out-at c).In-Some in
    let l = c.loop-out in
    let st = written a l.at l.count l.last l.out _ (numbers q) (chosen q) (kinds q) (due_is i) l.invariant.0 in
    let e = page_stopped (as_engine c.args.self.now.engine) (decoded c.args.self.now.walk.plan.file.now) (as_start c.args.start) (length c.args.self.now.walk.plan.order.now + 4) (wide_words a) c.args.out.now _ l.at l.count l.last l.out st _ _ (ap (drop l.count) (due_is i) ∙ next a) (rw (sym (wide_out a)) c.if-out-at.true) in
    record { answer = e.0; out = e.1 }

pub write_verdict-requires-clause-enables : goal.write_verdict-requires-clause-enables
write_verdict-requires-clause-enables c = lie (goal.at.write_verdict-requires-clause-enables c).After-enables_of-many

pub write_verdict-requires-clause-settled : goal.write_verdict-requires-clause-settled
write_verdict-requires-clause-settled c =
    let q = (goal.at.write_verdict-requires-clause-settled c).After-enables_of-many in
    turn_settled c.args.self.now.walking (numbers q) (chosen q) (kinds q) c.loop-out.tuple (take (length c.args.self.now.walk.plan.order.now) c.loop-out.raw) c.loop-out.invariant.1.begun c.loop-out.invariant.1.stands

pub write_verdict-requires-clause-row : goal.write_verdict-requires-clause-row
write_verdict-requires-clause-row c =
    let q = (goal.at.write_verdict-requires-clause-row c).After-enables_of-many in
    turn_row c.args.self.now.walking (numbers q) (chosen q) (kinds q) c.loop-out.tuple (take (length c.args.self.now.walk.plan.order.now) c.loop-out.raw) c.loop-out.invariant.1.begun c.loop-out.invariant.1.stands

-- one more is written
turned : (c : After-write_verdict)
    → chosen_in c.args.self.now.walk.plan.file.now (rules_of c.args.self.now.groups.heads.now (length c.args.self.now.walk.plan.order.now) c.args.self.now.groups.constraints) (take c.enables_of-many.result c.enables_of-many.new.numbers) ≡ enables_of (as_engine c.args.self.now.engine) (constraints_in c.args.self.now.walk.plan.file.now (rules_of c.args.self.now.groups.heads.now (length c.args.self.now.walk.plan.order.now) c.args.self.now.groups.constraints))
    → ChosenFrom c.args.self.now.walk.plan.file.now (rules_of c.args.self.now.groups.heads.now (length c.args.self.now.walk.plan.order.now) c.args.self.now.groups.constraints) 0 is_enabling (take c.enables_of-many.result c.enables_of-many.new.numbers)
    → length c.loop-out.out ≡ length c.args.out.now
    → Writing (words_in c.args.self.now.walk.plan.file.now c.args.self.now.groups.heads.now (length c.args.self.now.walk.plan.order.now) c.args.self.now.groups.constraints (as_plan c.args.self.now.walk.plan).lists (take c.enables_of-many.result c.enables_of-many.new.numbers)) (length c.args.self.now.walk.plan.order.now + 4) c.args.out.now
    (from_tuple (as_plan c.args.self.now.walk.plan) (take (length c.args.self.now.walk.plan.order.now) c.in-Some.tuple)) c.start_tuple-last.result (c.loop-out.at + (length c.args.self.now.walk.plan.order.now + 4)) (c.loop-out.count + 1) c.loop-out.tuple
    (put_mid c.loop-out.at (c.loop-out.at + (length c.args.self.now.walk.plan.order.now + 4) - c.loop-out.at) c.loop-out.out c.write_verdict.new.out)
turned c ch ki wide =
    let self = c.args.self.now in
    let l = c.loop-out in
    let m = length self.walk.plan.order.now in
    let w = self.walking in
    let enables = take c.enables_of-many.result c.enables_of-many.new.numbers in
    let begun = l.invariant.1.begun in
    let new = c.write_verdict.ensures ∙ ap (λ (row : List ℤ). words (evaluate (decoded self.walk.plan.file.now) (forced_row self.walk.plan.file.now (rules_of self.groups.heads.now m self.groups.constraints) enables row))) l.invariant.1.stands.row_is in
    let room : l.at + (m + 4) ≤ length c.args.out.now = omega (arith, c.if-out-at.false, wide, l.invariant.0.within) in
    let st = writing_turn _ _ _ _ _ l.at l.count l.last l.out l.invariant.0 (take m l.tuple) _ c.write_verdict.new.out (going_next w _ l.count l.tuple l.raw l.invariant.1) new (words_long w enables ch ki l.tuple (take m l.raw) begun l.invariant.1.stands) (omega arith) room in
    subst (λ (t : List ℕ). Writing (words_in self.walk.plan.file.now self.groups.heads.now m self.groups.constraints (as_plan self.walk.plan).lists enables) (m + 4) c.args.out.now (from_tuple (as_plan self.walk.plan) (take m c.in-Some.tuple)) c.start_tuple-last.result (l.at + (m + 4)) (l.count + 1) t (put_mid l.at (l.at + (m + 4) - l.at) l.out c.write_verdict.new.out))
    (sym (going_padded w l.tuple begun)) st

pub returns-then-not-step : goal.returns-then-not-step
returns-then-not-step c =
    let a = (goal.at.returns-then-not-step c).At-loop-out in
    let q = (goal.at.returns-then-not-step c).After-enables_of-many in
    let i = (goal.at.returns-then-not-step c).In-Some in
    let l = c.loop-out in
    let over = going_last c.args.self.now.walking _ l.count l.tuple l.raw l.invariant.1 (sym c.step.ensures.more ∙ c.if-not-step.true) in
    let st = written a _ _ _ _ _ (numbers q) (chosen q) (kinds q) (due_is i) (turned (goal.at.returns-then-not-step c).After-write_verdict (chosen q) (kinds q) (wide_out a)) in
    let e = page_finished (as_engine c.args.self.now.engine) (decoded c.args.self.now.walk.plan.file.now) (as_start c.args.start) (length c.args.self.now.walk.plan.order.now + 4) (wide_words a) c.args.out.now _ _ _ _ _ st (ap (drop (l.count + 1)) (due_is i) ∙ over) in
    record { answer = e.0; out = e.1 }

pub loop-out-smaller : goal.loop-out-smaller
loop-out-smaller c = let m = next_fewer c.loop-out.count _ _ _ (next (goal.at.loop-out-smaller c).At-loop-out) in omega arith

pub loop-out-preserved : goal.loop-out-preserved
loop-out-preserved c =
    let a = (goal.at.loop-out-preserved c).At-loop-out in
    let q = (goal.at.loop-out-preserved c).After-enables_of-many in
    let l = c.loop-out in
    let p = as_plan c.args.self.now.walk.plan in
    let t = take (length c.args.self.now.walk.plan.order.now) l.tuple in
    let more = sym c.step.ensures.more ∙ c.if-not-step.false in (
      turned (goal.at.loop-out-preserved c).After-write_verdict (chosen q) (kinds q) (wide_out a),
      going_turn c.args.self.now.walking _ l.count l.tuple l.raw l.invariant.1 c.step.new.t c.step.new.raw more (c.step.ensures.tuple ∙ ap (λ (b : Bool). cond b (tuple_after p t) t) more) c.step.ensures.row,
    )

-- No tuple is due.
pub returns-in_default : goal.returns-in_default
returns-in_default c =
    let w = c.args.self.now.walking in
    let engine = as_engine c.args.self.now.engine in
    let s = decoded c.args.self.now.walk.plan.file.now in
    let begun : Wide (as_start c.args.start) = search rules in
    let over = going_over w (as_start c.args.start) begun c.requires (sym c.first_from.ensures ∙ c.in_default.is) in
    let k = length c.args.self.now.walk.plan.order.now + 4 in
    let st = subst (λ (t : List ℕ). Writing (λ u. words (verdict_of engine s u)) k c.args.out.now (due_tuples engine s (as_start c.args.start)) (start_tuple (as_start c.args.start)) 0 0 t c.args.out.now) (sym c.start_tuple-last.ensures) (writing_none (λ u. words (verdict_of engine s u)) k c.args.out.now (due_tuples engine s (as_start c.args.start)) (start_tuple (as_start c.args.start))) in
    let e = page_finished engine s (as_start c.args.start) k (ap words_of (walking_wide w)) c.args.out.now (due_tuples engine s (as_start c.args.start)) 0 0 c.start_tuple-last.result c.args.out.now st over in
    record { answer = e.0; out = e.1 }
