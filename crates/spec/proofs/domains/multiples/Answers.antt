-- `spec::domains::multiples` meets its contract. Every number is within ±2^57, so nothing is lost.
use Rattle.std.proofs.Common.{rules, ◌≡◌, ◌∙◌, w64, SFits, to_z-of_z, pos, nat_abs}
use Rattle.spec.specs.Domain.{first_multiple, step_of}
use Rattle.spec.proofs.Multiples.{count_none, counted_in, held, step_max}
use Rattle.spec.proofs.domains.multiples.Goals.{After-first_multiple-first}
use Rattle.spec.proofs.domains.multiples.Goals as goal

-- the step, and the first multiple
step : (c : After-first_multiple-first) → held c.max-step.result ≡ pos (step_of (nat_abs c.args.r))
step c =
    let r = c.ranges.r in
    let s : SFits w64 c.max-step.result = search rules in
    to_z-of_z s ∙ simp to_z-of_z at c.max-step.ensures.value ∙ step_max c.args.r c.requires.r-natural

first : (c : After-first_multiple-first) → c.first_multiple-first.result ≡ first_multiple (step_of (nat_abs c.args.r)) c.args.p
first c = rw (to_z-of_z c.ranges.p, step c) at c.first_multiple-first.ensures

pub returns-then-q-first : goal.returns-then-q-first
returns-then-q-first c =
    let m = (goal.at.returns-then-q-first c).After-first_multiple-first in
    let f : SFits w64 c.first_multiple-first.result = search rules in
    record {
      first = to_z-of_z f ∙ first m;
      step_is = step m;
      len = rw (← first m) (count_none (step_of (nat_abs c.args.r)) c.first_multiple-first.result c.args.q (rw (to_z-of_z c.ranges.q, to_z-of_z f) at c.if-q-first.true));
    }

-- the count, where the first multiple is in the range
pub overflow_cast-result : goal.overflow_cast-result
overflow_cast-result c =
    let m = (goal.at.overflow_cast-result c).After-first_multiple-first in
    let f : SFits w64 c.first_multiple-first.result = search rules in
    let n = counted_in c.args.p c.args.q c.args.r c.first_multiple-first.result c.requires f c.ranges.q (first m) (rw (to_z-of_z c.ranges.q, to_z-of_z f) at c.if-q-first.false) in
    rw (step m) n.cast

pub returns : goal.returns
returns c =
    let m = (goal.at.returns c).After-first_multiple-first in
    let f : SFits w64 c.first_multiple-first.result = search rules in
    record {
      first = to_z-of_z f ∙ first m;
      step_is = step m;
      len = rw (step m, ← first m) (counted_in c.args.p c.args.q c.args.r c.first_multiple-first.result c.requires f c.ranges.q (first m) (rw (to_z-of_z c.ranges.q, to_z-of_z f) at c.if-q-first.false)).is;
    }
