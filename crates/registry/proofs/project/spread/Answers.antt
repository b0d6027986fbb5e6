-- `registry::project::spread` meets its contract. The invariant: the word and the axes left give what the start and all axes give.
use Rattle.std.proofs.Common.{◌∙◌, ◌≡◌, sym, ap, ap₂, ◌+◌, ◌*◌, ◌^◌, ◌<◌, ℕ, map, drop, pos}
use mathlib.Core.Option.{some}
use lib.IntN.{nat_abs}
use mir.Syntax.{w64}
use mir.ValLaws.{to_z-of_z}
use borrow.Author.Rules.{sfits_of}
use Rattle.spec.proofs.Multiples.{held}
use Rattle.spec.specs.Record.{Record, axis_of, record_at, records_of}
use Rattle.registry.specs.Code.{AxisIn, as_projection, digit_of, rest_of, word_of}
use Rattle.registry.specs.Project.{fitting}
use Rattle.registry.proofs.Digits.{axis_at, fits_no, fits_yes, from_end, from_full, from_turn, over_top, packed_from}
use Rattle.registry.proofs.Packing.{plus-digits}
use Rattle.registry.proofs.Scale.{natural_fits}
use Rattle.registry.proofs.project.spread.Goals.{After-p_at-radix, Joined-else-radix-eq0, After-add_raised, else-radix-eq0-via-then-radix-eq0+else-power-rest, else-radix-eq0-via-else-radix-eq0}
use Rattle.registry.proofs.project.spread.Goals as goal

pub loop-i-init : goal.loop-i-init
loop-i-init c = (c.requires.0, ap fitting (sym (plus-digits c.args.start (map axis_of (records_of c.args.axes.now)) c.args.v)))

-- the axis of a turn
module _ (c : After-p_at-radix) where
  abbrev m : Record
  m = record_at c.args.axes.now c.loop-i.i

  axis : AxisIn m
  axis = axis_at c.args.axes.now c.requires.1 c.loop-i.i c.loop-i-test.true

  p-read : held c.p_at-radix.result ≡ m.p
  p-read = to_z-of_z w64 c.p_at-radix.result (sfits_of c.p_at-radix.type_inv) ∙ c.p_at-radix.ensures

  radix-read : nat_abs (held c.p_at-radix.result) ≡ nat_abs m.p
  radix-read = ap nat_abs p-read

pub overflow_cast-radix : goal.overflow_cast-radix
overflow_cast-radix c =
    let t = (goal.at.overflow_cast-radix c).After-p_at-radix in
    rw (to_z-of_z w64 c.p_at-radix.result (sfits_of c.p_at-radix.type_inv)) (natural_fits c.p_at-radix.result (rw c.p_at-radix.ensures (axis t).radix) (sfits_of c.p_at-radix.type_inv))

pub power-requires : goal.power-requires
power-requires c = rw c.a_at.ensures.0 (axis (goal.at.power-requires c).After-p_at-radix).width

pub returns-then-power-rest : goal.returns-then-power-rest
returns-then-power-rest c =
    let t = (goal.at.returns-then-power-rest c).After-p_at-radix in
    let l = c.loop-i in
    let full = rw (c.power.ensures, c.a_at.ensures.0) at c.if-power-rest.true in
    sym (from_full c.args.axes.now l.word l.rest l.i c.loop-i-test.true (sym (radix-read t) ∙ c.if-radix-eq0.true) full) ∙ l.invariant.1

pub add_raised-requires : goal.add_raised-requires
add_raised-requires c = (rw c.b_at.ensures.0 (axis (goal.at.add_raised-requires c).After-p_at-radix).shift, c.loop-i.invariant.0)

-- the axis has room for what is left, if it has no radix
room : (c : Joined-else-radix-eq0) → nat_abs (m (goal.at.Joined-else-radix-eq0 c).After-p_at-radix).p ≡ 0 → c.loop-i.rest < 2 ^ (m (goal.at.Joined-else-radix-eq0 c).After-p_at-radix).a
room c e =
    let t = (goal.at.Joined-else-radix-eq0 c).After-p_at-radix in
    elim c.else-radix-eq0.branch [
      | else-radix-eq0-via-then-radix-eq0+else-power-rest w ↦ rw (w.power.ensures, w.a_at.ensures.0) at w.if-power-rest.false
      | else-radix-eq0-via-else-radix-eq0 w ↦ absurd (w.if-radix-eq0.false (radix-read t ∙ e))
    ]

-- the word with this axis' digit
module _ (c : After-add_raised) where
  abbrev here : After-p_at-radix
  here = (goal.at.After-add_raised c).After-p_at-radix

  abbrev next : ℕ
  next = c.loop-i.word + digit_of (nat_abs (m here).p) c.loop-i.rest * 2 ^ (m here).b

  added : c.add_raised.result ≡ word_of next
  added = c.add_raised.ensures ∙ ap₂ (λ (d k : ℕ). word_of (c.loop-i.word + d * 2 ^ k)) (c.divide-digit.ensures.digit ∙ ap (λ (r : ℕ). digit_of r c.loop-i.rest) (radix-read here)) c.b_at.ensures.0

  turned : packed_from c.args.axes.now next (rest_of (nat_abs (m here).p) c.loop-i.rest) (c.loop-i.i + 1) ≡ packed_from c.args.axes.now c.loop-i.word c.loop-i.rest c.loop-i.i
  turned = sym (from_turn c.args.axes.now c.loop-i.word c.loop-i.rest c.loop-i.i c.loop-i-test.true (room (goal.at.After-add_raised c).Joined-else-radix-eq0))

pub returns-in_err-word : goal.returns-in_err-word
returns-in_err-word c =
    let a = (goal.at.returns-in_err-word c).After-add_raised in
    let l = c.loop-i in
    ap as_projection c.from_residual.ensures
    ∙ sym (over_top (next a) (map axis_of (drop (l.i + 1) (records_of c.args.axes.now))) (rest_of (nat_abs (m (here a)).p) l.rest) (fits_no (next a) (sym (added a) ∙ c.in_err-word.was)))
    ∙ turned a
    ∙ l.invariant.1

pub loop-i-preserved : goal.loop-i-preserved
loop-i-preserved c =
    let a = (goal.at.loop-i-preserved c).After-add_raised in
    let l = c.loop-i in
    let fits = fits_yes (next a) c.in_ok-word.word (sym (added a) ∙ c.in_ok-word.was) in
    let left = c.divide-digit.ensures.left ∙ ap (λ (r : ℕ). rest_of r l.rest) (radix-read (here a)) in
    (rw fits.1 fits.0, ap₂ (λ (w v : ℕ). packed_from c.args.axes.now w v (l.i + 1)) fits.1 left ∙ turned a ∙ l.invariant.1)

pub returns : goal.returns
returns c =
    let l = c.loop-i in
    ap some (to_z-of_z w64 (pos l.word) (sfits_of l.invariant.0)) ∙ sym (from_end c.args.axes.now l.word l.rest l.i c.loop-i-test.false l.invariant.0) ∙ l.invariant.1
