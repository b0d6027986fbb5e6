-- `compose::numbers::choose` meets its contract. The invariant: the numbers below k that are chosen stand behind those before.
use Rattle.std.proofs.Common.{◌∙◌, ◌≡◌, ◌<◌, arith, inl, inr, length, sym, true}
use Rattle.compose.proofs.Picking.{picking_long, picking_room, picking_start, picking_turn}
use Rattle.compose.proofs.numbers.choose.Given.{Over}
use Rattle.compose.proofs.numbers.choose.Goals.{After-chooses, then-chooses, else-chooses}
use Rattle.compose.proofs.numbers.choose.Goals as goal

pub loop-k-init : goal.loop-k-init
loop-k-init g c q is = picking_start q c.args.numbers.now c.args.before (let r = c.requires.2.2 in omega arith)

-- there is room for one more
room : (g : Over) (c : After-chooses g) → c.chooses.result ≡ true → c.loop-k.count < length c.loop-k.numbers
room g c e =
    let l = c.loop-k in
    let q = c.requires.2.0 in
    let is = c.requires.2.1 in
    let old = c.args.numbers.now in
    let i = l.invariant q is in
    let free = picking_room q old c.args.before c.args.c l.k c.loop-k-test.true (sym (is l.k c.chooses.result c.loop-k-test.true c.chooses.ensures) ∙ e) c.requires.2.2 in
    omega (arith, free, i.1, picking_long q old c.args.before l.k l.numbers l.count i.0 i.1 (omega (arith, free)))

pub bounds-numbers-count : goal.bounds-numbers-count
bounds-numbers-count g c = room g (goal.at.bounds-numbers-count g c).After-chooses c.if-chooses.true

pub overflow_add-count : goal.overflow_add-count
overflow_add-count g c = let r = room g (goal.at.overflow_add-count g c).After-chooses c.if-chooses.true in omega arith

pub loop-k-preserved : goal.loop-k-preserved
loop-k-preserved g c q is =
    let l = c.loop-k in
    let old = c.args.numbers.now in
    let i = l.invariant q is in
    let a = (goal.at.loop-k-preserved g c).After-chooses in
    let t = sym (is l.k c.chooses.result c.loop-k-test.true c.chooses.ensures) in
    picking_turn q old c.args.before l.k l.numbers l.count i.0 i.1 c.if-chooses.numbers c.if-chooses.count c.chooses.result t (elim c.if-chooses.branch [
      | then-chooses w ↦ inl (w.if-chooses.true, (let r = room g a w.if-chooses.true in omega (arith, r, i.1, c.loop-k.auto.numbers)), w.numbers-is, w.count-is)
      | else-chooses w ↦ inr (w.if-chooses.false, w.numbers-is, w.count-is)
    ])
