-- `compose::finding::Ascending::next_item` meets its contract.
use Rattle.std.proofs.Common.{◌∙◌, ◌≡◌, ◌+◌, ◌-◌, ◌<◌, ◌≤◌, ap, subst, sym, arith, rules, false, true, negsuc, pos, get_or, length, ℤ, w64, to_z, of_z}
use mir.ValLaws.{to_z-of_z}
use Rattle.lists.specs.Integers.{eq_z}
use Rattle.registry.specs.Index.{Bracket, placed}
use Rattle.compose.specs.Walk.{least}
use Rattle.compose.proofs.Ascending.{listed, listed_by, listed_jump, listed_none, not_below}
use Rattle.compose.proofs.Turns.{least-stop}
use Rattle.compose.proofs.finding.Ascending.next_item.Goals.{After-lower-k, After-reach-i}
use Rattle.compose.proofs.finding.Ascending.next_item.Goals as goal

bracket : (c : After-lower-k) → Bracket c.args.items.run.now c.args.items.places.now (get_or c.args.self.list.now c.loop-i.i (pos 0)) (negsuc 0x7fff_ffff_ffff_ffff) c.lower-k.result c.lower-k.result
bracket c =
    let k = c.lower-k.result in
    subst (λ (z : ℤ). Bracket c.args.items.run.now c.args.items.places.now z (negsuc 0x7fff_ffff_ffff_ffff) k k) (to_z-of_z w64 (get_or c.args.self.list.now c.loop-i.i (pos 0)) (search rules)) c.lower-k.ensures

pub returns-then-items-k : goal.returns-then-items-k
returns-then-items-k c =
    let m = c.args.items in
    listed_none c.args.self.list.now c.args.self.ascends m.run.now m.places.now m.indexed c.loop-i.i c.loop-i-test.true c.lower-k.result (bracket (goal.at.returns-then-items-k c).After-lower-k) c.if-items-k.true ∙ c.loop-i.invariant.1

pub returns-then-p-x : goal.returns-then-p-x
returns-then-p-x c =
    let m = c.args.items in
    let list = c.args.self.list.now in
    let i = c.loop-i.i in
    let p : eq_z (placed m.run.now m.places.now c.lower-k.result).p (get_or list i (pos 0)) ≡ true = search rules in
    sym (least-stop (listed list m.run.now) (length list) i c.loop-i-test.true (sym (listed_by list c.args.self.ascends m.run.now m.places.now m.indexed i c.loop-i-test.true c.lower-k.result (bracket (goal.at.returns-then-p-x c).After-lower-k) c.if-items-k.false) ∙ p)) ∙ c.loop-i.invariant.1

further : (c : After-reach-i) → Bracket c.args.items.run.now c.args.items.places.now (get_or c.args.self.list.now c.loop-i.i (pos 0)) (negsuc 0x7fff_ffff_ffff_ffff) c.lower-k.result c.lower-k.result → (c.loop-i.i < c.reach-i.result.0) × (c.reach-i.result.0 ≤ length c.args.self.list.now)
    × (least (listed c.args.self.list.now c.args.items.run.now) c.loop-i.i (length c.args.self.list.now - c.loop-i.i) ≡ least (listed c.args.self.list.now c.args.items.run.now) c.reach-i.result.0 (length c.args.self.list.now - c.reach-i.result.0))
further c b =
    let m = c.args.items in
    let list = c.args.self.list.now in
    let i = c.loop-i.i in
    let at = placed m.run.now m.places.now c.lower-k.result in
    let p : eq_z at.p (get_or list i (pos 0)) ≡ false = search rules in
    let e : to_z w64 (of_z w64 c.p_at-p.result) ≡ at.p = to_z-of_z w64 c.p_at-p.result (search rules) ∙ c.p_at-p.ensures in
    listed_jump list c.args.self.ascends m.run.now m.places.now m.indexed i c.loop-i-test.true c.lower-k.result b c.if-items-k.false p c.reach-i.result.0
    (c.reach-i.ensures ∙ ap (λ (z : ℤ). least (not_below list z) (i + 1) (length list - (i + 1))) e)

pub loop-i-smaller : goal.loop-i-smaller
loop-i-smaller c = let f = further (goal.at.loop-i-smaller c).After-reach-i (bracket (goal.at.loop-i-smaller c).After-lower-k) in omega (arith, f.0, f.1)

pub loop-i-preserved : goal.loop-i-preserved
loop-i-preserved c = let f = further (goal.at.loop-i-preserved c).After-reach-i (bracket (goal.at.loop-i-preserved c).After-lower-k) in (f.1, sym f.2 ∙ c.loop-i.invariant.1)
