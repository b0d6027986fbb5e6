-- `compose::finding::Ascending::next_pair` meets its contract.
use Rattle.std.proofs.Common.{◌∙◌, ◌≡◌, ◌+◌, ◌-◌, ◌<◌, ◌≤◌, ap, subst, sym, add-one, inl, inr, arith, rules, false, true, pos, get_or, length, map, ℤ, w64, to_z, of_z}
use mir.ValLaws.{to_z-of_z}
use Rattle.lists.specs.Integers.{eq_z}
use Rattle.lists.specs.Lists.{any}
use Rattle.spec.specs.Record.{entry_of, records_of}
use Rattle.registry.specs.Check.{is_pair}
use Rattle.registry.specs.Index.{Bracket, placed}
use Rattle.compose.specs.Walk.{least}
use Rattle.compose.proofs.Ascending.{not_below, paired, paired_jump, paired_none}
use Rattle.compose.proofs.Turns.{least_more, least-stop}
use Rattle.compose.proofs.finding.Ascending.next_pair.Goals.{After-pairs_from, After-lower-k, After-reach-i}
use Rattle.compose.proofs.finding.Ascending.next_pair.Goals as goal

bracket : (c : After-lower-k) → Bracket c.args.members.run.now c.args.members.places.now c.args.v.0 (get_or c.args.self.list.now c.loop-i.i (pos 0)) c.lower-k.result c.lower-k.result
bracket c =
    let k = c.lower-k.result in
    subst (λ (z : ℤ). Bracket c.args.members.run.now c.args.members.places.now c.args.v.0 z k k) (to_z-of_z w64 (get_or c.args.self.list.now c.loop-i.i (pos 0)) (search rules)) c.lower-k.ensures

pub returns-then-members-k : goal.returns-then-members-k
returns-then-members-k c =
    let m = c.args.members in
    paired_none c.args.self.list.now c.args.self.ascends m.run.now m.places.now m.indexed c.args.v.0 c.loop-i.i c.loop-i-test.true c.lower-k.result (bracket (goal.at.returns-then-members-k c).After-lower-k) (inl c.if-members-k.true) ∙ c.loop-i.invariant.1

pub returns-then-p_at-v : goal.returns-then-p_at-v
returns-then-p_at-v c =
    let m = c.args.members in
    let p : eq_z c.args.v.0 (placed m.run.now m.places.now c.lower-k.result).p ≡ false = search rules in
    paired_none c.args.self.list.now c.args.self.ascends m.run.now m.places.now m.indexed c.args.v.0 c.loop-i.i c.loop-i-test.true c.lower-k.result (bracket (goal.at.returns-then-p_at-v c).After-lower-k) (inr (c.if-members-k.false, p)) ∙ c.loop-i.invariant.1

turn : (c : After-pairs_from) → c.pairs_from.result ≡ paired c.args.self.list.now c.args.members.run.now c.args.v.0 c.loop-i.i
turn c = c.pairs_from.ensures ∙ ap (λ (z : ℤ). any (is_pair c.args.v.0 z) (map entry_of (records_of c.args.members.run.now))) (to_z-of_z w64 (get_or c.args.self.list.now c.loop-i.i (pos 0)) (search rules))

pub returns-then-pairs_from : goal.returns-then-pairs_from
returns-then-pairs_from c =
    let l = c.loop-i in
    sym (least-stop (paired c.args.self.list.now c.args.members.run.now c.args.v.0) (length c.args.self.list.now) l.i c.loop-i-test.true (sym (turn (goal.at.returns-then-pairs_from c).After-pairs_from) ∙ c.if-pairs_from.true)) ∙ l.invariant.1

pub loop-i-preserved-then-q-w : goal.loop-i-preserved-then-q-w
loop-i-preserved-then-q-w c =
    let l = c.loop-i in
    (omega arith, rw (add-one l.i) (sym (least_more (paired c.args.self.list.now c.args.members.run.now c.args.v.0) (length c.args.self.list.now) l.i c.loop-i-test.true (sym (turn (goal.at.loop-i-preserved-then-q-w c).After-pairs_from) ∙ c.if-pairs_from.false)) ∙ l.invariant.1))

further : (c : After-reach-i) → Bracket c.args.members.run.now c.args.members.places.now c.args.v.0 (get_or c.args.self.list.now c.loop-i.i (pos 0)) c.lower-k.result c.lower-k.result → (c.loop-i.i < c.reach-i.result.0) × (c.reach-i.result.0 ≤ length c.args.self.list.now)
    × (least (paired c.args.self.list.now c.args.members.run.now c.args.v.0) c.loop-i.i (length c.args.self.list.now - c.loop-i.i) ≡ least (paired c.args.self.list.now c.args.members.run.now c.args.v.0) c.reach-i.result.0 (length c.args.self.list.now - c.reach-i.result.0))
further c b =
    let m = c.args.members in
    let list = c.args.self.list.now in
    let i = c.loop-i.i in
    let at = placed m.run.now m.places.now c.lower-k.result in
    let p : eq_z at.p c.args.v.0 ≡ true = search rules in
    let q : eq_z at.q (get_or list i (pos 0)) ≡ false = search rules in
    let e : to_z w64 (of_z w64 c.q_at-q.result) ≡ at.q = to_z-of_z w64 c.q_at-q.result (search rules) ∙ c.q_at-q.ensures in
    paired_jump list c.args.self.ascends m.run.now m.places.now m.indexed c.args.v.0 i c.loop-i-test.true c.lower-k.result b c.if-members-k.false p q c.reach-i.result.0
    (c.reach-i.ensures ∙ ap (λ (z : ℤ). least (not_below list z) (i + 1) (length list - (i + 1))) e)

pub loop-i-smaller : goal.loop-i-smaller
loop-i-smaller c = let f = further (goal.at.loop-i-smaller c).After-reach-i (bracket (goal.at.loop-i-smaller c).After-lower-k) in omega (arith, f.0, f.1)

pub loop-i-preserved : goal.loop-i-preserved
loop-i-preserved c = let f = further (goal.at.loop-i-preserved c).After-reach-i (bracket (goal.at.loop-i-preserved c).After-lower-k) in (f.1, sym f.2 ∙ c.loop-i.invariant.1)
