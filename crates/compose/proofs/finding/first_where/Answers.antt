-- `compose::finding::first_where` meets its contract.
use Rattle.std.proofs.Common.{◌∙◌, ◌≡◌, ap, sym, add-one, rules, arith, pos, get_or, length, w64}
use mir.ValLaws.{to_z-of_z}
use Rattle.compose.proofs.Turns.{least_end, least_more, least-stop}
use Rattle.compose.proofs.finding.first_where.Goals as goal

pub returns-then-passes : goal.returns-then-passes
returns-then-passes g c p a =
    let l = c.loop-i in
    let list = c.args.list.now in
    let t : c.passes.result ≡ p (get_or list l.i (pos 0)) = a _ _ (search rules) c.passes.ensures ∙ ap p (to_z-of_z w64 (get_or list l.i (pos 0)) (search rules)) in
    sym (least-stop (λ k. p (get_or list k (pos 0))) (length list) l.i c.loop-i-test.true (sym t ∙ c.if-passes.true)) ∙ l.invariant p a

pub loop-i-preserved : goal.loop-i-preserved
loop-i-preserved g c p a =
    let l = c.loop-i in
    let list = c.args.list.now in
    let t : c.passes.result ≡ p (get_or list l.i (pos 0)) = a _ _ (search rules) c.passes.ensures ∙ ap p (to_z-of_z w64 (get_or list l.i (pos 0)) (search rules)) in
    rw (add-one l.i) (sym (least_more (λ k. p (get_or list k (pos 0))) (length list) l.i c.loop-i-test.true (sym t ∙ c.if-passes.false)) ∙ l.invariant p a)

pub returns : goal.returns
returns g c p a =
    let l = c.loop-i in
    let list = c.args.list.now in
    let e : length list ≡ l.i = omega arith in
    e ∙ sym (least_end (λ k. p (get_or list k (pos 0))) (length list) l.i (omega arith)) ∙ l.invariant p a
