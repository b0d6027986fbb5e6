-- `compose::finding::Ascending::has` meets its contract.
use Rattle.std.proofs.Common.{◌∙◌, ◌≡◌, arith, rules, nat_eq, get_or, pos, w64, of_z}
use Rattle.lists.specs.Integers.{eq_z}
use Rattle.compose.proofs.Ascending.{elem-by, elem-none}
use Rattle.compose.proofs.finding.Ascending.has.Goals as goal

pub returns-then-k-self : goal.returns-then-k-self
returns-then-k-self c =
    let list = c.args.self.list.now in
    let k = c.reach-k.result.0 in
    let same : nat_eq (of_z w64 (get_or list k (pos 0))) (of_z w64 c.args.w.0) ≡ eq_z (get_or list k (pos 0)) c.args.w.0 = search rules in
    same ∙ elem-by list c.args.w.0 k c.reach-k.ensures c.args.self.ascends c.if-k-self.true

pub returns-else-k-self : goal.returns-else-k-self
returns-else-k-self c =
    let e = elem-none c.args.self.list.now c.args.w.0 c.reach-k.result.0 c.reach-k.ensures (omega arith) in search (rules, e)
