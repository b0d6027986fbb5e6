-- `compose::values::next_tried` meets its contract: a key asks for a pair.
use Rattle.std.proofs.Common.{◌∙◌, ◌-◌, sym, rules, pos, get_or, length}
use Rattle.lists.specs.Lists.{any}
use Rattle.registry.specs.Check.{is_pair}
use Rattle.compose.proofs.Keys.{least_paired}
use Rattle.compose.proofs.values.next_tried.Goals as goal

pub returns : goal.returns
returns g c =
    let entries = g.M.Members.entries c.args.members in
    let list = c.args.list.now in
    let v = c.args.v.0 in
    c.first_where.ensures (λ w. any (is_pair v w) entries) (λ x b f h. search rules)
    ∙ sym (least_paired entries v (λ k. get_or list k (pos 0)) c.args.from.0 (length list - c.args.from.0) c.in-Some.ensures.0)
