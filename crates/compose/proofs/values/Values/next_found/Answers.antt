-- `compose::values::Values::next_found` meets its contract: where the parent's value is no key any index stands, and a key asks for a pair.
use Rattle.std.proofs.Common.{◌∙◌, ◌≡◌, ◌-◌, List, ℤ, map, subst, sym, pos, get_or, length}
use Rattle.lists.specs.Lists.{any}
use Rattle.spec.specs.Record.{entry_of, records_of}
use Rattle.registry.proofs.Cross.{any_key}
use Rattle.registry.specs.Check.{cross_allows, is_key}
use Rattle.compose.specs.Walk.{least}
use Rattle.compose.specs.Known.{values_of}
use Rattle.compose.proofs.Keys.{least-any, least_paired}
use Rattle.compose.proofs.values.Values.next_found.Goals.{After-finds_p}
use Rattle.compose.proofs.values.Values.next_found.Goals as goal

keyed : (c : After-finds_p) → any (is_key c.args.v.0) (map entry_of (records_of c.args.members.run.now)) ≡ c.finds_p.result
keyed c = any_key c.args.v.0 (records_of c.args.members.run.now) ∙ sym c.finds_p.ensures

pub returns-in_default : goal.returns-in_default
returns-in_default c =
    subst (λ (l : List ℤ). c.next_tried.result.0 ≡ least (λ k. cross_allows (map entry_of (records_of c.args.members.run.now)) c.args.v.0 (get_or l k (pos 0))) c.args.from.0 (length l - c.args.from.0)) c.list.ensures c.next_tried.ensures

pub returns-then-not-finds_p : goal.returns-then-not-finds_p
returns-then-not-finds_p c =
    let list = values_of c.args.self in
    sym (least-any (map entry_of (records_of c.args.members.run.now)) c.args.v.0 (λ k. get_or list k (pos 0)) c.args.from.0 (length list - c.args.from.0) (keyed (goal.at.returns-then-not-finds_p c).After-finds_p ∙ c.if-not-finds_p.true))

pub returns : goal.returns
returns c =
    let list = c.in-Ascending.ascending.list.now in
    rw c.in-Ascending.is (c.next_pair.ensures ∙ sym (least_paired (map entry_of (records_of c.args.members.run.now)) c.args.v.0 (λ k. get_or list k (pos 0)) c.args.from.0 (length list - c.args.from.0) (keyed (goal.at.returns c).After-finds_p ∙ c.if-not-finds_p.false)))
