-- `compose::places::Plan::is_childless` meets its contract.
use Rattle.std.proofs.Common.{◌∙◌, Bool, ℕ, arith, refl, rules, length, map}
use Rattle.std.proofs.lemmas.Iterator.{YieldsList-from_range}
use Rattle.std.proofs.lemmas.Iterator.Search.{any_from_yields_List}
use Rattle.lists.specs.Lists.{upto}
use Rattle.compose.specs.Maps.{childless_map}
use Rattle.compose.specs.Plans.{list_of, map_onto}
use Rattle.compose.specs.declared.places.Plan.{Plan}
use Rattle.compose.proofs.Stepping.{any_range}
use Rattle.compose.proofs.places.Plan.is_childless.Goals as goal

abbrev is_childless : Plan → ℕ → Bool
is_childless plan f = childless_map (map (list_of plan) (upto (length plan.order.now))) (map_onto plan f) f

pub returns : goal.returns
returns c =
    let n = length c.args.self.now.order.now in
    let test = is_childless c.args.self.now in
    any_from_yields_List test _ _ c.any.result c.any.ensures.ran (YieldsList-from_range 0 n n refl (omega arith)) (λ x b q k. search rules) ∙ any_range test 0 n
