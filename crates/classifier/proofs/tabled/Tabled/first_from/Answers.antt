use Rattle.std.proofs.Common.{◌∙◌, List, Option, ℕ, ap, sym, take}
use Rattle.compose.specs.Plans.{as_plan, next_tuple}
use Rattle.compose.proofs.Stepping.{width_in}
use Rattle.classifier.specs.Code.{as_start, first_from}
use Rattle.classifier.proofs.tabled.Tabled.first_from.Goals as goal

pub returns-in-Some : goal.returns-in-Some
returns-in-Some c =
    let plan = c.args.self.now.walk.plan in
    let p = as_plan c.args.self.now.walk.plan in
    c.next_tuple.ensures
    ∙ ap (λ (n : ℕ). next_tuple p (take n c.in-Some.t)) (sym (width_in plan.file.now plan.scratch.now plan.lists.now plan.maps.now plan.order.now))
    ∙ ap (λ (s : Option (List ℕ)). first_from p (as_start s)) (sym c.in-Some.is)
