-- `compose::places::Plan::is_childless_field` meets its contract.
use mathlib.Core.List.{[]}
use mathlib.Core.Path.{◌∙◌}
use lib.ListN.{length}
use Rattle.compose.specs.Plans.{list_of}
use Rattle.compose.proofs.Walk.{map-upto}
use Rattle.compose.proofs.places.Plan.is_childless_field.Goals as goal

pub returns-in-Some : goal.returns-in-Some
returns-in-Some c =
    let p = c.args.self.now in
    let m = c.in-Some.map in
    c.run.ensures
    ∙ rw (
      c.map_run.ensures,
      c.places.ensures.file.0,
      c.list-in-Some.ensures,
      c.list.ensures,
      c.in-Some.is,
      map-upto (list_of p) [] (length p.order.now) c.args.f c.requires,
      map-upto (list_of p) [] (length p.order.now) m.parent (p.placed.places.maps-in c.args.f c.requires m c.in-Some.is).parent,
    )
