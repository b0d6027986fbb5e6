-- `registry::check::Head::check` meets its contract; what `search` leaves of it.
use Rattle.std.proofs.Common.{◌∙◌, ◌≡◌, ap, ap₂, pos, get_or, suc, take, drop, map, ◌-◌, rules}
use Rattle.spec.proofs.Multiples.{held}
use Rattle.spec.specs.Record.{entry_of, record_at, records_of}
use Rattle.registry.specs.Check.{cross_allows, value_at}
use Rattle.registry.proofs.Constraints.{checked, of_cross}
use Rattle.registry.proofs.check.Head.check.Goals as goal

pub returns-in-Cross : goal.returns-in-Cross
returns-in-Cross c =
    let row = c.args.row.now in
    let h = record_at c.args.self.file.now c.args.self.at in
    let ms = take (c.args.self.end - suc c.args.self.at) (drop (suc c.args.self.at) (records_of c.args.self.file.now)) in
    let a : held (get_or row c.a_at.result (pos 0)) ≡ get_or row c.a_at.result (pos 0) = search rules in
    let b : held (get_or row c.b_at.result (pos 0)) ≡ get_or row c.b_at.result (pos 0) = search rules in
    c.lets.ensures
    ∙ ap₂ (cross_allows (map entry_of ms)) (a ∙ ap (value_at row) c.a_at.ensures.0) (b ∙ ap (value_at row) c.b_at.ensures.0)
    ∙ of_cross row h ms
    ∙ ap (checked row h ms) c.in-Cross.ensures.kind
