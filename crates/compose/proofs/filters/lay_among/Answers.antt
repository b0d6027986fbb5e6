-- `compose::filters::lay_among` meets its contract.
use Rattle.std.proofs.Common.{◌∙◌, ◌≡◌, sym, ◌||◌, ◌-◌, ◌/◌, length, rules}
use Rattle.lists.specs.Integers.{eq_z}
use Rattle.spec.specs.Record.{record_at}
use Rattle.compose.proofs.Narrowing.{is_item, two_items}
use Rattle.compose.proofs.filters.lay_among.Goals as goal

pub returns : goal.returns
returns c =
    let run = c.args.run.now in
    let items = two_items run c.requires.items.0 c.requires.items.1 in
    let count = c.lay_passing.ensures.count (is_item run) (λ x b f e.
    let t : b ≡ (eq_z x.0 (record_at run 0).p || eq_z x.0 (record_at run (length run / 32 - 1)).p) = search rules in
    t ∙ sym (items x.0)) in
    let left = c.lay_passing.ensures.left (is_item run) (λ x b f e.
    let t : b ≡ (eq_z x.0 (record_at run 0).p || eq_z x.0 (record_at run (length run / 32 - 1)).p) = search rules in
    t ∙ sym (items x.0)) in
    record { count = count; left = left }
