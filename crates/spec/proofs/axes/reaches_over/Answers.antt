-- `spec::axes::reaches_over` meets its contract: `any` asks the record at each place.
use Rattle.std.proofs.Common.{rules, tests, ◌∙◌, refl, ◌+◌, ◌/◌, ℕ, length}
use native.Mathlib.Omega.{arith}
use lib.Dec.{ltb}
use Rattle.std.proofs.lemmas.Iterator.{YieldsList-from_range}
use Rattle.std.proofs.lemmas.Iterator.Search.{any_from_yields_List}
use Rattle.spec.specs.Record.{Record, record_at}
use Rattle.spec.proofs.Axis.{any_place}
use Rattle.spec.proofs.axes.reaches_over.Goals as goal

pub returns : goal.returns
returns c =
    let file = c.args.axes.now in
    let n = length file / 32 in
    let over = λ (m : Record). ltb c.args.top (m.b + m.a) in
    any_from_yields_List (λ (i : ℕ). over (record_at file i)) _ _ c.any.result c.any.ensures.ran (YieldsList-from_range 0 n n refl (omega arith)) (λ x b q k. search (rules, tests)) ∙ any_place over file
