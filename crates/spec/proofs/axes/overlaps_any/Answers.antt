-- `spec::axes::overlaps_any` meets its contract: `any` asks the record at each place.
use Rattle.std.proofs.Common.{rules, tests, ◌∙◌, refl, ◌/◌, ℕ, length}
use native.Mathlib.Omega.{arith}
use Rattle.std.proofs.lemmas.Iterator.{YieldsList-from_range}
use Rattle.std.proofs.lemmas.Iterator.Search.{any_from_yields_List}
use Rattle.spec.specs.Code.{as_record}
use Rattle.spec.specs.Record.{record_at}
use Rattle.spec.specs.Refusal.{overlaps}
use Rattle.spec.proofs.Axis.{any_place}
use Rattle.spec.proofs.axes.overlaps_any.Goals as goal

pub returns : goal.returns
returns c =
    let file = c.args.before.now in
    let n = length file / 32 in
    let m = as_record c.args.m in
    any_from_yields_List (λ (i : ℕ). overlaps m (record_at file i)) _ _ c.any.result c.any.ensures.ran (YieldsList-from_range 0 n n refl (omega arith)) (λ x b q k. search (rules, tests)) ∙ any_place (overlaps m) file
