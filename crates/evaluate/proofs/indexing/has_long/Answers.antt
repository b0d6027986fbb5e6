use Rattle.std.proofs.Common.{rules, tests, ◌∙◌, ◌-◌, arith, length, refl}
use Rattle.std.proofs.lemmas.Iterator.{YieldsList-from_range}
use Rattle.std.proofs.lemmas.Iterator.Search.{any_from_yields_List}
use Rattle.evaluate.specs.Code.{is_long_at}
use Rattle.evaluate.proofs.Marked.{any_places}
use Rattle.evaluate.proofs.indexing.has_long.Goals as goal

pub returns : goal.returns
returns c =
    let is_long = is_long_at c.args.rules.file.now c.args.rules.heads.now in
    let n = length c.args.rules.heads.now - 1 in
    any_from_yields_List is_long _ _ c.any.result c.any.ensures.ran (YieldsList-from_range 0 c.count.result n refl (omega arith)) (λ x b q k. search (rules, tests)) ∙ any_places is_long n 0
