-- `compose::filters::first_filter` meets its contract.
use Rattle.std.proofs.Common.{◌∙◌, ◌+◌, ap, refl, arith, List, ℤ, drop}
use mathlib.Core.List.{foldl}
use Rattle.spec.specs.Record.{constraint_of}
use Rattle.compose.specs.Maps.{narrow_by}
use Rattle.compose.specs.Code.{constraints_in}
use Rattle.compose.proofs.Positions.{fold_end, fold_turn}
use Rattle.compose.proofs.filters.first_filter.Goals as goal

pub loop-k-init : goal.loop-k-init
loop-k-init c = λ list. refl

pub loop-k-preserved : goal.loop-k-preserved
loop-k-preserved c =
    let l = c.loop-k in
    let file = c.args.rules.file.now in
    let heads = c.args.rules.heads.now in
    let by = narrow_by c.args.f in
    λ list. l.invariant list
    ∙ fold_turn by constraint_of file heads l.k list (omega arith)
    ∙ ap (λ (z : List ℤ). foldl by z (constraints_in file (drop (l.k + 1) heads))) (c.is_filter.ensures.others c.if-is_filter.false list)

pub returns-then-is_filter : goal.returns-then-is_filter
returns-then-is_filter c = (omega arith, c.is_filter.ensures.field c.if-is_filter.true, c.loop-k.invariant)

pub returns : goal.returns
returns c =
    let l = c.loop-k in
    λ list. l.invariant list ∙ fold_end (narrow_by c.args.f) constraint_of c.args.rules.file.now c.args.rules.heads.now l.k list (omega arith)
