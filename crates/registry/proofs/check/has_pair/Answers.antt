-- `registry::check::has_pair` meets its contract.
use Rattle.std.proofs.Common.{◌∙◌, ◌≡◌, ap, ap₂, sym, arith, Bool, ◌||◌, ◌+◌, ◌*◌, ◌/◌, drop, length}
use Rattle.spec.specs.Record.{record_at, records_of}
use Rattle.spec.proofs.Axis.{any_four, any_from}
use Rattle.registry.proofs.Cross.{any_pair, pairs, pairs_entry}
use Rattle.registry.proofs.check.has_pair.Goals.{After-is_pair_at-in-loop-block-3}
use Rattle.registry.proofs.check.has_pair.Goals as goal

-- the four records of a turn, and those behind them
turn : (c : After-is_pair_at-in-loop-block-3)
    → any_from (pairs c.args.v.0 c.args.w.0) c.args.run.now 0
    ≡ (c.is_pair_at.result || c.is_pair_at-in-loop-block.result || c.is_pair_at-in-loop-block-2.result || c.is_pair_at-in-loop-block-3.result || any_from (pairs c.args.v.0 c.args.w.0) c.args.run.now (c.loop-block.block * 4 + 4))
turn c =
    let v = c.args.v.0 in
    let w = c.args.w.0 in
    let run = c.args.run.now in
    let i = c.loop-block.block * 4 in
    let left = any_from (pairs v w) run (i + 4) in
    let a = pairs_entry v w (record_at run i) ∙ sym c.is_pair_at.ensures in
    let b = pairs_entry v w (record_at run (i + 1)) ∙ sym c.is_pair_at-in-loop-block.ensures in
    let d = pairs_entry v w (record_at run (i + 2)) ∙ sym c.is_pair_at-in-loop-block-2.ensures in
    let e = pairs_entry v w (record_at run (i + 3)) ∙ sym c.is_pair_at-in-loop-block-3.ensures in
    c.loop-block.invariant ∙ any_four (pairs v w) run i (omega arith) ∙ ap (λ (t : Bool). t || left) (ap₂ ◌||◌ (ap₂ ◌||◌ (ap₂ ◌||◌ a b) d) e)

pub returns-then-is_pair_at : goal.returns-then-is_pair_at
returns-then-is_pair_at c =
    let left = any_from (pairs c.args.v.0 c.args.w.0) c.args.run.now (c.loop-block.block * 4 + 4) in
    sym (any_pair c.args.v.0 c.args.w.0 (records_of c.args.run.now) ∙ turn (goal.at.returns-then-is_pair_at c).After-is_pair_at-in-loop-block-3 ∙ ap (λ (t : Bool). t || left) c.if-is_pair_at.true)

pub loop-block-preserved : goal.loop-block-preserved
loop-block-preserved c =
    let i = c.loop-block.block * 4 in
    let left = any_from (pairs c.args.v.0 c.args.w.0) c.args.run.now in
    let e : i + 4 ≡ (c.loop-block.block + 1) * 4 = omega arith in
    turn (goal.at.loop-block-preserved c).After-is_pair_at-in-loop-block-3 ∙ ap (λ (t : Bool). t || left (i + 4)) c.if-is_pair_at.false ∙ ap left e

pub returns : goal.returns
returns c =
    let v = c.args.v.0 in
    let w = c.args.w.0 in
    let run = c.args.run.now in
    let k = length run / 32 / 4 in
    let e : c.loop-block.block * 4 ≡ k * 4 = omega arith in
    c.has_pair_from.ensures ∙ any_pair v w (drop (k * 4) (records_of run)) ∙ sym (ap (any_from (pairs v w) run) e) ∙ sym c.loop-block.invariant ∙ sym (any_pair v w (records_of run))
