-- `registry::check::has_pair_from` meets its contract.
use Rattle.std.proofs.Common.{◌∙◌, ◌≡◌, sym, arith, true, false, drop}
use Rattle.spec.specs.Record.{record_at, records_of}
use Rattle.spec.proofs.Axis.{any_end, any_more, any-stop}
use Rattle.registry.proofs.Cross.{any_pair, pairs, pairs_entry}
use Rattle.registry.proofs.check.has_pair_from.Goals as goal

pub returns-then-is_pair_at : goal.returns-then-is_pair_at
returns-then-is_pair_at c =
    let l = c.loop-i in
    let h : pairs c.args.v.0 c.args.w.0 (record_at c.args.run.now l.i) ≡ true = pairs_entry c.args.v.0 c.args.w.0 (record_at c.args.run.now l.i) ∙ sym c.is_pair_at.ensures ∙ c.if-is_pair_at.true in
    sym (any_pair c.args.v.0 c.args.w.0 (drop c.args.from (records_of c.args.run.now)) ∙ sym l.invariant ∙ any-stop (pairs c.args.v.0 c.args.w.0) c.args.run.now l.i (omega arith) h)

pub loop-i-preserved : goal.loop-i-preserved
loop-i-preserved c =
    let l = c.loop-i in
    let h : pairs c.args.v.0 c.args.w.0 (record_at c.args.run.now l.i) ≡ false = pairs_entry c.args.v.0 c.args.w.0 (record_at c.args.run.now l.i) ∙ sym c.is_pair_at.ensures ∙ c.if-is_pair_at.false in
    any_more (pairs c.args.v.0 c.args.w.0) c.args.run.now l.i (omega arith) h ∙ l.invariant

pub returns : goal.returns
returns c = sym (any_pair c.args.v.0 c.args.w.0 (drop c.args.from (records_of c.args.run.now)) ∙ sym c.loop-i.invariant ∙ any_end (pairs c.args.v.0 c.args.w.0) c.args.run.now c.loop-i.i (omega arith))
