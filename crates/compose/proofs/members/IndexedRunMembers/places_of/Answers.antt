-- `IndexedRun::places_of` meets its contract.
use Rattle.std.proofs.Common.{◌∙◌}
use Rattle.lists.proofs.Tests.{ltb_no, ltb_yes}
use Rattle.spec.specs.Record.{records_of}
use Rattle.registry.proofs.Cross.{any_key}
use Rattle.compose.proofs.Spanned.{span_key, span_pairs}
use Rattle.compose.proofs.members.IndexedRunMembers.places_of.Goals as goal

pub returns-then-span : goal.returns-then-span
returns-then-span c =
    let m = c.args.self in
    let s = c.span_of-span.result in
    let e = c.span_of-span.ensures in (
      any_key c.args.v.0 (records_of m.run.now) ∙ span_key m.run.now m.places.now c.args.v.0 s.start s.end e m.indexed ∙ ltb_yes s.start s.end c.if-span.true,
      e.low_le,
      e.high_le,
      span_pairs m.run.now m.places.now c.args.v.0 s.start s.end e m.indexed,
      e,
    )

pub returns-else-span : goal.returns-else-span
returns-else-span c =
    let m = c.args.self in
    let s = c.span_of-span.result in
    any_key c.args.v.0 (records_of m.run.now) ∙ span_key m.run.now m.places.now c.args.v.0 s.start s.end c.span_of-span.ensures m.indexed ∙ ltb_no s.start s.end c.if-span.false
