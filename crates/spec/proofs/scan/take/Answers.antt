-- `spec::scan::take` meets its contract: a member notes nothing.
use Rattle.std.proofs.Common.{◌≡◌, ap, sym, ◌∙◌, ◌+◌}
use mathlib.Core.Bool.{true}
use Rattle.spec.specs.Kind.{is_member}
use Rattle.spec.specs.Record.{Record, record_at}
use Rattle.spec.specs.Code.{as_context, heads_before, noting}
use Rattle.spec.proofs.Noting.{if-same, noting_member}
use Rattle.spec.proofs.scan.take.Goals as goal

pub returns-then-is_member-clause-noted : goal.returns-then-is_member-clause-noted
returns-then-is_member-clause-noted c =
    let a = c.args in
    let is : is_member (record_at a.file.now a.i).kind ≡ true = ap (λ (m : Record). is_member m.kind) (sym c.record_at-m.ensures.read) ∙ sym c.is_member.ensures ∙ c.if-is_member.true in
    let count = heads_before (as_context a.state.context) in
    if-same c.take_member.result a.state (λ next. noting a.file.now a.heads.now (heads_before (as_context next.context)) (a.i + 1) ≡ noting a.file.now a.heads.now count a.i)
    (noting_member a.file.now a.heads.now count a.i c.requires.1 is) c.take_member.ensures.same
