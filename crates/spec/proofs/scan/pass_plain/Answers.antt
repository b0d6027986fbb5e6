-- `spec::scan::pass_plain` meets its contract: the open head takes the members of each list.
use Rattle.std.proofs.Common.{◌≡◌, ◌∙◌, ap, refl, sym}
use Rattle.spec.specs.Code.{list_number}
use Rattle.spec.specs.Kind.{row_of}
use Rattle.spec.specs.Record.{Record, record_at}
use Rattle.spec.specs.declared.plain.PlainList.TheVariants as plain
use Rattle.spec.proofs.Passing.{passed}
use Rattle.spec.proofs.scan.pass_plain.Goals.{After-row_of}
use Rattle.spec.proofs.scan.pass_plain.Goals as goal

-- the list of the open head
list_is : (c : After-row_of) → (row_of (record_at c.args.file.now c.args.state.head).kind (record_at c.args.file.now c.args.state.head).b).list ≡ list_number c.row_of.result.list
list_is c = sym (ap (λ w. w.list) c.row_of.ensures ∙ ap (λ (h : Record). (row_of h.kind h.b).list) c.record_at-head.ensures.read)

pub returns-in-Values : goal.returns-in-Values
returns-in-Values c =
    let list = list_is (goal.at.returns-in-Values c).After-row_of ∙ ap list_number c.in-Values.is in
    let p = passed c.args.file.now c.args.state (plain.Values c.record_at-head.result.a) (list, sym (ap (λ (h : Record). h.a) c.record_at-head.ensures.read)) c.args.i c.plain_end.result c.requires.0 c.plain_end.ensures in
    record { left = p.0; members = p.1 }

pub returns-in-Items : goal.returns-in-Items
returns-in-Items c =
    let list = list_is (goal.at.returns-in-Items c).After-row_of ∙ ap list_number c.in-Items.is in
    let p = passed c.args.file.now c.args.state plain.Items list c.args.i c.plain_end-in-Items.result c.requires.0 c.plain_end-in-Items.ensures in
    record { left = p.0; members = p.1 }

pub returns-in-Entries : goal.returns-in-Entries
returns-in-Entries c =
    let list = list_is (goal.at.returns-in-Entries c).After-row_of ∙ ap list_number c.in-Entries.is in
    let p = passed c.args.file.now c.args.state plain.Entries list c.args.i c.plain_end-in-Entries.result c.requires.0 c.plain_end-in-Entries.ensures in
    record { left = p.0; members = p.1 }

pub returns-in-Disables : goal.returns-in-Disables
returns-in-Disables c =
    let list = list_is (goal.at.returns-in-Disables c).After-row_of ∙ ap list_number c.in-Disables.is in
    let p = passed c.args.file.now c.args.state (plain.Disables c.args.state.context.fields) (list, refl) c.args.i c.plain_end-in-Disables.result c.requires.0 c.plain_end-in-Disables.ensures in
    record { left = p.0; members = p.1 }

pub returns-in-Assigns : goal.returns-in-Assigns
returns-in-Assigns c =
    let list = list_is (goal.at.returns-in-Assigns c).After-row_of ∙ ap list_number c.in-Assigns.is in
    let p = passed c.args.file.now c.args.state (plain.Assigns c.args.state.context.fields) (list, refl) c.args.i c.plain_end-in-Assigns.result c.requires.0 c.plain_end-in-Assigns.ensures in
    record { left = p.0; members = p.1 }
