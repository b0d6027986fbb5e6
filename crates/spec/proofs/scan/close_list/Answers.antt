-- `spec::scan::close_list` meets its contract: what the list is judged to have is refused at its head.
use Rattle.std.proofs.Common.{List, ◌∙◌, ap, ap₂, ◌+◌, ℕ}
use Rattle.spec.specs.Record.{Record}
use Rattle.spec.specs.Refusal.{list_fault, refuse}
use Rattle.spec.proofs.Turns.{refused_at}
use Rattle.spec.proofs.scan.close_list.Goals as goal

pub returns : goal.returns
returns c =
    let judged = c.judge_list.ensures ∙ ap₂ (λ (h : Record) (ms : List Record). list_fault h.kind h ms) c.record_at.ensures.read c.part.ensures.records in
    refused_at _ _ _ c.refuse_at.ensures ∙ ap (λ (n : ℕ). refuse n (c.args.head + 1)) judged
