-- By what `count` answered; its line stands at the start of the text.
use borrow.Author.Rules.{rules}
use Prim.Native.Nat.{◌<◌, ◌^◌}
use Rattle.std.specs.Prelude.{Result}
use Rattle.spec.specs.Code.{as_refused}
use Rattle.spec.specs.declared.refusal.Refusal.{Refusal}
use Rattle.program.proofs.Printing.{end_short, fault_small, put_line_lem, refused_short}
use Rattle.listing.proofs.Buffer.{room_yes}
use Rattle.listing.specs.Text.{end_line, refused_line}
use Rattle.classifier.specs.Code.{as_counted, as_counts}
use Rattle.classifier.specs.declared.count.Counts.{Counts}
use Rattle.program.specs.Printed.{last_line}
use mathlib.Core.Path.{◌∙◌, ◌≡◌, ap, sym}
use native.Mathlib.Omega.{arith}
use lib.ListN.{length}
use Rattle.program.proofs.list.last_text.Goals as goal

pub returns-in-Err : goal.returns-in-Err
returns-in-Err c =
    let put = c.put_refusal in
    let r = c.in-Err.r in
    let counted = c.count in
    let old = c.args.text.now in
    let room : length old ≡ 96 = search rules in
    let at : r.record < 2 ^ 64 = search rules in
    let stands = put_line_lem old put.new.out (refused_line (as_refused r)) put.result _ (room_yes old 0 50 (omega arith)) put.ensures.out_after put.ensures.value (omega (arith, refused_short (as_refused r) (fault_small r.fault) at)) in
    record { counted = stands.0; line = stands.1 ∙ ap (λ (v : Result Counts Refusal). last_line (as_counted v)) (sym c.in-Err.is) ∙ ap last_line counted.ensures.answer }

pub returns-in-Ok : goal.returns-in-Ok
returns-in-Ok c =
    let put = c.put_end in
    let n = c.in-Ok.c in
    let counted = c.count in
    let old = c.args.text.now in
    let room : length old ≡ 96 = search rules in
    let total : n.total < 2 ^ 64 = search rules in
    let emitted : n.emitted < 2 ^ 64 = search rules in
    let passed : n.passed < 2 ^ 64 = search rules in
    let failed : n.failed < 2 ^ 64 = search rules in
    let stands = put_line_lem old put.new.out (end_line (as_counts n)) put.result _ (room_yes old 0 88 (omega arith)) put.ensures.out_after put.ensures.value (omega (arith, end_short (as_counts n) total emitted passed failed)) in
    record { counted = stands.0; line = stands.1 ∙ ap (λ (v : Result Counts Refusal). last_line (as_counted v)) (sym c.in-Ok.is) ∙ ap last_line counted.ensures.answer }
