-- `spec::scan::scan` meets its contract: the first record is judged, then the rest.
use Rattle.std.proofs.Common.{◌≡◌, ◌∙◌, ap, sym, ◌<◌, ◌/◌, ℕ, length}
use mathlib.Core.Option.{none, some}
use native.Mathlib.Omega.{arith}
use Rattle.std.proofs.lemmas.Result.{err_from_is_err_and, on_ok_weaker}
use Rattle.lists.specs.Lists.{over}
use Rattle.spec.specs.Code.{as_record, as_refused}
use Rattle.spec.specs.Refusal.{Context, after_head, first_true, head_tests, refuse}
use Rattle.spec.proofs.Turns.{after_class, at_first_head, at_first_member, at_none, at_opened, fault_refused, refused_at}
use mathlib.Core.Bool.{false}
use lib.ListN.{set}
use Rattle.spec.specs.Code.{as_context, heads_before, noting}
use Rattle.spec.specs.Kind.{is_member}
use Rattle.spec.specs.Record.{Record, heads_of, record_at}
use Rattle.spec.specs.Refusal.{context}
use Rattle.spec.proofs.Noting.{head_counted, noting_first, noting_head}
use Rattle.spec.proofs.scan.scan.Goals.{After-after}
use Rattle.spec.proofs.scan.scan.Goals as goal

pub returns-then-is_empty : goal.returns-then-is_empty
returns-then-is_empty c = record { fault = ap some c.at.ensures ∙ sym (at_none c.args.file.now c.if-is_empty.true); noted = tt }

pub returns-then-is_member : goal.returns-then-is_member
returns-then-is_member c =
    let inside : 0 < length c.args.file.now / 32 = omega arith in
    record {
      fault = ap some c.at-then-is_member.ensures
          ∙ sym (at_first_member c.args.file.now (as_record c.record_at-m.result) c.record_at-m.ensures.read inside (sym c.is_member.ensures ∙ c.if-is_member.true)
          ∙ fault_refused c.misfiled_fault.result _ 1 c.misfiled_fault.ensures);
      noted = tt;
    }

pub returns-in_err-refuse_at : goal.returns-in_err-refuse_at
returns-in_err-refuse_at c =
    let m = as_record c.record_at-m.result in
    let inside : 0 < length c.args.file.now / 32 = omega arith in
    let judged = c.judge_head.ensures ∙ ap (λ (x : Context). first_true 2 (head_tests m.kind x m)) c.new-context.ensures in
    let p = err_from_is_err_and c.from_residual.result c.from_residual.ensures.1 in
    rw (p.1, p.2) (record { fault = sym (at_first_head c.args.file.now m c.record_at-m.ensures.read inside (some (as_refused c.in_err-refuse_at.field-0.0)) (refused_at _ _ _ c.in_err-refuse_at.ensures ∙ ap (λ (n : ℕ). refuse n 1) judged) (sym c.is_member.ensures ∙ c.if-is_member.false)); noted = tt })

-- the first record is a head without a fault
head_is : (c : After-after) → is_member (as_record c.record_at-m.result).kind ≡ false
head_is c = sym c.is_member.ensures ∙ c.if-is_member.false

clear : (c : After-after) → none ≡ refuse (first_true 2 (head_tests (as_record c.record_at-m.result).kind (context 0 0 0) (as_record c.record_at-m.result))) 1
clear c =
    let m = as_record c.record_at-m.result in
    refused_at _ _ _ c.in_ok-refuse_at.ensures ∙ ap (λ (n : ℕ). refuse n 1) (c.judge_head.ensures ∙ ap (λ (x : Context). first_true 2 (head_tests m.kind x m)) c.new-context.ensures)

after_is : (c : After-after) → as_context c.after.result ≡ after_head (as_record c.record_at-m.result).kind (context 0 0 0)
after_is c = c.after.ensures ∙ sym (after_class (as_record c.record_at-m.result).kind (as_context c.new-context.result)) ∙ ap (after_head (as_record c.record_at-m.result).kind) c.new-context.ensures

-- it is noted
noted_one : (c : After-after) → noting c.args.file.now (set c.args.heads.now 0 0) (heads_before (as_context c.after.result)) 1 ≡ over (heads_of c.args.file.now) c.args.heads.now
noted_one c =
    let file = c.args.file.now in
    let m = as_record c.record_at-m.result in
    let inside : 0 < length file / 32 = omega arith in
    let is : is_member (record_at file 0).kind ≡ false = ap (λ (r : Record). is_member r.kind) (sym c.record_at-m.ensures.read) ∙ head_is c in
    let next = ap heads_before (after_is c) ∙ (head_counted m.kind (context 0 0 0) m 1 (head_is c) (clear c)).1 in
    ap (λ (k : ℕ). noting file (set c.args.heads.now 0 0) k 1) next ∙ noting_head file c.args.heads.now 0 0 inside is (omega (arith, c.told-heads)) ∙ noting_first file c.args.heads.now

pub returns : goal.returns
returns c =
    let file = c.args.file.now in
    let m = as_record c.record_at-m.result in
    let inside : 0 < length file / 32 = omega arith in
    let p = (goal.at.returns c).After-after in
    record {
      noted = on_ok_weaker c.scan_from.result (λ (e : c.scan_from.new.heads ≡ noting file (set c.args.heads.now 0 0) (heads_before (as_context c.after.result)) 1). e ∙ noted_one p) c.scan_from.ensures.noted;
      fault = c.scan_from.ensures.left
          ∙ sym (at_first_head file m c.record_at-m.ensures.read inside none (clear p) (head_is p)
          ∙ at_opened file _ m (record { context = c.after.result; head = 0 }) c.record_at-m.ensures.read (after_is p));
    }
