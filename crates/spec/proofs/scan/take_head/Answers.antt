-- `spec::scan::take_head` meets its contract: the list before is judged, then the head itself.
use Rattle.std.proofs.Common.{◌≡◌, ◌∙◌, ap, refl, sym, ◌+◌, ℕ}
use mathlib.Core.Option.{none, some}
use native.Mathlib.Omega.{arith}
use Rattle.std.proofs.lemmas.Result.{err_from_is_err_and}
use Rattle.spec.specs.Code.{as_context, as_kind, as_record, as_refused}
use Rattle.spec.specs.Refusal.{refuse}
use Rattle.spec.proofs.Turns.{after_class, at_head, at_opened, has_room, refused_at}
use mathlib.Core.Bool.{false}
use lib.ListN.{set}
use Rattle.spec.specs.Code.{heads_before, noting}
use Rattle.spec.specs.Kind.{is_member}
use Rattle.spec.specs.Record.{Record, record_at}
use Rattle.spec.specs.Refusal.{after_head, first_true, head_tests}
use Rattle.spec.proofs.Noting.{head_counted, noting_head}
use Rattle.spec.proofs.scan.take_head.Goals.{After-after}
use Rattle.spec.proofs.scan.take_head.Goals as goal

pub returns-in_err-close_list : goal.returns-in_err-close_list
returns-in_err-close_list c =
    let p = err_from_is_err_and c.from_residual.result c.from_residual.ensures.1 in
    rw (p.1, p.2) (record { left = (at_head c.args.file.now c.args.state _ _ c.args.i refl refl (as_record c.args.m) c.requires.2 c.requires.1 (some (as_refused c.in_err-close_list.field-0.0)) _ c.in_err-close_list.ensures refl c.requires.3, tt); noted = tt })

pub returns-in_err-refuse_at : goal.returns-in_err-refuse_at
returns-in_err-refuse_at c =
    let p = err_from_is_err_and c.from_residual-in_err-refuse_at.result c.from_residual-in_err-refuse_at.ensures.1 in
    let own = refused_at _ _ _ c.in_err-refuse_at.ensures ∙ ap (λ (n : ℕ). refuse n (c.args.i + 1)) c.judge_head.ensures in
    rw (p.1, p.2) (record { left = (at_head c.args.file.now c.args.state _ _ c.args.i refl refl (as_record c.args.m) c.requires.2 c.requires.1 none (some (as_refused c.in_err-refuse_at.field-0.0)) c.in_ok-close_list.ensures own c.requires.3, tt); noted = tt })

pub after-requires-clause-room : goal.after-requires-clause-room
after-requires-clause-room c =
    has_room (as_kind c.args.m.kind) (as_context c.args.state.context) (as_record c.args.m) (c.args.i + 1) (refused_at _ _ _ c.in_ok-refuse_at.ensures ∙ ap (λ (n : ℕ). refuse n (c.args.i + 1)) c.judge_head.ensures)

-- no fault of the head
clear : (c : After-after) → none ≡ refuse (first_true 2 (head_tests (as_kind c.args.m.kind) (as_context c.args.state.context) (as_record c.args.m))) (c.args.i + 1)
clear c = refused_at _ _ _ c.in_ok-refuse_at.ensures ∙ ap (λ (n : ℕ). refuse n (c.args.i + 1)) c.judge_head.ensures

-- the context after it
after_is : (c : After-after) → as_context c.after.result ≡ after_head (as_kind c.args.m.kind) (as_context c.args.state.context)
after_is c = c.after.ensures ∙ sym (after_class (as_kind c.args.m.kind) (as_context c.args.state.context))

pub returns-clause-left : goal.returns-clause-left
returns-clause-left c = (
  at_head c.args.file.now c.args.state _ _ c.args.i refl refl (as_record c.args.m) c.requires.2 c.requires.1 none none c.in_ok-close_list.ensures (clear c) c.requires.3
      ∙ at_opened c.args.file.now _ (as_record c.args.m) (record { context = c.after.result; head = c.args.i }) c.requires.2 (after_is (goal.at.returns-clause-left c).After-after),
  omega arith,
)

pub returns-clause-noted : goal.returns-clause-noted
returns-clause-noted c =
    let a = c.args in
    let n = head_counted (as_kind a.m.kind) (as_context a.state.context) (as_record a.m) (a.i + 1) c.requires.3 (clear c) in
    let is : is_member (record_at a.file.now a.i).kind ≡ false = ap (λ (m : Record). is_member m.kind) (sym c.requires.2) ∙ c.requires.3 in
    let next : heads_before (as_context c.after.result) ≡ c.heads.result + 1 = ap heads_before (after_is (goal.at.returns-clause-noted c).After-after) ∙ n.1 ∙ ap (λ (k : ℕ). k + 1) (sym c.heads.ensures.0) in
    ap (λ (k : ℕ). noting a.file.now (set a.heads.now c.heads.result a.i) k (a.i + 1)) next
    ∙ noting_head a.file.now a.heads.now c.heads.result a.i c.requires.1 is (omega (arith, c.heads.ensures.1, c.told-heads))
    ∙ ap (λ (k : ℕ). noting a.file.now a.heads.now k a.i) (c.heads.ensures.0 ∙ sym n.0)
