-- `spec::scan::close` meets its contract: the last list is judged, then the end.
use Rattle.std.proofs.Common.{rules, ◌≡◌, ◌∙◌, ap, refl, sym, ◌+◌, ◌/◌, ◌≤◌, ℕ, Bool, length}
use mathlib.Core.Bool.{cond}
use mathlib.Core.Option.{none, some}
use native.Mathlib.Omega.{arith}
use lib.Dec.{eqb}
use Rattle.std.proofs.lemmas.Result.{err_from_is_err_and}
use Rattle.spec.specs.Code.{as_context, as_refused, heads_before, noting, section_number}
use Rattle.spec.specs.Refusal.{refuse}
use Rattle.spec.proofs.Noting.{noting_end}
use Rattle.spec.proofs.Turns.{at_end}
use Rattle.spec.proofs.scan.close.Goals as goal

pub returns-in_err-close_list : goal.returns-in_err-close_list
returns-in_err-close_list c =
    let n = length c.args.file.now / 32 in
    let end : n ≤ n = omega arith in
    let p = err_from_is_err_and c.from_residual.result c.from_residual.ensures.1 in
    rw (p.1, p.2) (record { left = sym (at_end c.args.file.now c.args.state _ _ n refl refl (some (as_refused c.in_err-close_list.field-0.0)) c.in_err-close_list.ensures end); noted = tt })

pub returns-then-eq-clause-left : goal.returns-then-eq-clause-left
returns-then-eq-clause-left c =
    let n = length c.args.file.now / 32 in
    let end : n ≤ n = omega arith in
    let last : c.eq.result ≡ eqb (section_number c.args.state.context.section) 2 = search rules in
    sym (at_end c.args.file.now c.args.state _ _ n refl refl none c.in_ok-close_list.ensures end ∙ ap (λ (b : Bool). cond b none (refuse 4 (n + 1))) (sym last ∙ c.if-eq.true))

pub returns-then-eq-clause-noted : goal.returns-then-eq-clause-noted
returns-then-eq-clause-noted c =
    let st = c.args.state in
    let last : c.eq.result ≡ eqb (section_number st.context.section) 2 = search rules in
    let count : heads_before (as_context st.context) ≡ c.heads.result + 1 = ap (λ (b : Bool). st.context.fields + st.context.constraints + cond b 1 0) (sym last ∙ c.if-eq.true) ∙ omega (arith, c.heads.ensures.0) in
    let n = length c.args.file.now / 32 in
    noting_end c.args.file.now c.args.heads.now (c.heads.result + 1) n refl (omega (arith, c.heads.ensures.1, c.told-heads)) ∙ ap (λ (k : ℕ). noting c.args.file.now c.args.heads.now k n) (sym count)

pub returns-else-eq : goal.returns-else-eq
returns-else-eq c =
    let n = length c.args.file.now / 32 in
    let end : n ≤ n = omega arith in
    let last : c.eq.result ≡ eqb (section_number c.args.state.context.section) 2 = search rules in
    rw c.at.ensures (record { left = sym (at_end c.args.file.now c.args.state _ _ n refl refl none c.in_ok-close_list.ensures end ∙ ap (λ (b : Bool). cond b none (refuse 4 (n + 1))) (sym last ∙ c.if-eq.false)); noted = tt })
