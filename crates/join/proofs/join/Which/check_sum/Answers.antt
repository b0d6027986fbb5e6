-- `join::join::Which::check_sum` meets its contract: the projector stands behind the fields and the constraints.
use mathlib.Core.Bool.{Bool, cond, false, true}
use mathlib.Core.Option.{none, some}
use mathlib.Core.Path.{◌∙◌, ◌≡◌, ap, sym}
use Prim.Native.Nat.{◌+◌}
use native.Mathlib.Numerals.{add-one}
use native.Mathlib.Omega.{arith}
use Rattle.spec.specs.Record.{decoded}
use Rattle.spec.specs.Refusal.{Refused, refuse}
use Rattle.join.specs.Code.{as_which, refusal_of}
use Rattle.join.specs.Join.{JoinRefused, is_sum, of, projector_at}
use Rattle.join.proofs.Faults.{accepted_shaped, sum_no, sum_yes}
use Rattle.join.proofs.join.Which.check_sum.Goals as goal

pub kind_at-requires : goal.kind_at-requires
kind_at-requires c = (accepted_shaped c.args.accepted).ranges.inside

pub overflow_add-at : goal.overflow_add-at
overflow_add-at c = let u = accepted_shaped c.args.accepted in let i = u.ranges.inside in let l = u.short in omega arith

pub returns-in-Sum : goal.returns-in-Sum
returns-in-Sum c =
    let file = c.args.accepted.file.now in
    let yes : is_sum (decoded file).projector ≡ true = sum_yes (accepted_shaped c.args.accepted) c.kind_at.result c.kind_at.ensures.kind c.kind_at.ensures.number c.in-Sum.is in
    sym (ap (λ (b : Bool). of (as_which c.args.self) (cond b none (refuse 16 (projector_at file)))) yes)

pub returns-in_default : goal.returns-in_default
returns-in_default c =
    let file = c.args.accepted.file.now in
    let u = accepted_shaped c.args.accepted in
    let w = as_which c.args.self in
    let no : is_sum (decoded file).projector ≡ false = sum_no u c.kind_at.result c.kind_at.ensures.kind c.kind_at.ensures.number c.in_default.not-Sum in
    let at : c.args.accepted.shape.projector_at + 1 ≡ projector_at file = add-one c.args.accepted.shape.projector_at ∙ sym u.ranges.projector_range in
    ap (λ (r : JoinRefused). some r) (c.refused.ensures ∙ ap (λ (r : Refused). record { which = w; why = r }) c.at.ensures ∙ ap (refusal_of w 16) at)
    ∙ sym (ap (λ (b : Bool). of w (cond b none (refuse 16 (projector_at file)))) no)
