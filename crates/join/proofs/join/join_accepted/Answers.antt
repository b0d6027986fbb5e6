-- `join::join::join_accepted` meets its contract: 16 on the first and the second, then the numbers of the joined file, then its bytes.
use Rattle.std.specs.Prelude.{IsErrAnd, MatchResult, Ok}
use Rattle.std.proofs.Common.{rules}
use mathlib.Core.List.{List, ◌++◌}
use mathlib.Core.Option.{none, some}
use mathlib.Core.Path.{◌∙◌, ◌≡◌, ap, ap₂, sym}
use Prim.Native.Nat.{◌*◌, ◌+◌, ◌≤◌, ℕ}
use native.Mathlib.Omega.{arith}
use lib.ListN.{drop, length}
use lib.Seq.{length-take-le}
use Rattle.std.proofs.lemmas.Result.{err_from_is_err_and}
use Rattle.spec.specs.Code.{fault_number}
use Rattle.spec.specs.Refusal.{accepted, refuse}
use Rattle.join.specs.Code.{as_join_fault, as_join_refused, refusal_of}
use Rattle.join.specs.Join.{join_fault, joined, of}
use Rattle.join.proofs.Faults.{accepted_shaped, answer_joined, answer-refused, fault_by_shapes, fault_sum_first, fault_sum_second, join-length, number-zero, output_joined, output_refused, refused_joined, unrefused}
use Rattle.join.proofs.join.join_accepted.Goals.{After-map_err, In_err-check_sum, In_err-check_sum-2}
use Rattle.join.proofs.join.join_accepted.Goals as goal

-- the first projector is not a sum
first_refused : (c : In_err-check_sum) → join_fault (length c.args.out.now) c.args.first.file.now c.args.second.file.now ≡ some (as_join_refused c.in_err-check_sum.field-0.0)
first_refused c = fault_sum_first _ _ _ c.args.first.accepted c.args.second.accepted _ (sym c.check_sum.ensures ∙ ap as_join_fault c.in_err-check_sum.was)

pub returns-in_err-check_sum-clause-answer : goal.returns-in_err-check_sum-clause-answer
returns-in_err-check_sum-clause-answer c =
    let p = err_from_is_err_and c.from_residual.result c.from_residual.ensures.1 in
    rw (p.1, p.2) (answer-refused _ _ _ _ (first_refused (goal.at.returns-in_err-check_sum-clause-answer c).In_err-check_sum))

pub returns-in_err-check_sum-clause-out : goal.returns-in_err-check_sum-clause-out
returns-in_err-check_sum-clause-out c = output_refused _ _ _ _ (first_refused (goal.at.returns-in_err-check_sum-clause-out c).In_err-check_sum)

-- the first is, the second is not
second_refused : (c : In_err-check_sum-2) → join_fault (length c.args.out.now) c.args.first.file.now c.args.second.file.now ≡ some (as_join_refused c.in_err-check_sum-2.field-0.0)
second_refused c =
    fault_sum_second _ _ _ c.args.first.accepted c.args.second.accepted (sym c.check_sum.ensures ∙ ap as_join_fault c.in_ok-check_sum.was) _ (sym c.check_sum-2.ensures ∙ ap as_join_fault c.in_err-check_sum-2.was)

pub returns-in_err-check_sum-2-clause-answer : goal.returns-in_err-check_sum-2-clause-answer
returns-in_err-check_sum-2-clause-answer c =
    let p = err_from_is_err_and c.from_residual-in_err-check_sum-2.result c.from_residual-in_err-check_sum-2.ensures.1 in
    rw (p.1, p.2) (answer-refused _ _ _ _ (second_refused (goal.at.returns-in_err-check_sum-2-clause-answer c).In_err-check_sum-2))

pub returns-in_err-check_sum-2-clause-out : goal.returns-in_err-check_sum-2-clause-out
returns-in_err-check_sum-2-clause-out c = output_refused _ _ _ _ (second_refused (goal.at.returns-in_err-check_sum-2-clause-out c).In_err-check_sum-2)

pub overflow_add-len : goal.overflow_add-len
overflow_add-len c = let u = accepted_shaped c.args.first in let v = accepted_shaped c.args.second in let i = u.ranges.inside in let j = v.ranges.inside in let l = u.short in let m = v.short in omega arith

pub overflow_add-len-2 : goal.overflow_add-len-2
overflow_add-len-2 c = let u = accepted_shaped c.args.first in let v = accepted_shaped c.args.second in let i = u.ranges.inside in let j = v.ranges.inside in let l = u.short in let m = v.short in omega arith

pub overflow_mul-len : goal.overflow_mul-len
overflow_mul-len c = let u = accepted_shaped c.args.first in let v = accepted_shaped c.args.second in let i = u.ranges.inside in let j = v.ranges.inside in let l = u.short in let m = v.short in omega arith

-- the fault that the joined file is judged to have, refused as its
mapped : (c : After-map_err) → MatchResult c.check_joined.result (λ x. c.map_err.result ≡ Ok x) (λ f. IsErrAnd c.map_err.result (λ r. as_join_refused r ≡ refusal_of joined (fault_number f) 0))
mapped c = search rules

-- both projectors are sums, so what the check of the joined file says is what is left to say
numbered : (c : After-map_err) → join_fault (length c.args.out.now) c.args.first.file.now c.args.second.file.now ≡ as_join_fault c.map_err.result
numbered c =
    fault_by_shapes (accepted_shaped c.args.first) (accepted_shaped c.args.second) (length c.args.out.now) c.args.first.accepted c.args.second.accepted
    (sym c.check_sum.ensures ∙ ap as_join_fault c.in_ok-check_sum.was) (sym c.check_sum-2.ensures ∙ ap as_join_fault c.in_ok-check_sum-2.was)
    ∙ ap (λ (n : ℕ). of joined (refuse n 0)) (sym c.check_joined.ensures) ∙ sym (refused_joined _ _ (mapped c))

pub returns-in_err-map_err-clause-answer : goal.returns-in_err-map_err-clause-answer
returns-in_err-map_err-clause-answer c =
    let p = err_from_is_err_and c.from_residual-in_err-map_err.result c.from_residual-in_err-map_err.ensures.1 in
    rw (p.1, p.2) (answer-refused _ _ _ _ (numbered (goal.at.returns-in_err-map_err-clause-answer c).After-map_err ∙ ap as_join_fault c.in_err-map_err.was))

pub returns-in_err-map_err-clause-out : goal.returns-in_err-map_err-clause-out
returns-in_err-map_err-clause-out c = output_refused _ _ _ _ (numbered (goal.at.returns-in_err-map_err-clause-out c).After-map_err ∙ ap as_join_fault c.in_err-map_err.was)

-- nothing is refused: there is no fault, and there is room
unfaulted : (c : After-map_err) → as_join_fault c.map_err.result ≡ none
    → (join_fault (length c.args.out.now) c.args.first.file.now c.args.second.file.now ≡ none) × (c.args.first.shape.fields + c.args.second.shape.fields ≤ 32) × ((c.args.first.shape.projector_at + c.args.second.shape.projector_at + 1) * 32 ≤ length c.args.out.now)
unfaulted c e =
    let z = number-zero _ _ _ _ _ (unrefused _ (sym e ∙ refused_joined _ _ (mapped c) ∙ ap (λ (n : ℕ). of joined (refuse n 0)) c.check_joined.ensures)) in
    (numbered c ∙ e, z.0, z.1)

pub write_joined-requires : goal.write_joined-requires
write_joined-requires c =
    let a = c.args in
    let z = unfaulted (goal.at.write_joined-requires c).After-map_err (ap as_join_fault c.in_ok-map_err.was) in
    (z.1, length-take-le ((a.first.shape.projector_at + a.second.shape.projector_at + 1) * 32) a.out.now z.2 ∙ sym (join-length (accepted_shaped a.first) (accepted_shaped a.second)))

pub returns-clause-answer : goal.returns-clause-answer
returns-clause-answer c =
    let z = unfaulted (goal.at.returns-clause-answer c).After-map_err (ap as_join_fault c.in_ok-map_err.was) in
    ap accepted (sym (join-length (accepted_shaped c.args.first) (accepted_shaped c.args.second))) ∙ answer_joined _ _ _ z.0

pub returns-clause-out : goal.returns-clause-out
returns-clause-out c =
    let z = unfaulted (goal.at.returns-clause-out c).After-map_err (ap as_join_fault c.in_ok-map_err.was) in
    ap₂ (λ (bytes : List ℕ) (n : ℕ). bytes ++ drop n c.args.out.now) c.write_joined.ensures (sym (join-length (accepted_shaped c.args.first) (accepted_shaped c.args.second))) ∙ output_joined _ _ _ z.0
