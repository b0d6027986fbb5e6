-- `join::join::joined_total` meets its contract.
use native.Mathlib.Omega.{arith}
use Rattle.join.proofs.Faults.{accepted_shaped}
use Rattle.join.proofs.Written.{total_both, total_first, totals_times}
use Rattle.join.proofs.join.joined_total.Goals as goal

pub returns-then-t-eq0 : goal.returns-then-t-eq0
returns-then-t-eq0 c =
    let s = c.args.first.shape in
    let t = c.args.second.shape in
    total_first s.fields t.fields s.total t.total (omega arith) (omega arith)

pub overflow_mul-result : goal.overflow_mul-result
overflow_mul-result c =
    let u = (accepted_shaped c.args.first).total-few in
    let v = (accepted_shaped c.args.second).total-few in
    let h = totals_times c.args.first.shape.total c.args.second.shape.total u v in
    omega (arith, h)

pub returns : goal.returns
returns c =
    let s = c.args.first.shape in
    let t = c.args.second.shape in
    total_both s.fields t.fields s.total t.total (omega arith) (omega arith)
