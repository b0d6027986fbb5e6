-- `join::join::check_joined` meets its contract.
use native.Mathlib.Omega.{arith}
use Rattle.join.proofs.Faults.{accepted_shaped}
use Rattle.join.proofs.join.check_joined.Goals as goal

pub overflow_add-fields : goal.overflow_add-fields
overflow_add-fields c = let u = (accepted_shaped c.args.first).fields-few in let v = (accepted_shaped c.args.second).fields-few in omega arith

pub overflow_add-constraints : goal.overflow_add-constraints
overflow_add-constraints c = let u = (accepted_shaped c.args.first).constraints-few in let v = (accepted_shaped c.args.second).constraints-few in omega arith
