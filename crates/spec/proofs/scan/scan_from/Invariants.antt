-- `spec::scan::scan_from` meets its contract. The invariant: what was left at the start is what is left now, and so is the array as it will stand.
use mathlib.Core.Path.{◌≡◌}
use Prim.Native.Nat.{◌-◌, ◌<◌, ◌≤◌}
use Rattle.spec.specs.Code.{as_context, heads_before, left_at, noting}
use Rattle.spec.proofs.scan.scan_from.Given as goal

abbrev pub invariant-loop-i : goal.invariant-loop-i
invariant-loop-i l = (l.state.head < l.i) × (l.i ≤ l.n) × (left_at l.file l.fn.first 1 ≡ left_at l.file l.state l.i) × (noting l.file l.heads (heads_before (as_context l.state.context)) l.i ≡ noting l.file l.fn.heads (heads_before (as_context l.fn.first.context)) 1)

abbrev pub decreases-loop-i : goal.decreases-loop-i
decreases-loop-i l = l.n - l.i
