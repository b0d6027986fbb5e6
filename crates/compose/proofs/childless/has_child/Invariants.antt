-- `compose::childless::has_child` meets its contract. The invariant: some child value is in the list exactly where one of the places that are left gives it.
use Rattle.std.proofs.Common.{◌≡◌}
use Rattle.compose.specs.Known.{values_of}
use Rattle.compose.proofs.Paired.{among}
use Rattle.compose.proofs.childless.has_child.Given as goal

abbrev pub invariant-loop-k : goal.invariant-loop-k
invariant-loop-k g l = (l.k-iterator.end ≡ l.fn.span.end)
    × (among (g.M.Members.member l.members) l.v.0 (values_of l.children) l.k-iterator.start l.fn.span.end ≡ among (g.M.Members.member l.members) l.v.0 (values_of l.children) l.fn.span.start l.fn.span.end)
