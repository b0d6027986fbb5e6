-- `compose::domain::Domain::lay` meets its contract. The invariant: the first i values are laid.
use Rattle.std.proofs.Common.{◌≡◌, take}
use Rattle.compose.specs.Known.{domain_of}
use Rattle.compose.proofs.domain.Domain.lay.Given as goal

abbrev pub invariant-loop-i : goal.invariant-loop-i
invariant-loop-i l = take l.i l.list ≡ take l.i (domain_of l.self)
