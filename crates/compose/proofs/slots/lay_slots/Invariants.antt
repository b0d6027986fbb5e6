-- `compose::slots::lay_slots` meets its contract. The invariant: the slots of the values before i are laid.
use Rattle.compose.proofs.Slotting.{Laid}
use Rattle.compose.proofs.slots.lay_slots.Given as goal

abbrev pub invariant-loop-i : goal.invariant-loop-i
invariant-loop-i l = Laid l.list l.slots l.i
