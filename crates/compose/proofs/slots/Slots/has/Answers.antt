-- `compose::slots::Slots::has` meets its contract.
use Rattle.std.proofs.Common.{◌∙◌, ◌≡◌, sym, arith, rules, nat_eq, false, get_or, pos, w64, of_z}
use Rattle.lists.specs.Integers.{elem_z, eq_z}
use Rattle.compose.proofs.Slotting.{free_none, only_is, only_none}
use Rattle.compose.proofs.slots.Slots.has.Goals as goal

pub returns-in-Free : goal.returns-in-Free
returns-in-Free c = sym (free_none c.args.self.numbers.now c.args.self.list.now c.args.self.slotted c.args.w.0 c.in-Free.ensures.number)

pub returns-then-i-self : goal.returns-then-i-self
returns-then-i-self c =
    let list = c.args.self.list.now in
    let i = c.in-Only.i in
    let same : nat_eq (of_z w64 (get_or list i (pos 0))) (of_z w64 c.args.w.0) ≡ eq_z (get_or list i (pos 0)) c.args.w.0 = search rules in
    same ∙ only_is c.args.self.numbers.now list c.args.self.slotted c.args.w.0 i c.in-Only.ensures.number (λ e. let f = c.in-Only.ensures.full e in cc) c.if-i-self.true

pub returns-else-i-self : goal.returns-else-i-self
returns-else-i-self c =
    let e : elem_z c.args.w.0 c.args.self.list.now ≡ false = only_none c.args.self.numbers.now c.args.self.list.now c.args.self.slotted c.args.w.0 c.in-Only.i c.in-Only.ensures.number (λ e. let f = c.in-Only.ensures.full e in cc) (λ h. absurd (omega arith)) in search (rules, e)
