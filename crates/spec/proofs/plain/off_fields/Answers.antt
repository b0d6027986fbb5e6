-- `spec::plain::off_fields` meets its contract.
use Rattle.std.proofs.Common.{◌≡◌, ◌∙◌, ◌/◌, sym, refl, Bool, true, false}
use lib.Dec.{leb}
use mir.Val.{bool_byte}
use native.Mathlib.Omega.{arith}
use Rattle.lists.proofs.Bits.{or_none, xor_none}
use Rattle.lists.proofs.Tests.{no_gt}
use Rattle.spec.proofs.plain.off_fields.Goals as goal

no_byte : (b : Bool) → bool_byte b ≡ 0 → b ≡ false
no_byte true e = absurd (omega arith)
no_byte false e = refl

pub returns : goal.returns
returns c = λ z.
    let e = or_none _ _ z in
    (xor_none _ _ e.0, no_gt c.args.n (c.args.lead / 0x100) (no_byte (leb c.args.n (c.args.lead / 0x100)) (sym c.from.ensures ∙ e.1)))
