-- `spec::plain::off_zero` meets its contract.
use Rattle.std.proofs.Common.{◌≡◌, ◌∙◌, ap, sym, rules, w64, of_z, to_z, SFits, to_z-of_z}
use Rattle.spec.proofs.plain.off_zero.Goals as goal

pub returns : goal.returns
returns c = λ z.
    let f : SFits w64 c.args.x = search rules in
    let e : of_z w64 c.args.x ≡ 0 = rw (to_z-of_z f) at (sym c.cast_unsigned.ensures ∙ z) in
    sym (to_z-of_z f) ∙ ap (to_z w64) e
