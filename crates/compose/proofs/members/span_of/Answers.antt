-- `compose::members::span_of` meets its contract.
use Rattle.std.proofs.Common.{◌∙◌, ◌≡◌, ◌+ℤ◌, ap, subst, negsuc, pos, rules, ℤ, w64, to_z, of_z}
use mir.ValLaws.{to_z-of_z}
use mir.Val.{SFits}
use Rattle.registry.specs.Index.{Bracket}
use Rattle.compose.proofs.Spanned.{last-one, to_end, to-next}
use Rattle.compose.proofs.members.span_of.Goals as goal

pub returns-in-Some : goal.returns-in-Some
returns-in-Some c =
    let m = c.args.members in
    let v = c.args.v.0 in
    let high = c.lower-high.result in
    let e : to_z w64 (of_z w64 c.in-Some.next) ≡ v +ℤ pos 1 =
    ap (λ (x : ℤ). to_z w64 (of_z w64 x)) c.in-Some.ensures.1 ∙ to_z-of_z w64 (to_z w64 (of_z w64 v) +ℤ pos 1) c.in-Some.ensures.0 ∙ ap (λ (x : ℤ). x +ℤ pos 1) (to_z-of_z w64 v (search rules)) in
    to-next m.run.now m.places.now v c.lower-low.result c.lower-low.ensures high (subst (λ (x : ℤ). Bracket m.run.now m.places.now x (negsuc 0x7fff_ffff_ffff_ffff) high high) e c.lower-high.ensures)

pub returns-in-None : goal.returns-in-None
returns-in-None c =
    let m = c.args.members in
    let v = c.args.v.0 in
    let e : to_z w64 (of_z w64 v) ≡ v = to_z-of_z w64 v (search rules) in
    let n : SFits w64 (v +ℤ pos 1) → ⊥ = λ h. c.in-None.ensures (rw e h) in
    to_end m.run.now m.places.now v c.lower-low.result c.lower-low.ensures (last-one v (search rules) n)
