use Rattle.std.proofs.Common.{rules, ◌≡◌, to_z-of_z, w64, SFits, sym}
use Rattle.spec.specs.Code.{as_use}
use Rattle.spec.specs.Kind.{is_natural}
use Rattle.spec.proofs.Uses.{negative_lt}
use Rattle.spec.proofs.judge.Candidate.is_off_scale.Goals as goal

pub returns : goal.returns
returns c =
    let h = c.args.self.given in
    let w = c.args.self.row in
    let e₁ : c.eq.result ≡ is_natural (as_use w.p) = search rules in
    let e₂ : c.eq-2.result ≡ is_natural (as_use w.r) = search rules in
    let p : SFits w64 h.p = search rules in
    let q : SFits w64 h.q = search rules in
    let r : SFits w64 h.r = search rules in
    let s₁ = simp to_z-of_z at c.on_scale.ensures in
    let s₂ = simp to_z-of_z at c.on_scale-2.ensures in
    let s₃ = simp to_z-of_z at c.on_scale-3.ensures in
    rw (sym c.args.self.looked_up, e₁, e₂, s₁, s₂, s₃, to_z-of_z {w = w64} p, to_z-of_z {w = w64} r, negative_lt h.p, negative_lt h.r)
