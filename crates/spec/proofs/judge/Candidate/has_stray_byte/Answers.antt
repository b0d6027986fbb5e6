use Rattle.std.proofs.Common.{rules, ◌≡◌, w64, SFits}
use lib.IntN.{pos}
use Rattle.lists.proofs.Words.{eq_bits, zero_fits}
use Rattle.spec.specs.Code.{as_kind, as_record, as_use}
use Rattle.spec.specs.Kind.{is_unused}
use Rattle.spec.proofs.Uses.{stray_row}
use Rattle.spec.proofs.judge.Candidate.has_stray_byte.Goals as goal

pub returns : goal.returns
returns c =
    let h = c.args.self.given in
    let w = c.args.self.row in
    let e₁ : c.eq.result ≡ is_unused (as_use w.a) = search rules in
    let e₂ : c.eq-2.result ≡ is_unused (as_use w.b) = search rules in
    let e₃ : c.eq-3.result ≡ is_unused (as_use w.p) = search rules in
    let e₄ : c.eq-4.result ≡ is_unused (as_use w.q) = search rules in
    let e₅ : c.eq-5.result ≡ is_unused (as_use w.r) = search rules in
    let p : SFits w64 h.p = search rules in
    let q : SFits w64 h.q = search rules in
    let r : SFits w64 h.r = search rules in
    record {
      by_row = rw (e₁, e₂, e₃, e₄, e₅, eq_bits h.p (pos 0) p zero_fits, eq_bits h.q (pos 0) q zero_fits, eq_bits h.r (pos 0) r zero_fits);
      stray = rw (e₁, e₂, e₃, e₄, e₅, eq_bits h.p (pos 0) p zero_fits, eq_bits h.q (pos 0) q zero_fits, eq_bits h.r (pos 0) r zero_fits) (stray_row w (as_kind h.kind) (as_record h) c.args.self.looked_up);
    }
