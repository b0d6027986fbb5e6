-- `spec::domains::has_p_of_four` meets its contract.
use Rattle.std.proofs.Common.{rules, ◌∙◌, ap₂, sym, w64, SFits}
use mathlib.Core.Bool.{◌||◌}
use Rattle.spec.proofs.Runs.{four_at, read_eq}
use Rattle.spec.proofs.domains.has_p_of_four.Goals as goal

pub returns : goal.returns
returns c =
    let v = c.args.v.0 in
    let f : SFits w64 v = search rules in
    let p₁ = read_eq v c.p_at.result _ f (search rules) c.p_at.ensures in
    let p₂ = read_eq v c.p_at-2.result _ f (search rules) c.p_at-2.ensures in
    let p₃ = read_eq v c.p_at-3.result _ f (search rules) c.p_at-3.ensures in
    let p₄ = read_eq v c.p_at-4.result _ f (search rules) c.p_at-4.ensures in
    ap₂ ◌||◌ (ap₂ ◌||◌ (ap₂ ◌||◌ p₁ p₂) p₃) p₄ ∙ sym (four_at v c.args.run.now c.args.i c.requires)
