-- `spec::plain::flaws` meets its contract.
use Rattle.std.proofs.Common.{◌∙◌, ap, sym, rules, w64, SFits, to_z-of_z}
use Rattle.lists.proofs.Bits.{or_none}
use Rattle.spec.specs.Record.{record_at}
use Rattle.spec.specs.Refusal.{on_scale}
use Rattle.spec.proofs.plain.flaws.Goals as goal

pub returns : goal.returns
returns c = λ z.
    let m = record_at c.args.file.now c.args.i in
    let f : SFits w64 c.p_at.result = search rules in
    let g : SFits w64 c.r_at.result = search rules in
    let e = or_none _ _ z in
    let d = or_none _ _ e.0 in
    record {
      in_list = c.off_list.ensures d.0;
      p_in = ap on_scale (sym c.p_at.ensures ∙ sym (to_z-of_z f)) ∙ c.off_scale.ensures e.1;
      r_is = sym c.r_at.ensures ∙ sym (to_z-of_z g) ∙ c.off_zero.ensures d.1;
    }
