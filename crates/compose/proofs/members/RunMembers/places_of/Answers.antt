-- `Run::places_of` meets its contract.
use Rattle.std.proofs.Common.{◌∙◌, ◌/◌, ap, sym, arith, length, map}
use Rattle.lists.specs.Lists.{any}
use Rattle.spec.specs.Record.{record_at, records_of}
use Rattle.registry.proofs.Cross.{any_key, any_pair}
use Rattle.registry.proofs.Ordered.{records_upto}
use Rattle.compose.specs.Code.{pairs_at}
use Rattle.compose.proofs.Paired.{between_all}
use Rattle.compose.proofs.members.RunMembers.places_of.Goals as goal

pub returns-then-has_p : goal.returns-then-has_p
returns-then-has_p c =
    let run = c.args.self.0.now in
    let v = c.args.v.0 in (
      any_key v (records_of run) ∙ sym c.has_p.ensures ∙ c.if-has_p.true,
      omega arith,
      omega arith,
      λ w. any_pair v w (records_of run) ∙ ap (any (pairs_at v w)) (sym (ap (map (record_at run)) (between_all (length run / 32)) ∙ records_upto run)),
      tt,
    )

pub returns-else-has_p : goal.returns-else-has_p
returns-else-has_p c = any_key c.args.v.0 (records_of c.args.self.0.now) ∙ sym c.has_p.ensures ∙ c.if-has_p.false
