-- `spec::domains::domain_value` meets its contract: a listed value, or a multiple.
use Rattle.std.proofs.Common.{rules, ◌∙◌, ap, sym, w64, SFits, to_z-of_z, length, get_or, ◌/◌, ◌<◌, pos, nat_abs}
use native.Mathlib.Omega.{arith}
use lib.ListN.{length-map}
use Rattle.spec.specs.Code.{as_record, high_of, low_of}
use Rattle.spec.specs.Domain.{first_multiple, how_many, step_of}
use Rattle.spec.specs.Record.{Record, records_of}
use Rattle.spec.proofs.Domain.{length-multiples}
use Rattle.spec.proofs.Fields.{length_records}
use Rattle.spec.proofs.Places.{domain_listed, domain_rise, in_rise, p_place, range_in, rise_at}
use Rattle.spec.proofs.domains.domain_value.Goals.{After-rise_of, Then-h-ge2}
use Rattle.spec.proofs.domains.domain_value.Goals as goal

-- the place is that of a value
listed : (c : Then-h-ge2) → c.args.i.0 < length c.args.values.now / 32
listed c =
    let ms = records_of c.args.values.now in
    let e = ap length (domain_listed (as_record c.args.h) ms c.args.h.b c.if-h-ge2.true) in
    let l = c.requires.1 in
    omega (arith, length-map ms (λ (m : Record). m.p), length_records c.args.values.now)

pub p_at-requires : goal.p_at-requires
p_at-requires c = listed (goal.at.p_at-requires c).Then-h-ge2

pub returns-then-h-ge2 : goal.returns-then-h-ge2
returns-then-h-ge2 c =
    let f : SFits w64 c.p_at.result = search rules in
    to_z-of_z f ∙ c.p_at.ensures
    ∙ sym (ap (λ l. get_or l c.args.i.0 (pos 0)) (domain_listed (as_record c.args.h) (records_of c.args.values.now) c.args.h.b c.if-h-ge2.true)
    ∙ p_place c.args.values.now c.args.i.0 (listed (goal.at.returns-then-h-ge2 c).Then-h-ge2))

-- the place is that of a multiple
inside : (c : After-rise_of) → c.args.i.0 < how_many (step_of (nat_abs c.args.h.r)) (first_multiple (step_of (nat_abs c.args.h.r)) (low_of c.args.h.b c.args.h.p)) (high_of c.args.h.b c.args.h.q)
inside c =
    let h = as_record c.args.h in
    let e = ap length (domain_rise h (records_of c.args.values.now) h.b c.if-h-ge2.false) ∙ length-multiples (step_of (nat_abs h.r)) (low_of h.b h.p) (high_of h.b h.q) in
    let l = c.requires.1 in
    omega arith

pub rise_value-requires : goal.rise_value-requires
rise_value-requires c =
    let h = c.args.h in
    let s = c.requires.0 in
    let r = range_in h.b h.p h.q s.p_in s.q_in in
    in_rise c.rise_of.result h.r (low_of h.b h.p) (high_of h.b h.q) c.args.i.0 c.rise_of.ensures (inside (goal.at.rise_value-requires c).After-rise_of) s.r_in r.0 r.1

pub returns : goal.returns
returns c =
    let h = c.args.h in
    c.rise_value.ensures ∙ rise_at c.rise_of.result h.r (low_of h.b h.p) (high_of h.b h.q) c.args.i.0 c.rise_of.ensures (inside (goal.at.returns c).After-rise_of)
    ∙ sym (ap (λ l. get_or l c.args.i.0 (pos 0)) (domain_rise (as_record h) (records_of c.args.values.now) h.b c.if-h-ge2.false))
