-- `spec::plain::off_list` meets its contract: where no bit is set, each number is as the list has it.
use Rattle.std.proofs.Common.{◌≡◌, ◌∙◌, ap, sym, subst, ◌%◌, ◌/◌, ◌<◌, ◌≤◌, ℕ, ℤ, pos, rules, true, w64, of_z, to_z, SFits, to_z-of_z}
use mathlib.Core.Logic.{inl, inr}
use native.Mathlib.Omega.{arith}
use Rattle.lists.proofs.Bits.{or_none, xor_none}
use Rattle.spec.specs.Code.{InList}
use Rattle.spec.specs.Record.{record_at}
use Rattle.spec.specs.Refusal.{on_scale}
use Rattle.spec.proofs.Passing.{leads, leads_named}
use Rattle.spec.proofs.plain.off_list.Goals as goal

-- a number read from the file, x, is the record's, y
zero_at : (x y : ℤ) → x ≡ y → SFits w64 x → to_z w64 (of_z w64 x) ≡ pos 0 → y ≡ pos 0
zero_at x y e f z = sym e ∙ sym (to_z-of_z f) ∙ z

pub returns-in-Values : goal.returns-in-Values
returns-in-Values c = λ z.
    let m = record_at c.args.file.now c.args.i in
    let due : c.in-Values.field < 256 = search rules in
    let e = or_none _ _ z in
    let l = leads 2 c.in-Values.field m c.lead_at-lead.ensures.bytes (omega arith) due (sym c.lead_at-lead.ensures.sum ∙ xor_none _ _ e.0) in
    subst (λ list. InList list m) (sym c.in-Values.is) (l, zero_at c.q_at-q.result m.q c.q_at-q.ensures (search rules) (c.off_zero.ensures e.1))

pub returns-in-Items : goal.returns-in-Items
returns-in-Items c = λ z.
    let m = record_at c.args.file.now c.args.i in
    let e = or_none _ _ z in
    let l = leads 3 0 m c.lead_at-lead.ensures.bytes (omega arith) (omega arith) (sym c.lead_at-lead.ensures.sum ∙ xor_none _ _ e.0) in
    subst (λ list. InList list m) (sym c.in-Items.is) (l, zero_at c.q_at-q.result m.q c.q_at-q.ensures (search rules) (c.off_zero-in-Items.ensures e.1))

pub returns-then-lead-eq-PAIR : goal.returns-then-lead-eq-PAIR
returns-then-lead-eq-PAIR c = λ z.
    let m = record_at c.args.file.now c.args.i in
    let f : SFits w64 c.q_at-q.result = search rules in
    let q : on_scale m.q ≡ true = ap on_scale (sym c.q_at-q.ensures ∙ sym (to_z-of_z f)) ∙ c.off_scale.ensures z in
    let l = leads 4 0 m c.lead_at-lead.ensures.bytes (omega arith) (omega arith) (sym c.lead_at-lead.ensures.sum ∙ c.if-lead-eq-PAIR.true) in
    subst (λ list. InList list m) (sym c.in-Entries.is) (inl (l, q))

pub returns-else-lead-eq-PAIR : goal.returns-else-lead-eq-PAIR
returns-else-lead-eq-PAIR c = λ z.
    let m = record_at c.args.file.now c.args.i in
    let e = or_none _ _ z in
    let l = leads 5 0 m c.lead_at-lead.ensures.bytes (omega arith) (omega arith) (sym c.lead_at-lead.ensures.sum ∙ xor_none _ _ e.0) in
    subst (λ list. InList list m) (sym c.in-Entries.is) (inr (l, zero_at c.q_at-q.result m.q c.q_at-q.ensures (search rules) (c.off_zero-else-lead-eq-PAIR.ensures e.1)))

pub returns-in-Disables : goal.returns-in-Disables
returns-in-Disables c = λ z.
    let m = record_at c.args.file.now c.args.i in
    let few : c.in-Disables.n ≤ 256 = search rules in
    let e = or_none _ _ z in
    let d = or_none _ _ e.0 in
    let w = subst (λ (x : ℕ). (x % 0x100 ≡ 6) × (x / 0x100 < c.in-Disables.n)) c.lead_at-lead.ensures.sum (c.off_fields.ensures d.0) in
    let l = leads_named 6 c.in-Disables.n m c.lead_at-lead.ensures.bytes few w.0 w.1 in
    let p = zero_at c.p_at-p.result m.p c.p_at-p.ensures (search rules) (c.off_zero-in-Disables.ensures d.1) in
    let q = zero_at c.q_at-q.result m.q c.q_at-q.ensures (search rules) (c.off_zero-in-Disables-2.ensures e.1) in
    subst (λ list. InList list m) (sym c.in-Disables.is) (l.0, l.1, p, q)

pub returns-in-Assigns : goal.returns-in-Assigns
returns-in-Assigns c = λ z.
    let m = record_at c.args.file.now c.args.i in
    let few : c.in-Assigns.n ≤ 256 = search rules in
    let e = or_none _ _ z in
    let w = subst (λ (x : ℕ). (x % 0x100 ≡ 7) × (x / 0x100 < c.in-Assigns.n)) c.lead_at-lead.ensures.sum (c.off_fields-in-Assigns.ensures e.0) in
    let l = leads_named 7 c.in-Assigns.n m c.lead_at-lead.ensures.bytes few w.0 w.1 in
    let q = zero_at c.q_at-q.result m.q c.q_at-q.ensures (search rules) (c.off_zero-in-Assigns.ensures e.1) in
    subst (λ list. InList list m) (sym c.in-Assigns.is) (l.0, l.1, q)
