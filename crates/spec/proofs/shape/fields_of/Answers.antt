-- `spec::shape::fields_of` meets its contract. The invariant: the records before i are gone through, and the product so far times that of the fields from i on is the whole, capped; the places from number count on are those of the records from i on.
use Rattle.std.proofs.Common.{rules, ◌≡◌, ◌∙◌, ap, ap₂, subst, sym, ◌+◌, ◌-◌, ◌*◌, ◌/◌, ◌<◌, ℕ, suc, length}
use mathlib.Core.Bool.{true≢false}
use native.Mathlib.Nat.{one-mul}
use native.Mathlib.Omega.{arith}
use lib.Dec.{eqb}
use lib.ListN.{drop, get_or}
use Rattle.lists.proofs.Tests.{eqb_yes, yes_eq}
use Rattle.spec.specs.Code.{capped, domain_length, section_number}
use Rattle.spec.specs.Kind.{field, is_field, is_member, section_of}
use Rattle.spec.specs.Record.{Record, heads_from, heads_of, record_at, records_of}
use Rattle.spec.proofs.Heads.{Done, done-count, done_stands, field_here, fields_begin, gone_head, gone_on, other_done, section_here}
use Rattle.spec.proofs.Runs.{run_length}
use Rattle.spec.proofs.Sections.{field_section}
use Rattle.spec.proofs.Shapes.{FieldScaled, capped_le, field_at_scaled, fields-counted, product_end, product_from, product_turn, product_whole}
use Rattle.spec.proofs.Noting.{heads_begin, next_place, places_on}
use Rattle.spec.proofs.shape.fields_of.Goals.{After-loop-count, In-loop-count}
use Rattle.spec.proofs.shape.fields_of.Goals as goal

pub loop-count-init : goal.loop-count-init
loop-count-init c = let file = c.args.file.now in (fields_begin file c.requires.1, omega arith, ap capped (one-mul (product_from file 0)), heads_begin file)

-- a turn's record is a field
field_is : (c : In-loop-count) → (c.loop-count.i < length c.args.file.now / 32) × ((record_at c.args.file.now c.loop-count.i).kind ≡ field)
field_is c =
    let file = c.args.file.now in
    let l = c.loop-count in
    let same : c.eq.result ≡ eqb (section_number c.section.result) 0 = search rules in
    let h = section_here file l.i 0 (omega arith) (sym c.section.ensures ∙ yes_eq _ _ (sym same ∙ c.loop-count-test.true)) in
    (h.0, field_here _ (gone_head 0 is_field field_section file l.i l.count l.invariant.0 h.0) h.1)

-- where the next head stands
next_is : (c : In-loop-count) → (c.loop-count.count + 1 < length c.args.heads.now) × (get_or c.args.heads.now (c.loop-count.count + 1) 0 ≡ c.loop-count.i + 1 + run_length c.args.file.now (suc c.loop-count.i))
next_is c = let f = field_is c in next_place c.args.file.now c.args.heads.now c.loop-count.i c.loop-count.count c.requires.2 f.0 (ap is_member f.1) c.loop-count.invariant.3

pub bounds-heads-count : goal.bounds-heads-count
bounds-heads-count c = omega (arith, (next_is (goal.at.bounds-heads-count c).In-loop-count).0, c.told-heads)

pub overflow_sub-next : goal.overflow_sub-next
overflow_sub-next c = omega (arith, (next_is (goal.at.overflow_sub-next c).In-loop-count).1)

pub overflow_sub-next-in-loop-count : goal.overflow_sub-next-in-loop-count
overflow_sub-next-in-loop-count c = omega (arith, (next_is (goal.at.overflow_sub-next-in-loop-count c).In-loop-count).1)

pub domain_len-requires : goal.domain_len-requires
domain_len-requires c =
    let e = c.record_at.ensures.read in
    let f = field_is (goal.at.domain_len-requires c).In-loop-count in
    subst FieldScaled (sym e) (field_at_scaled c.args.file.now c.loop-count.i f.0 c.requires.1) (ap (λ (m : Record). is_field m.kind) e ∙ ap is_field f.1)

pub loop-count-smaller : goal.loop-count-smaller
loop-count-smaller c = let m = (goal.at.loop-count-smaller c).In-loop-count in omega (arith, (next_is m).1, (field_is m).0)

pub loop-count-preserved : goal.loop-count-preserved
loop-count-preserved c =
    let l = c.loop-count in
    let file = c.args.file.now in
    let m = (goal.at.loop-count-preserved c).In-loop-count in
    let f = field_is m in
    let at = (next_is m).1 in
    let next = get_or c.args.heads.now (l.count + 1) 0 in
    let values : next - l.i - 1 ≡ run_length file (suc l.i) = omega (arith, at) in
    let grown = c.times-product.ensures ∙ ap (λ (n : ℕ). capped (l.product * n)) (c.domain_len.ensures ∙ ap₂ domain_length c.record_at.ensures.read values) in (
      gone_on 0 is_field field_section file l.i l.count l.invariant.0 f.0 (ap section_of f.1) next at,
      omega (arith, grown, capped_le (l.product * domain_length (record_at file l.i) (run_length file (suc l.i)))),
      ap (λ (n : ℕ). capped (n * product_from file next)) grown ∙ product_turn file l.product l.i next f.0 f.1 at ∙ l.invariant.2,
      subst (λ (k : ℕ). drop (l.count + 1) (heads_of file) ≡ heads_from k (drop k (records_of file))) (sym at) (places_on file c.args.heads.now l.i l.count c.requires.2 f.0 (ap is_member f.1) l.invariant.3),
    )

-- no field is left
done : (c : After-loop-count) → Done 0 is_field field_section c.args.file.now c.loop-count.i
done c =
    let same : c.eq.result ≡ eqb (section_number c.section.result) 0 = search rules in
    other_done 0 is_field field_section c.args.file.now c.loop-count.i c.loop-count.count c.loop-count.invariant.0
    (λ q. true≢false (sym (eqb_yes _ _ (c.section.ensures ∙ q)) ∙ sym same ∙ c.loop-count-test.false))

pub returns-clause-count : goal.returns-clause-count
returns-clause-count c =
    done-count 0 is_field field_section c.args.file.now c.loop-count.i c.loop-count.count c.loop-count.invariant.0 (done (goal.at.returns-clause-count c).After-loop-count) ∙ fields-counted c.args.file.now

pub returns-clause-end : goal.returns-clause-end
returns-clause-end c = done_stands 0 is_field field_section c.args.file.now c.loop-count.i c.loop-count.count c.loop-count.invariant.0 (done (goal.at.returns-clause-end c).After-loop-count)

pub returns-clause-product : goal.returns-clause-product
returns-clause-product c =
    let file = c.args.file.now in
    let l = c.loop-count in
    let d = done (goal.at.returns-clause-product c).After-loop-count in
    sym (product_end file l.product l.i l.invariant.1 d.none_left) ∙ l.invariant.2 ∙ ap capped (product_whole file)
