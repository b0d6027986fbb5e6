-- `spec::shape::constraints_of` meets its contract. The invariant: the records before i are gone through; the places from there on are those of the records from i on.
use Rattle.std.proofs.Common.{rules, ◌≡◌, ◌∙◌, ap, subst, sym, ◌+◌, ◌/◌, ◌<◌, ℕ, suc, length}
use mathlib.Core.Bool.{false, true≢false}
use native.Mathlib.Omega.{arith}
use lib.Dec.{eqb}
use lib.ListN.{drop, get_or}
use Rattle.lists.proofs.Tests.{eqb_yes, yes_eq}
use Rattle.spec.specs.Code.{section_number}
use Rattle.spec.specs.Kind.{is_constraint, is_member, section_of}
use Rattle.spec.specs.Record.{heads_from, heads_of, record_at, records_of}
use Rattle.spec.proofs.Heads.{Done, constraints_begin, done-count, done_stands, gone_head, gone_on, other_done, section_here}
use Rattle.spec.proofs.Sections.{constraint-section}
use Rattle.spec.proofs.Runs.{run_length}
use Rattle.spec.proofs.Shapes.{constraints-counted}
use Rattle.spec.proofs.Noting.{next_place, places_on}
use Rattle.spec.proofs.shape.constraints_of.Goals.{After-loop-i, In-loop-i}
use Rattle.spec.proofs.shape.constraints_of.Goals as goal

pub loop-i-init : goal.loop-i-init
loop-i-init c =
    let f = c.args.fields in
    let begin = c.requires.4 in
    (constraints_begin c.args.file.now c.requires.1 f.end c.requires.3, subst (λ (k : ℕ). drop k (heads_of c.args.file.now) ≡ heads_from f.end (drop f.end (records_of c.args.file.now))) (omega arith) begin)

-- a turn's record is the head of a constraint
head_is : (c : In-loop-i) → (c.loop-i.i < length c.args.file.now / 32) × (section_of (record_at c.args.file.now c.loop-i.i).kind ≡ 1)
head_is c =
    let same : c.eq.result ≡ eqb (section_number c.section.result) 1 = search rules in
    section_here c.args.file.now c.loop-i.i 1 (omega arith) (sym c.section.ensures ∙ yes_eq _ _ (sym same ∙ c.loop-i-test.true))

member_no : (c : In-loop-i) → is_member (record_at c.args.file.now c.loop-i.i).kind ≡ false
member_no c = gone_head 1 is_constraint constraint-section c.args.file.now c.loop-i.i c.loop-i.count c.loop-i.invariant.0 (head_is c).0

-- where the next head stands
next_is : (c : In-loop-i) → (c.args.fields.count + (c.loop-i.count + 1) < length c.args.heads.now) × (get_or c.args.heads.now (c.args.fields.count + (c.loop-i.count + 1)) 0 ≡ c.loop-i.i + 1 + run_length c.args.file.now (suc c.loop-i.i))
next_is c =
    let l = c.loop-i in
    let k = c.args.fields.count + l.count in
    let e : k + 1 ≡ c.args.fields.count + (l.count + 1) = omega arith in
    let p = next_place c.args.file.now c.args.heads.now l.i k c.requires.2 (head_is c).0 (member_no c) l.invariant.1 in
    (omega (arith, p.0), ap (λ (n : ℕ). get_or c.args.heads.now n 0) (sym e) ∙ p.1)

pub overflow_add-i : goal.overflow_add-i
overflow_add-i c = omega (arith, (next_is (goal.at.overflow_add-i c).In-loop-i).0, c.told-heads)

pub offset_bounds-heads-fields : goal.offset_bounds-heads-fields
offset_bounds-heads-fields c = omega (arith, (next_is (goal.at.offset_bounds-heads-fields c).In-loop-i).0, c.told-heads)

pub bounds-heads-fields : goal.bounds-heads-fields
bounds-heads-fields c = omega (arith, (next_is (goal.at.bounds-heads-fields c).In-loop-i).0, c.told-heads)

pub loop-i-smaller : goal.loop-i-smaller
loop-i-smaller c = let m = (goal.at.loop-i-smaller c).In-loop-i in omega (arith, (next_is m).1, (head_is m).0)

pub loop-i-preserved : goal.loop-i-preserved
loop-i-preserved c =
    let l = c.loop-i in
    let file = c.args.file.now in
    let m = (goal.at.loop-i-preserved c).In-loop-i in
    let at = (next_is m).1 in
    let next = get_or c.args.heads.now (c.args.fields.count + (l.count + 1)) 0 in
    let k = c.args.fields.count + l.count in
    let e : k + 1 ≡ c.args.fields.count + (l.count + 1) = omega arith in
    let on = places_on file c.args.heads.now l.i k c.requires.2 (head_is m).0 (member_no m) l.invariant.1 in (
      gone_on 1 is_constraint constraint-section file l.i l.count l.invariant.0 (head_is m).0 (head_is m).1 next at,
      subst (λ (n : ℕ). drop n (heads_of file) ≡ heads_from next (drop next (records_of file))) e (subst (λ (n : ℕ). drop (k + 1) (heads_of file) ≡ heads_from n (drop n (records_of file))) (sym at) on),
    )

-- no constraint is left
done : (c : After-loop-i) → Done 1 is_constraint constraint-section c.args.file.now c.loop-i.i
done c =
    let same : c.eq.result ≡ eqb (section_number c.section.result) 1 = search rules in
    other_done 1 is_constraint constraint-section c.args.file.now c.loop-i.i c.loop-i.count c.loop-i.invariant.0
    (λ q. true≢false (sym (eqb_yes _ _ (c.section.ensures ∙ q)) ∙ sym same ∙ c.loop-i-test.false))

pub returns-clause-count : goal.returns-clause-count
returns-clause-count c =
    done-count 1 is_constraint constraint-section c.args.file.now c.loop-i.i c.loop-i.count c.loop-i.invariant.0 (done (goal.at.returns-clause-count c).After-loop-i) ∙ constraints-counted c.args.file.now

pub returns-clause-end : goal.returns-clause-end
returns-clause-end c = done_stands 1 is_constraint constraint-section c.args.file.now c.loop-i.i c.loop-i.count c.loop-i.invariant.0 (done (goal.at.returns-clause-end c).After-loop-i)
