-- `compose::force::force_by` meets its contract, exit by exit.
use mathlib.Core.Bool.{Bool, false, true}
use mathlib.Core.List.{foldl, map}
use mathlib.Core.Path.{◌∙◌, ◌≡◌, ap, subst, sym}
use Prim.Native.Nat.{◌-◌, ◌<◌, suc, ℕ}
use native.Mathlib.Numerals.{add-one}
use lib.Dec.{eqb}
use lib.ListN.{drop, length, take}
use mir.Syntax.{w64}
use mir.Val.{of_z}
use borrow.Author.Rules.{rules, sfits_of}
use Rattle.lists.specs.Integers.{eq_z}
use Rattle.lists.proofs.All.{All}
use Rattle.lists.proofs.Tests.{eqb_no, eqb_yes}
use Rattle.lists.proofs.Words.{eq_bits}
use Rattle.spec.specs.Record.{assignment_of, record_at, records_of}
use Rattle.registry.specs.Check.{value_at}
use Rattle.compose.specs.Force.{write}
use Rattle.compose.proofs.Forcing.{enable_no, enable_yes}
use Rattle.compose.proofs.force.force_by.Goals.{After-p_at, After-part}
use Rattle.compose.proofs.force.force_by.Goals as goal

-- the test of the trigger, of the numbers
test : (c : After-p_at) (t : Bool) → eqb (of_z w64 (value_at c.args.row.now c.a_at-a.result)) (of_z w64 c.p_at.result) ≡ t
    → eq_z (value_at c.args.row.now (record_at c.args.file.now c.args.head).a) (record_at c.args.file.now c.args.head).p ≡ t
test c t e = rw (← c.a_at-a.ensures.0, ← c.p_at.ensures) (sym (eq_bits (value_at c.args.row.now c.a_at-a.result) c.p_at.result (search rules) (sfits_of c.p_at.type_inv)) ∙ e)

-- the members
here : (c : After-part) → records_of c.part.result.now ≡ take (c.args.end - suc c.args.head) (drop (suc c.args.head) (records_of c.args.file.now))
here c = c.part.ensures.records ∙ ap (λ (i : ℕ). take (c.args.end - i) (drop i (records_of c.args.file.now))) (add-one c.args.head)

pub returns-then-row-a : goal.returns-then-row-a
returns-then-row-a c = let whole = enable_no c.args.file.now c.args.head c.args.end c.requires.is-enable c.args.row.now (test (goal.at.returns-then-row-a c).After-p_at false (eqb_no _ _ c.if-row-a.true)) in record { wrote = whole.0; row = whole.1 }

pub write_members-requires : goal.write_members-requires
write_members-requires c = subst (All (λ m. m.a < length c.args.row.now)) (sym (here (goal.at.write_members-requires c).After-part)) c.requires.writes_below

pub returns : goal.returns
returns c =
    let p = (goal.at.returns c).After-part in
    let y = enable_yes c.args.file.now c.args.head c.args.end c.requires.is-enable c.args.row.now (test (goal.at.returns c).After-p_at true (eqb_yes _ _ p.if-row-a.false)) in
    record { wrote = y.0; row = c.write_members.ensures ∙ ap (λ ms. foldl write c.args.row.now (map assignment_of ms)) (here p) ∙ y.1 }
