-- `compose::force::force` meets its contract. The invariant: what was written so far, and what is left to force by, give what all of them give.
use mathlib.Core.Bool.{◌||◌}
use mathlib.Core.List.{foldl}
use mathlib.Core.Path.{◌∙◌, ◌≡◌, ap, sym}
use Prim.Native.Nat.{◌+◌}
use native.Mathlib.Numerals.{add-one}
use native.Mathlib.Omega.{arith}
use lib.ListN.{drop, get_or}
use Rattle.lists.proofs.Tests.{or_false, or_true}
use Rattle.compose.specs.Code.{chosen_in, is_forced}
use Rattle.compose.specs.Force.{force_by}
use Rattle.compose.proofs.Forcing.{chosen_end, forced_turn}
use Rattle.compose.proofs.force.force.Goals.{else-force_by, then-force_by}
use Rattle.compose.proofs.force.force.Goals as goal

pub loop-number-preserved : goal.loop-number-preserved
loop-number-preserved c =
    let l = c.loop-number in
    let f = c.force_by in
    let e = add-one (get_or c.args.chosen.now l.number-index 0) in
    let t = forced_turn c.args.file.now c.args.heads.now c.args.chosen.now l.number-index l.row f.new.row l.wrote f.result (omega arith) (rw (c.from-k.ensures, e) at f.ensures.wrote) (rw (c.from-k.ensures, e) at f.ensures.row) in
    let wrote : c.if-force_by.wrote ≡ (l.wrote || f.result) =
    elim c.if-force_by.branch [
      | then-force_by w ↦ w.wrote-is ∙ sym (or_true l.wrote) ∙ ap (λ b. l.wrote || b) (sym w.if-force_by.true)
      | else-force_by w ↦ w.wrote-is ∙ sym (or_false l.wrote) ∙ ap (λ b. l.wrote || b) (sym w.if-force_by.false)
    ]
    in
    (ap (λ b. b || is_forced (chosen_in c.args.file.now c.args.heads.now (drop (l.number-index + 1) c.args.chosen.now)) f.new.row) wrote ∙ t.0 ∙ l.invariant.0, t.1 ∙ l.invariant.1)

pub returns : goal.returns
returns c =
    let l = c.loop-number in
    let e = chosen_end c.args.file.now c.args.heads.now c.args.chosen.now l.number-index (omega arith) in
    record { wrote = sym (or_false l.wrote) ∙ ap (λ cs. l.wrote || is_forced cs l.row) (sym e) ∙ l.invariant.0; row = ap (foldl force_by l.row) (sym e) ∙ l.invariant.1 }
