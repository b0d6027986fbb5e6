-- `compose::force::enables_of` meets its contract, engine by engine.
use mathlib.Core.List.{◌++◌}
use mathlib.Core.Path.{◌∙◌, ◌≡◌, ap, subst, sym}
use Prim.Native.Nat.{◌+◌, ◌≤◌, ℕ}
use native.Mathlib.Omega.{arith}
use lib.ListN.{drop}
use Rattle.std.proofs.Common.{rules}
use Rattle.std.proofs.iter.Serving.{serving}
use Rattle.lists.specs.Lists.{concat_map, count_if, filter}
use Rattle.spec.specs.Record.{constraint_of}
use Rattle.compose.specs.Code.{Taken, groups_in, has_kind, is_enabling, is_mask, is_set}
use Rattle.compose.proofs.Chosen.{both_few, chosen_both, enables_exhaustive, enables_structural, kind_passes, kinds-few, passed_many, taken}
use Rattle.compose.proofs.Narrowing.{rest_more}
use Rattle.compose.proofs.force.enables_of.Goals.{After-choose-masks}
use Rattle.compose.proofs.force.enables_of.Goals as goal

pub choose-requires : goal.choose-requires
choose-requires c =
    let n = kinds-few is_enabling c.args.rules.file.now c.args.rules.heads.now c.requires.0 in
    let m = passed_many c.args.rules.file.now c.args.rules.heads.now is_enabling in
    let w = c.requires.1 in
    (omega (arith, c.count-many.ensures), grind serving, (kind_passes c.args.rules.file.now c.args.rules.heads.now is_enabling, λ k b h p. search rules, rw c.count-many.ensures (omega (arith, n, m, w))))

pub returns-in-Structural : goal.returns-in-Structural
returns-in-Structural c =
    let file = c.args.rules.file.now in
    let heads = c.args.rules.heads.now in
    let old = c.args.numbers.now in
    let ns = rw c.count-many.ensures at (c.choose.ensures.numbers (kind_passes file heads is_enabling) (λ k b h p. search rules)) in
    let ct = rw c.count-many.ensures at (c.choose.ensures.count (kind_passes file heads is_enabling) (λ k b h p. search rules)) in
    let e = taken file heads is_enabling old c.choose.new.numbers 0 c.choose.result (omega arith) ns ct in
    let n = kinds-few is_enabling file heads c.requires.0 in
    let m = e.counted in
    record { chosen = rw c.in-Structural.is (e.chosen ∙ enables_structural file heads); kinds = (omega arith, e.kinds); rest = e.rest }

pub choose-masks-requires : goal.choose-masks-requires
choose-masks-requires c =
    let n = kinds-few is_mask c.args.rules.file.now c.args.rules.heads.now c.requires.0 in
    let m = passed_many c.args.rules.file.now c.args.rules.heads.now is_mask in
    let w = c.requires.1 in
    (omega (arith, c.count-many.ensures), grind serving, (kind_passes c.args.rules.file.now c.args.rules.heads.now is_mask, λ k b h p. search rules, rw c.count-many.ensures (omega (arith, n, m, w))))

-- the masks stand in front, and the sets fit behind them
masks_taken : (c : After-choose-masks) → Taken c.args.rules.file.now c.args.rules.heads.now is_mask 0 c.args.numbers.now c.choose-masks.result c.choose-masks.new.numbers
masks_taken c =
    let file = c.args.rules.file.now in
    let heads = c.args.rules.heads.now in
    taken file heads is_mask c.args.numbers.now c.choose-masks.new.numbers 0 c.choose-masks.result (omega arith)
    (rw c.count-many.ensures at (c.choose-masks.ensures.numbers (kind_passes file heads is_mask) (λ k b h p. search rules)))
    (rw c.count-many.ensures at (c.choose-masks.ensures.count (kind_passes file heads is_mask) (λ k b h p. search rules)))

room : (c : After-choose-masks) → c.choose-masks.result + count_if (has_kind is_set) (groups_in c.args.rules.file.now c.args.rules.heads.now) ≤ 256
room c =
    let n = both_few c.args.rules.file.now c.args.rules.heads.now c.requires.0 in
    let m = (masks_taken c).counted in
    omega arith

pub choose-requires-in-Exhaustive : goal.choose-requires-in-Exhaustive
choose-requires-in-Exhaustive c =
    let n = room (goal.at.choose-requires-in-Exhaustive c).After-choose-masks in
    let m = passed_many c.args.rules.file.now c.args.rules.heads.now is_set in
    let w = c.requires.1 in
    let k = c.choose-masks.auto.numbers in
    (omega (arith, c.count-many.ensures), grind serving, (kind_passes c.args.rules.file.now c.args.rules.heads.now is_set, λ k b h p. search rules, rw c.count-many.ensures (omega (arith, n, m, w, k))))

pub returns-in-Exhaustive : goal.returns-in-Exhaustive
returns-in-Exhaustive c =
    let file = c.args.rules.file.now in
    let heads = c.args.rules.heads.now in
    let first = c.choose-masks in
    let then = c.choose-in-Exhaustive in
    let numbers = first.new.numbers in
    let here = (goal.at.returns-in-Exhaustive c).After-choose-masks in
    let n = room here in
    let masks = masks_taken here in
    let ns = rw c.count-many.ensures at (then.ensures.numbers (kind_passes file heads is_set) (λ k b h p. search rules)) in
    let ct = rw c.count-many.ensures at (then.ensures.count (kind_passes file heads is_set) (λ k b h p. search rules)) in
    let e = taken file heads is_set numbers then.new.numbers first.result then.result (omega (arith, n, c.requires.1, first.auto.numbers)) ns ct in
    let m = e.counted in
    let sets = filter (has_kind is_set) (groups_in file heads) in record { chosen = rw c.in-Exhaustive.is (e.chosen ∙ ap (λ l. l ++ concat_map constraint_of sets) masks.chosen ∙ enables_exhaustive file heads); kinds = (omega arith, chosen_both file heads numbers then.new.numbers first.result then.result masks.kinds e.kept e.kinds); rest = e.rest ∙ subst (λ (k : ℕ). drop k numbers ≡ drop k c.args.numbers.now) (sym m) (rest_more c.args.numbers.now numbers first.result masks.rest _) }
