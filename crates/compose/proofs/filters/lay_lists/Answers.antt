-- `compose::filters::lay_lists` meets its contract. The invariant: the lists of the first k - 1 fields are laid, and there is room for the rest.
use mathlib.Core.Path.{◌∙◌}
use Prim.Native.Nat.{◌-◌}
use native.Mathlib.Omega.{arith}
use borrow.Author.Rules.{rules}
use borrow.Rule.Slice.PartMut.{same_len_mid}
use lib.ListN.{drop, length, length-set}
use Rattle.compose.specs.Code.{FieldIn, constraints_in}
use Rattle.compose.proofs.Laid.{laid_places, laid_room, laid_scratch, laid_turn, laid_used}
use Rattle.compose.proofs.Positions.{head_turn_lem}
use Rattle.compose.proofs.filters.lay_lists.Goals as goal

pub lay_list-len-requires : goal.lay_list-len-requires
lay_list-len-requires c =
    let l = c.loop-k in
    (head_turn_lem (FieldIn c.args.rules.file.now) c.args.fields.now l.k c.requires.1 l.invariant.0.first (omega arith), laid_room c.args.rules.file.now c.args.fields.now (constraints_in c.args.rules.file.now c.args.rules.heads.now) (length c.args.scratch.now) l.scratch l.lists l.at l.k l.invariant.0 (omega arith))

pub loop-k-preserved : goal.loop-k-preserved
loop-k-preserved c =
    let l = c.loop-k in
    let e = c.requires.0 in
    let n = length l.scratch - l.at in
    let y = c.lay_list-len in
    let part = y.new.list in
    let turn = laid_turn c.args.rules.file.now c.args.fields.now (constraints_in c.args.rules.file.now c.args.rules.heads.now) (length c.args.scratch.now) l.scratch l.lists l.at l.k l.invariant.0 c.loop-k-test.true (head_turn_lem (FieldIn c.args.rules.file.now) c.args.fields.now l.k c.requires.1 l.invariant.0.first c.loop-k-test.true) (omega arith)
    y.result part (drop n (drop l.at l.scratch)) y.ensures.count y.ensures.front (same_len_mid l.at n l.scratch part y.auto.list ∙ l.invariant.0.long)
    in
    (turn, length-set l.lists (l.k - 1) _ ∙ l.invariant.1)

pub returns : goal.returns
returns c =
    let l = c.loop-k in
    record {
      used = laid_used c.args.rules.file.now c.args.fields.now (constraints_in c.args.rules.file.now c.args.rules.heads.now) (length c.args.scratch.now) l.scratch l.lists l.at l.k l.invariant.0 (omega arith);
      scratch = laid_scratch c.args.rules.file.now c.args.fields.now (constraints_in c.args.rules.file.now c.args.rules.heads.now) (length c.args.scratch.now) l.scratch l.lists l.at l.k l.invariant.0 (omega arith) c.fill.new.self (c.fill.ensures.after (search rules));
      lists = laid_places c.args.rules.file.now c.args.fields.now (constraints_in c.args.rules.file.now c.args.rules.heads.now) (length c.args.scratch.now) l.scratch l.lists l.at l.k l.invariant.0 (omega arith);
    }
