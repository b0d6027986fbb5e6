-- By the three tests.
use mathlib.Core.Bool.{true}
use mathlib.Core.Logic.{inl, inr}
use mathlib.Core.Path.{◌≡◌, refl}
use Prim.Native.Nat.{◌*◌, ◌≤◌}
use native.Mathlib.Omega.{arith}
use borrow.Author.Rules.{rules}
use lib.ListN.{length}
use Rattle.listing.specs.Words.{can_list}
use Rattle.listing.proofs.Lines.{lines_fit, lines_over, listed, not_listed}
use Rattle.listing.proofs.text.put_verdicts.Goals.{Else-out-count, Else-words-width}
use Rattle.listing.proofs.text.put_verdicts.Goals as goal

pub returns-then-width-lt4 : goal.returns-then-width-lt4
returns-then-width-lt4 c =
    let args = c.args in
    rw (not_listed args.out.now args.words.now args.count args.width (inl (omega (arith, c.if-width-lt4.true)))) (record { out_after = refl; value = refl; upper_bound = omega arith })

pub returns-then-words-width : goal.returns-then-words-width
returns-then-words-width c =
    let args = c.args in
    let few = lines_over args.count args.width (length args.words.now) (omega arith) c.if-words-width.true in
    rw (not_listed args.out.now args.words.now args.count args.width (inr (inl few))) (record { out_after = refl; value = refl; upper_bound = omega arith })

-- there are as many words
many : (c : Else-words-width) → c.args.count * c.args.width ≤ length c.args.words.now
many c = let args = c.args in lines_fit args.count args.width (length args.words.now) (omega arith) c.if-words-width.false

pub overflow_mul-count : goal.overflow_mul-count
overflow_mul-count c = let h = many (goal.at.overflow_mul-count c).Else-words-width in search rules

pub returns-then-out-count : goal.returns-then-out-count
returns-then-out-count c =
    let args = c.args in
    rw (not_listed args.out.now args.words.now args.count args.width (inr (inr (omega (arith, c.if-out-count.true))))) (record { out_after = refl; value = refl; upper_bound = omega arith })

can : (c : Else-out-count) → let args = c.args in can_list args.out.now args.words.now args.count args.width ≡ true
can c =
    let args = c.args in
    listed args.out.now args.words.now args.count args.width (omega arith) (lines_fit args.count args.width (length args.words.now) (omega arith) c.if-words-width.false) (omega (arith, c.if-out-count.false))

pub put_lines-requires : goal.put_lines-requires
put_lines-requires c = can (goal.at.put_lines-requires c).Else-out-count

pub returns : goal.returns
returns c =
    let put = c.put_lines in
    rw (can (goal.at.returns c).Else-out-count) (record { out_after = put.ensures.out_after; value = omega (arith, put.ensures.value); upper_bound = put.ensures.upper_bound })
