-- The invariant: with the lines to come put, the buffer holds them all.
use mathlib.Core.List.{List}
use mathlib.Core.Path.{◌≡◌, ap, refl}
use Prim.Native.Nat.{◌*◌, ◌+◌, ◌-◌, ◌≤◌, ℕ}
use native.Mathlib.Nat.{add-mul, one-mul}
use native.Mathlib.Omega.{arith}
use borrow.Author.Rules.{rules}
use lib.IntN.{ℤ}
use lib.ListN.{drop, length, length-drop, take}
use lib.Seq.{length-take-le, sets}
use Rattle.listing.specs.Words.{bytes_for, line_of, lines_of}
use Rattle.listing.proofs.Buffer.{left_end, left_more}
use Rattle.listing.proofs.Lines.{can_list_lem, line_below, lines_end, lines_more, lines_start}
use Rattle.listing.proofs.text.put_lines.Goals.{In-loop-i, Start}
use Rattle.listing.proofs.text.put_lines.Goals as goal

pub loop-i-init : goal.loop-i-init
loop-i-init c =
    let args = c.args in
    let whole = lines_of args.count args.width args.words.now in
    let starts : lines_of (args.count - 0) args.width (drop (0 * args.width) args.words.now) ≡ whole = lines_start args.count args.width args.words.now in
    let long = ap (λ (l : List ℕ). length l) starts in
    (refl, omega arith, (ap (sets args.out.now 0) starts, omega arith))

-- what may be asked of the lines
asked : (c : Start) → (4 ≤ c.args.width) × (c.args.count * c.args.width ≤ length c.args.words.now) × (bytes_for (c.args.count * c.args.width) ≤ length c.args.out.now)
asked c = can_list_lem c.args.out.now c.args.words.now c.args.count c.args.width c.requires

-- the words of this line are among them
below : (c : In-loop-i) → c.loop-i.i * c.args.width + c.args.width ≤ length c.args.words.now
below c =
    let args = c.args in
    omega (arith, line_below args.count args.width c.loop-i.i c.loop-i-test.true, (can_list_lem args.out.now args.words.now args.count args.width c.requires).1)

-- the words of this line
module _ (c : In-loop-i) where
  abbrev width : ℕ
  width = c.args.width

  abbrev start : ℕ
  start = c.loop-i.i * width

  abbrev left : List ℤ
  left = drop start c.args.words.now

  wide : start + width - start ≡ width
  wide = omega arith

  long : length (take width left) ≡ width
  long = length-take-le width left (omega (arith, below c, length-drop start c.args.words.now))

pub overflow_mul-from : goal.overflow_mul-from
overflow_mul-from c = let h = below (goal.at.overflow_mul-from c).In-loop-i in search rules

pub offset_bounds-words-from : goal.offset_bounds-words-from
offset_bounds-words-from c = let h = below (goal.at.offset_bounds-words-from c).In-loop-i in search rules

pub slice_bounds-put_line-count : goal.slice_bounds-put_line-count
slice_bounds-put_line-count c = omega arith

pub slice_bounds-put_line-start : goal.slice_bounds-put_line-start
slice_bounds-put_line-start c = omega arith

pub slice_bounds-put_line-end : goal.slice_bounds-put_line-end
slice_bounds-put_line-end c = below (goal.at.slice_bounds-put_line-end c).In-loop-i

pub put_line-next-requires : goal.put_line-next-requires
put_line-next-requires c =
    let t = (goal.at.put_line-next-requires c).In-loop-i in
    let s = (goal.at.put_line-next-requires c).Start in
    let facts = asked s in
    rw (wide t) (omega (arith, long t, facts.0), omega (arith, long t, facts.2, t.loop-i.invariant.0, t.loop-i.invariant.1, line_below s.args.count s.args.width t.loop-i.i t.loop-i-test.true))

pub loop-i-preserved : goal.loop-i-preserved
loop-i-preserved c =
    let t = (goal.at.loop-i-preserved c).In-loop-i in
    let here = t.loop-i in
    let args = t.args in
    let words = args.words.now in
    let whole = lines_of args.count (width t) words in
    let puts = rw (wide t) at c.put_line-next.ensures in
    let put = c.put_line-next in
    let next = (here.i + 1) * width t in
    (omega arith, omega (arith, puts.upper_bound, long t, here.invariant.1, add-mul here.i 1 (width t), one-mul (width t)), left_more (sets args.out.now 0 whole) (length whole) here.out put.new.out here.next put.result (line_of (take (width t) (left t))) (lines_of (args.count - (here.i + 1)) (width t) (drop next words)) (lines_of (args.count - here.i) (width t) (left t)) (lines_more args.count (width t) here.i words t.loop-i-test.true) puts.out_after puts.value here.invariant.2)

pub shape_of-out : goal.shape_of-out
shape_of-out c = c.loop-i.invariant.0

pub returns : goal.returns
returns c =
    let here = c.loop-i in
    let args = c.args in
    let whole = lines_of args.count args.width args.words.now in
    let left = drop (here.i * args.width) args.words.now in
    let all : here.i ≡ args.count = omega (arith, here.invariant.0, c.loop-i-test.false) in
    let far = ap (λ (k : ℕ). k * args.width) all in
    let put = left_end (sets args.out.now 0 whole) (length whole) here.out here.next (lines_of (args.count - here.i) args.width left) (lines_end args.count args.width here.i left c.loop-i-test.false) here.invariant.2 in
    record { out_after = put.0; value = put.1; upper_bound = omega (arith, far, here.invariant.1, (asked (goal.at.returns c).Start).2) }
