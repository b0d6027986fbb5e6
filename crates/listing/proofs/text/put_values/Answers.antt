-- The invariant: with the text of the numbers to come put, the buffer holds the text of them all.
use mathlib.Core.Path.{ap, refl}
use Prim.Native.Nat.{◌+◌}
use native.Mathlib.Omega.{arith}
use borrow.Author.Rules.{rules}
use lib.IntN.{pos}
use lib.ListN.{drop, drop_of_length-le, get_or, length}
use lib.Seq.{sets}
use mir.Syntax.{w64}
use mir.Val.{SFits}
use mir.ValLaws.{to_z-of_z}
use Rattle.listing.specs.Text.{signed_decimal, spaced}
use Rattle.listing.proofs.Buffer.{left_end, left_more, pieces_more}
use Rattle.listing.proofs.Decimal.{std_signed}
use Rattle.listing.proofs.text.put_values.Invariants.{values_text}
use Rattle.listing.proofs.text.put_values.Goals as goal

pub loop-number-init : goal.loop-number-init
loop-number-init c = (refl, omega arith, (refl, refl))

pub loop-number-preserved : goal.loop-number-preserved
loop-number-preserved c =
    let here = c.loop-number in
    let args = c.args in
    let numbers = args.numbers.now in
    let put = c.put_spaced-next in
    let number = get_or numbers here.number-index (pos 0) in
    let piece = spaced (signed_decimal number) in
    let fits : SFits w64 number = search rules in
    let puts = rw (to_z-of_z w64 number fits, std_signed number fits) at put.ensures in
    (omega arith, omega (arith, puts.upper_bound), left_more (sets args.out.now args.at (values_text numbers)) (args.at + length (values_text numbers)) here.out put.new.out here.next put.result piece (values_text (drop (here.number-index + 1) numbers)) (values_text (drop here.number-index numbers)) (pieces_more (λ x. spaced (signed_decimal x)) numbers here.number-index (pos 0) (omega arith)) puts.out_after puts.value here.invariant.2)

pub shape_of-out : goal.shape_of-out
shape_of-out c = c.loop-number.invariant.0

pub returns : goal.returns
returns c =
    let here = c.loop-number in
    let args = c.args in
    let numbers = args.numbers.now in
    let ends = left_end (sets args.out.now args.at (values_text numbers)) (args.at + length (values_text numbers)) here.out here.next (values_text (drop here.number-index numbers)) (ap values_text (drop_of_length-le numbers {i = here.number-index} (omega arith))) here.invariant.2 in
    record { out_after = ends.0; value = ends.1; upper_bound = omega arith }
