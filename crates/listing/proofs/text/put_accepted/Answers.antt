-- Each piece stands right after the one before it; the room is enough since a number has at most 20 digits.
use mathlib.Core.List.{◌++◌}
use native.Mathlib.Omega.{arith}
use lib.ListN.{length-append}
use Rattle.listing.specs.Text.{decimal, spaced, newline, accepted_word, accepted_line}
use Rattle.listing.proofs.Buffer.{put_after}
use Rattle.listing.proofs.Decimal.{std_decimal}
use Rattle.listing.proofs.text.put_accepted.Goals as goal

pub returns : goal.returns
unfolding accepted_line
returns c =
    let byte = c.put_byte in
    let spaces = c.put_spaced-end in
    let spaces-is = rw (std_decimal c.args.total c.ranges.total.fits) at spaces.ensures in
    let word = c.put_word-totals in
    let args = c.args in
    let number = spaced (decimal args.total) in
    let tail = put_after word.new.out spaces.new.out byte.new.out word.result spaces.result number newline spaces-is.out_after spaces-is.value byte.ensures.out_after in record { out_after = put_after args.out.now word.new.out byte.new.out args.at word.result accepted_word (number ++ newline) word.ensures.out_after word.ensures.value tail; value = omega (arith, word.ensures.value, spaces-is.value, byte.ensures.value, length-append (decimal args.total) newline); upper_bound = omega (arith, word.ensures.value, spaces-is.upper_bound, byte.ensures.value) }
