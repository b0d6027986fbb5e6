-- By the room; each piece stands right after the one before it.
use mathlib.Core.List.{◌++◌}
use mathlib.Core.Path.{◌∙◌, sym}
use native.Mathlib.Omega.{arith}
use borrow.Author.Rules.{rules}
use lib.ListN.{length-append}
use Rattle.listing.specs.Text.{decimal, end_line, end_word, newline, spaced}
use Rattle.listing.proofs.Buffer.{put_after}
use Rattle.listing.proofs.Decimal.{std_decimal}
use Rattle.listing.proofs.text.put_end.Goals as goal

pub returns : goal.returns
unfolding end_line
returns c =
    let byte = c.put_byte in
    let fourth = c.put_spaced-end in
    let fourth-is = rw (std_decimal c.args.c.failed (search rules)) at fourth.ensures in
    let third = c.put_spaced-failed in
    let third-is = rw (std_decimal c.args.c.passed (search rules)) at third.ensures in
    let second = c.put_spaced-passed in
    let second-is = rw (std_decimal c.args.c.emitted (search rules)) at second.ensures in
    let first = c.put_spaced-emitted in
    let first-is = rw (std_decimal c.args.c.total (search rules)) at first.ensures in
    let word = c.put_word-totals in
    let args = c.args in
    let total = spaced (decimal args.c.total) in
    let emitted = spaced (decimal args.c.emitted) in
    let passed = spaced (decimal args.c.passed) in
    let failed = spaced (decimal args.c.failed) in
    let last = byte.new.out in
    let from-failed = put_after third.new.out fourth.new.out last third.result fourth.result failed newline fourth-is.out_after fourth-is.value byte.ensures.out_after in
    let from-passed = put_after second.new.out third.new.out last second.result third.result passed (failed ++ newline) third-is.out_after third-is.value from-failed in
    let from-emitted = put_after first.new.out second.new.out last first.result second.result emitted (passed ++ (failed ++ newline)) second-is.out_after second-is.value from-passed in
    let from-total = put_after word.new.out first.new.out last word.result first.result total (emitted ++ (passed ++ (failed ++ newline))) first-is.out_after first-is.value from-emitted in
    let total-long = length-append (decimal args.c.total) (emitted ++ (passed ++ (failed ++ newline))) in
    let emitted-long = length-append (decimal args.c.emitted) (passed ++ (failed ++ newline)) in
    let passed-long = length-append (decimal args.c.passed) (failed ++ newline) in
    let failed-long = length-append (decimal args.c.failed) newline in
    rw (sym c.has_room.ensures ∙ c.if-not-has_room.false) (record { out_after = put_after args.out.now word.new.out last args.at word.result end_word (total ++ (emitted ++ (passed ++ (failed ++ newline)))) word.ensures.out_after word.ensures.value from-total; value = omega (arith, word.ensures.value, first-is.value, second-is.value, third-is.value, fourth-is.value, byte.ensures.value, total-long, emitted-long, passed-long, failed-long) })
