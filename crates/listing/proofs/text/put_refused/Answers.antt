-- Each piece stands right after the one before it; the room is enough since a number has at most 20 digits.
use mathlib.Core.List.{◌++◌}
use mathlib.Core.Path.{◌≡◌, subst}
use Prim.Native.Nat.{◌<◌, ◌^◌, ℕ}
use borrow.Author.Rules.{rules}
use native.Mathlib.Omega.{arith}
use lib.ListN.{length-append}
use Rattle.listing.specs.Text.{decimal, spaced, newline, refused_word, refused_line}
use Rattle.listing.proofs.Buffer.{put_after}
use Rattle.listing.proofs.Decimal.{std_decimal}
use Rattle.listing.proofs.text.put_refused.Goals as goal

pub returns : goal.returns
unfolding refused_line
returns c =
    let byte = c.put_byte in
    let second = c.put_spaced-end in
    let first = c.put_spaced-records in
    let coded : c.from.result ≡ c.args.number = c.from.ensures in
    let number-fits : c.args.number < 2 ^ 64 = subst (λ (n : ℕ). n < 2 ^ 64) coded (omega (arith, c.from.type_inv)) in
    let record-fits : c.args.record_number < 2 ^ 64 = search rules in
    let first-is = rw (coded, std_decimal c.args.number number-fits) at first.ensures in
    let second-is = rw (std_decimal c.args.record_number record-fits) at second.ensures in
    let word = c.put_word-numbers in
    let args = c.args in
    let number = spaced (decimal args.number) in
    let place = spaced (decimal args.record_number) in
    let tail = put_after first.new.out second.new.out byte.new.out first.result second.result place newline second-is.out_after second-is.value byte.ensures.out_after in
    let numbers = put_after word.new.out first.new.out byte.new.out word.result first.result number (place ++ newline) first-is.out_after first-is.value tail in record { out_after = put_after args.out.now word.new.out byte.new.out args.at word.result refused_word (number ++ (place ++ newline)) word.ensures.out_after word.ensures.value numbers; value = omega (arith, word.ensures.value, first-is.value, second-is.value, byte.ensures.value, length-append (decimal args.number) (place ++ newline), length-append (decimal args.record_number) newline); upper_bound = omega (arith, word.ensures.value, first-is.upper_bound, second-is.upper_bound, byte.ensures.value) }
