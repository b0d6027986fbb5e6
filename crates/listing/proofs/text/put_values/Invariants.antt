-- The invariant: with the text of the numbers to come put, the buffer holds the text of them all.
use mathlib.Core.List.{List}
use mathlib.Core.Path.{◌≡◌}
use Prim.Native.Nat.{◌+◌, ◌≤◌, ℕ}
use lib.IntN.{ℤ}
use lib.ListN.{drop, length}
use lib.Seq.{sets}
use Rattle.lists.specs.Lists.{concat_map}
use Rattle.listing.specs.Text.{signed_decimal, spaced}
use Rattle.listing.specs.Words.{bytes_for}
use Rattle.listing.proofs.Buffer.{Left}
use Rattle.listing.proofs.text.put_values.Given as goal

abbrev pub values_text : List ℤ → List ℕ
values_text numbers = concat_map (λ x. spaced (signed_decimal x)) numbers

abbrev pub invariant-loop-number : goal.invariant-loop-number
invariant-loop-number l = (length l.out ≡ length l.initial.out) × (l.next ≤ l.at + bytes_for l.number-index) × Left (sets l.initial.out l.at (values_text l.numbers)) (l.at + length (values_text l.numbers)) l.out l.next (values_text (drop l.number-index l.numbers))
