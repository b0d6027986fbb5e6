-- Each piece stands right after the one before it; the room is enough since a number and its space take at most 21 bytes.
use mathlib.Core.Bool.{Bool}
use mathlib.Core.List.{[], ◌++◌, ◌∷◌}
use mathlib.Core.Path.{◌∙◌, ◌≡◌, ap, sym}
use Prim.Native.Nat.{◌-◌}
use native.Mathlib.Omega.{arith}
use borrow.Author.Rules.{rules}
use lib.IntN.{pos}
use lib.ListN.{drop, length, length-append, length-drop, take}
use lib.Seq.{take_all}
use mir.Syntax.{w64}
use mir.Val.{SFits}
use mir.ValLaws.{to_z-of_z}
use Rattle.lists.specs.Integers.{eq_z}
use Rattle.lists.specs.Lists.{concat_map}
use Rattle.registry.specs.Code.{as_projection}
use Rattle.listing.specs.Text.{newline, passed_letter, projection_text, signed_decimal, spaced}
use Rattle.listing.specs.Words.{line_of, projection_if, word_at}
use Rattle.listing.proofs.Buffer.{put_after}
use Rattle.listing.proofs.Decimal.{std_signed}
use Rattle.listing.proofs.Sign.{is_one, not_one}
use Rattle.listing.proofs.text.put_line.Goals.{Joined-words-eq1, then-words-eq1, else-words-eq1, Joined-words-eq1-2, then-words-eq1-2, else-words-eq1-2}
use Rattle.listing.proofs.text.put_line.Goals as goal

-- P or F
letter-is : (c : Joined-words-eq1) → c.if-words-eq1.letter ≡ passed_letter (eq_z (word_at c.args.words.now 0) (pos 1))
letter-is c =
    let word = word_at c.args.words.now 0 in
    let fits : SFits w64 word = search rules in
    elim c.if-words-eq1.branch [
      | then-words-eq1 w ↦ w.letter-is ∙ ap passed_letter (sym (is_one word fits w.if-words-eq1.true))
      | else-words-eq1 w ↦ w.letter-is ∙ ap passed_letter (sym (not_one word fits w.if-words-eq1.false))
    ]

-- the projection, or none
projection-is : (c : Joined-words-eq1-2) → projection_text (as_projection c.if-words-eq1-2.projection) ≡ projection_if (eq_z (word_at c.args.words.now 2) (pos 1)) (word_at c.args.words.now 3)
projection-is c =
    let word = word_at c.args.words.now 2 in
    let fits : SFits w64 word = search rules in
    elim c.if-words-eq1-2.branch [
      | then-words-eq1-2 w ↦ ap (λ p. projection_text (as_projection p)) w.projection-is ∙ ap signed_decimal (to_z-of_z w64 (word_at c.args.words.now 3) (let f : SFits w64 (word_at c.args.words.now 3) = search rules in f)) ∙ ap (λ (b : Bool). projection_if b (word_at c.args.words.now 3)) (sym (is_one word fits w.if-words-eq1-2.true))
      | else-words-eq1-2 w ↦ ap (λ p. projection_text (as_projection p)) w.projection-is ∙ ap (λ (b : Bool). projection_if b (word_at c.args.words.now 3)) (sym (not_one word fits w.if-words-eq1-2.false))
    ]

pub returns : goal.returns
unfolding line_of
returns c =
    let end = c.put_byte in
    let args = c.args in
    let words = args.words.now in
    let letter = passed_letter (eq_z (word_at words 0) (pos 1)) ∷ [] in
    let place = spaced (signed_decimal (word_at words 1)) in
    let projection = spaced (projection_if (eq_z (word_at words 2) (pos 1)) (word_at words 3)) in
    let values = concat_map (λ x. spaced (signed_decimal x)) (drop 4 words) in
    let from-1 = rw (letter-is (goal.at.returns c).Joined-words-eq1) at c.put_byte-places.ensures in
    let fits : SFits w64 (word_at words 1) = search rules in
    let from-2 = rw (to_z-of_z w64 (word_at words 1) fits, std_signed (word_at words 1) fits) at c.put_spaced-projections.ensures in
    let from-3 = rw (projection-is (goal.at.returns c).Joined-words-eq1-2) at c.put_projection-values.ensures in
    let part : take (length words - 4) (drop 4 words) ≡ drop 4 words = take_all (length words - 4) (drop 4 words) (omega (arith, length-drop 4 words)) in
    let from-4 = rw part at c.put_values-end.ensures in
    let last = end.new.out in
    let after-values = put_after c.put_projection-values.new.out c.put_values-end.new.out last c.put_projection-values.result c.put_values-end.result values newline from-4.out_after from-4.value end.ensures.out_after in
    let after-projection = put_after c.put_spaced-projections.new.out c.put_projection-values.new.out last c.put_spaced-projections.result c.put_projection-values.result projection (values ++ newline) from-3.out_after from-3.value after-values in
    let after-place = put_after c.put_byte-places.new.out c.put_spaced-projections.new.out last c.put_byte-places.result c.put_spaced-projections.result place (projection ++ (values ++ newline)) from-2.out_after from-2.value after-projection in
    let place-long = length-append place (projection ++ (values ++ newline)) in
    let projection-long = length-append projection (values ++ newline) in
    let values-long = length-append values newline in record { out_after = put_after args.out.now c.put_byte-places.new.out last args.at c.put_byte-places.result letter (place ++ (projection ++ (values ++ newline))) from-1.out_after from-1.value after-place; value = omega (arith, from-1.value, from-2.value, from-3.value, from-4.value, end.ensures.value, place-long, projection-long, values-long); upper_bound = omega (arith, from-1.value, from-2.upper_bound, from-3.upper_bound, from-4.upper_bound, end.ensures.value, length-drop 4 words, c.requires) }
