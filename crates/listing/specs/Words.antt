-- The text of verdicts from their page words, and what a buffer holds after text was put into it.
use Rattle.std.specs.Prelude.{Bool, true, false, ◌&&◌, List, [], ◌∷◌, ◌++◌, ℕ, zero, suc, ◌+◌, ◌*◌, leb, ℤ, pos, drop, get_or, length, take}
use Rattle.std.proofs.lemmas.List.Edits.{sets}
use Rattle.lists.specs.Lists.{concat_map}
use Rattle.lists.specs.Integers.{eq_z}
use Rattle.listing.specs.Text.{newline, passed_letter, signed_decimal, spaced}

-- The projection, or -.
abbrev pub projection_if : Bool → ℤ → List ℕ
projection_if true p = signed_decimal p
projection_if false p = 45 ∷ []

abbrev pub word_at : List ℤ → ℕ → ℤ
word_at ws i = get_or ws i (pos 0)

-- The line of a verdict, from its words: passed, place, has projection, projection or 0, values (law `line_words`).
unfoldable pub line_of : List ℤ → List ℕ
line_of ws =
    passed_letter (eq_z (word_at ws 0) (pos 1))
    ∷ (spaced (signed_decimal (word_at ws 1)) ++ (spaced (projection_if (eq_z (word_at ws 2) (pos 1)) (word_at ws 3)) ++ (concat_map (λ x. spaced (signed_decimal x)) (drop 4 ws) ++ newline)))

-- The lines of so many verdicts, of so many words each.
abbrev pub lines_of : ℕ → ℕ → List ℤ → List ℕ
lines_of zero width ws = []
lines_of (suc count) width ws = line_of (take width ws) ++ lines_of count width (drop width ws)

-- A number and the space before it take at most 21 bytes.
abbrev pub bytes_for : ℕ → ℕ
bytes_for words = words * 21

-- Text put at a place of a buffer, where there is room; else the buffer is left as it is.
abbrev pub put_if : Bool → List ℕ → ℕ → List ℕ → List ℕ
put_if true text at old = sets old at text
put_if false text at old = old

-- The place after it; where there is no room, the place itself.
abbrev pub after_if : Bool → List ℕ → ℕ → ℕ
after_if true text at = at + length text
after_if false text at = at

-- There is room for so many bytes from a place on.
abbrev pub has_room : List ℕ → ℕ → ℕ → Bool
has_room buffer at bytes = leb at (length buffer) && leb (at + bytes) (length buffer)

-- So many verdicts of so many words are there, and there is room for their lines.
abbrev pub can_list : List ℕ → List ℤ → ℕ → ℕ → Bool
can_list buffer ws count width = leb 4 width && (leb (count * width) (length ws) && leb (bytes_for (count * width)) (length buffer))
