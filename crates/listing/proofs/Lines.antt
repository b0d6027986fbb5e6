-- The lines of verdicts, from their page words.
use mathlib.Core.List.{List, [], ◌++◌, ◌∷◌}
use mathlib.Core.Option.{Option, none, some}
use mathlib.Core.Bool.{Bool, ◌&&◌, false, true}
use mathlib.Core.Logic.{◌⊎◌, ⊎_elim}
use mathlib.Core.Path.{◌∙◌, ◌≡◌, ap, ap₂, refl}
use Prim.Native.Nat.{◌*◌, ◌+◌, ◌-◌, ◌/◌, ◌<◌, ◌≤◌, suc, zero, ℕ}
use native.Mathlib.Nat.{add-mul, div-lt_iff_lt-mul, le-div_iff_mul-le, le_refl, mul-le-mul, one-mul, suc-mul, zero-mul}
use native.Mathlib.Omega.{arith}
use lib.Dec.{leb}
use lib.IntN.{ℤ, pos}
use lib.ListN.{drop, length, length-drop, take}
use lib.Seq.{drop-append-le, drop_at, drop-drop, take-append-le, take_at}
use Rattle.lists.specs.Lists.{concat_map}
use Rattle.lists.specs.Integers.{eq_z}
use Rattle.lists.proofs.All.{All, []ᴬ, ◌∷ᴬ◌}
use Rattle.lists.proofs.Tests.{and-join, and_split, false_of, leb_yes, true_of, yes_le}
use Rattle.evaluate.specs.Verdict.{Verdict, passed}
use Rattle.classifier.specs.Page.{flag, projection_words, words, words_of}
use Rattle.listing.specs.Text.{decimal, newline, passed_letter, projection_text, signed_decimal, spaced, verdict_line}
use Rattle.listing.specs.Words.{bytes_for, can_list, line_of, lines_of}
use Rattle.classifier.proofs.Wording.{words-length}

-- ---- a verdict's words
flag_one : (b : Bool) → eq_z (flag b) (pos 1) ≡ b
flag_one true = refl
flag_one false = refl

-- The line of a verdict's words is the line of the verdict.
pub line_words : (v : Verdict) → line_of (words v) ≡ verdict_line v
unfolding line_of verdict_line
line_words v = go v.projection
  where
    values : List ℕ
    values = concat_map (λ x. spaced (signed_decimal x)) v.values ++ newline

    letter : (rest : List ℕ) → passed_letter (eq_z (flag (passed v)) (pos 1)) ∷ rest ≡ passed_letter (passed v) ∷ rest
    letter rest = ap (λ (b : Bool). passed_letter b ∷ rest) (flag_one (passed v))

    go : (p : Option ℤ) → line_of (flag (passed v) ∷ pos v.place ∷ (projection_words p ++ v.values)) ≡ passed_letter (passed v) ∷ (spaced (decimal v.place) ++ (spaced (projection_text p) ++ values))
    go none = letter (spaced (decimal v.place) ++ (spaced (projection_text none) ++ values))
    go (some x) = letter (spaced (decimal v.place) ++ (spaced (projection_text (some x)) ++ values))

-- ---- lines
-- The lines of the words of verdicts on n fields are the lines of the verdicts.
pub lines_words : (n : ℕ) {vs : List Verdict} → All (λ v. length v.values ≡ n) vs → lines_of (length vs) (words_of n) (concat_map words vs) ≡ concat_map verdict_line vs
lines_words n []ᴬ = refl
lines_words n (◌∷ᴬ◌ {x = v} {xs = vs} h hs) =
    let long : length (words v) ≡ words_of n = words-length v ∙ ap words_of h in
    ap₂ ◌++◌
    (ap line_of (take_at (words v) (concat_map words vs) (words_of n) long) ∙ line_words v)
    (ap (lines_of (length vs) (words_of n)) (drop_at (words v) (concat_map words vs) (words_of n) long) ∙ lines_words n hs)

-- Words after those of the lines do not matter.
pub lines_front : (count width : ℕ) (ws rest : List ℤ) → count * width ≤ length ws → lines_of count width (ws ++ rest) ≡ lines_of count width ws
lines_front zero width ws rest h = refl
lines_front (suc count) width ws rest h =
    let more = suc-mul count width in
    let short : width ≤ length ws = omega arith in
    ap₂ ◌++◌
    (ap line_of (take-append-le width ws rest short))
    (ap (lines_of count width) (drop-append-le width ws rest short) ∙ lines_front count width (drop width ws) rest (omega (arith, more, length-drop width ws)))

-- ---- a loop over the lines
pub lines_start : (count width : ℕ) (ws : List ℤ) → lines_of (count - 0) width (drop (0 * width) ws) ≡ lines_of count width ws
lines_start count width ws = ap₂ (λ (c k : ℕ). lines_of c width (drop k ws)) (let e : count - 0 ≡ count = omega arith in e) (zero-mul width)

pub lines_more : (count width i : ℕ) (ws : List ℤ) → i < count
    → lines_of (count - i) width (drop (i * width) ws) ≡ line_of (take width (drop (i * width) ws)) ++ lines_of (count - (i + 1)) width (drop ((i + 1) * width) ws)
lines_more count width i ws h =
    let less : count - i ≡ suc (count - (i + 1)) = omega arith in
    let next : i * width + width ≡ (i + 1) * width = omega (arith, add-mul i 1 width, one-mul width) in
    ap (λ (c : ℕ). lines_of c width (drop (i * width) ws)) less
    ∙ ap (λ (l : List ℤ). line_of (take width (drop (i * width) ws)) ++ lines_of (count - (i + 1)) width l) (drop-drop width (i * width) ws ∙ ap (λ (k : ℕ). drop k ws) next)

pub lines_end : (count width i : ℕ) (ws : List ℤ) → count ≤ i → lines_of (count - i) width ws ≡ []
lines_end count width i ws h = ap (λ (c : ℕ). lines_of c width ws) (let e : count - i ≡ 0 = omega arith in e)

-- The words of line i are among those of all.
pub line_below : (count width i : ℕ) → i < count → i * width + width ≤ count * width
line_below count width i h = let up = mul-le-mul {n₁ = i + 1} {m₁ = width} {n₂ = count} {m₂ = width} (omega arith) (le_refl width) in omega (arith, up, add-mul i 1 width, one-mul width)

-- ---- whether they can be listed
module _ (buffer : List ℕ) (ws : List ℤ) (count width : ℕ) where
  pub can_list_lem : can_list buffer ws count width ≡ true → (4 ≤ width) × (count * width ≤ length ws) × (bytes_for (count * width) ≤ length buffer)
  can_list_lem e =
      let parts = and_split (leb 4 width) (leb (count * width) (length ws) && leb (bytes_for (count * width)) (length buffer)) e in
      let rest = and_split (leb (count * width) (length ws)) (leb (bytes_for (count * width)) (length buffer)) parts.1 in
      (yes_le 4 width parts.0, yes_le (count * width) (length ws) rest.0, yes_le (bytes_for (count * width)) (length buffer) rest.1)

  pub listed : 4 ≤ width → count * width ≤ length ws → bytes_for (count * width) ≤ length buffer → can_list buffer ws count width ≡ true
  listed wide many room = and-join (leb_yes 4 width wide) (and-join (leb_yes (count * width) (length ws) many) (leb_yes (bytes_for (count * width)) (length buffer) room))

  -- too few words for a line, too few lines, too little room
  pub not_listed : (width < 4) ⊎ (length ws < count * width) ⊎ (length buffer < bytes_for (count * width)) → can_list buffer ws count width ≡ false
  not_listed why =
      false_of (can_list buffer ws count width) (λ t.
      let facts = can_list_lem (true_of (can_list buffer ws count width) t) in
      ⊎_elim (λ h. absurd (omega (arith, facts.0))) (⊎_elim (λ h. absurd (omega (arith, facts.1))) (λ h. absurd (omega (arith, facts.2)))) why)

-- as many words, by a division
pub lines_fit : (count width n : ℕ) → 4 ≤ width → count ≤ n / width → count * width ≤ n
lines_fit count width n wide h = (le-div_iff_mul-le {k = width} {x = count} {y = n} (omega arith)).0 h

pub lines_over : (count width n : ℕ) → 4 ≤ width → n / width < count → n < count * width
lines_over count width n wide h = (div-lt_iff_lt-mul {k = width} {x = n} {y = count} (omega arith)).0 h
