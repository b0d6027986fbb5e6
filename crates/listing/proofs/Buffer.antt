-- Text put into a buffer piece by piece.
use mathlib.Core.Bool.{true}
use mathlib.Core.List.{List, [], ◌++◌, ◌∷◌}
use mathlib.Core.Path.{◌∙◌, ◌≡◌, ap, refl, sym}
use Prim.Native.Nat.{◌+◌, ◌<◌, ◌≤◌, suc, ℕ}
use native.Mathlib.Numerals.{add-one}
use native.Mathlib.Omega.{arith}
use lib.ListN.{drop, get_or, length, length-append, set, take}
use lib.Seq.{drop-cons, length-sets, sets, sets-eq, take-append_seam}
use Rattle.listing.specs.Counts.{IsPrefixLen}
use Rattle.lists.specs.Lists.{concat_map}
use Rattle.lists.proofs.Tests.{and-join, leb_yes}
use Rattle.listing.specs.Words.{has_room}

-- Two pieces, one after the other.
pub sets_append : (l : List ℕ) (i : ℕ) (a b : List ℕ) → sets (sets l i a) (i + length a) b ≡ sets l i (a ++ b)
sets_append l i [] b = ap (λ (k : ℕ). sets l k b) (omega arith)
sets_append l i (x ∷ a) b = ap (λ (k : ℕ). sets (sets (set l i x) (suc i) a) k b) (omega arith) ∙ sets_append (set l i x) (suc i) a b

-- b is put right after a, which was put at `at`.
pub put_after : (l₀ l₁ l₂ : List ℕ) (at mid : ℕ) (a b : List ℕ) → l₁ ≡ sets l₀ at a → mid ≡ at + length a → l₂ ≡ sets l₁ mid b → l₂ ≡ sets l₀ at (a ++ b)
put_after l₀ l₁ l₂ at mid a b first place second =
    second ∙ ap (λ (l : List ℕ). sets l mid b) first ∙ ap (λ (k : ℕ). sets (sets l₀ at a) k b) place ∙ sets_append l₀ at a b

-- A text put at the start stands there.
pub put_first : (l₀ l₁ text : List ℕ) (n : ℕ) → l₁ ≡ sets l₀ 0 text → n ≡ 0 + length text → n ≤ length l₀ → (IsPrefixLen n l₁) × (take n l₁ ≡ text)
put_first l₀ l₁ text n put end room =
    let same : length l₁ ≡ length l₀ = ap (λ (l : List ℕ). length l) put ∙ length-sets l₀ 0 text in
    let stands : take n l₁ ≡ text =
    ap (λ (k : ℕ). take k l₁) (let e : n ≡ length text = omega arith in e)
    ∙ ap (λ (l : List ℕ). take (length text) l) (put ∙ sets-eq text l₀ 0 (omega arith))
    ∙ take-append_seam text (drop (0 + length text) l₀)
    in
    let long = ap (λ (l : List ℕ). length l) stands in
    ((omega arith, omega arith), stands)

-- ---- text put in a loop
-- With the rest put at `next`, the buffer holds the whole, which ends at `end`.
abbrev pub Left : (whole : List ℕ) (end : ℕ) (buffer : List ℕ) (next : ℕ) (rest : List ℕ) → Type 0
Left whole end buffer next rest = (sets buffer next rest ≡ whole) × (next + length rest ≡ end)

-- One more piece.
pub left_more : (whole : List ℕ) (end : ℕ) (l l' : List ℕ) (next next' : ℕ) (piece rest left : List ℕ)
    → left ≡ piece ++ rest → l' ≡ sets l next piece → next' ≡ next + length piece → Left whole end l next left → Left whole end l' next' rest
left_more whole end l l' next next' piece rest left parts put place (same, ends) =
    let both = ap (λ (t : List ℕ). length t) parts in
    let sum = length-append piece rest in
    (put_after l l' (sets l' next' rest) next next' piece rest put place refl ∙ sym (ap (λ (t : List ℕ). sets l next t) parts) ∙ same, omega arith)

-- The text from element i on: that of the element, and the rest.
pub pieces_more : {A : Type 0} (f : A → List ℕ) (xs : List A) (i : ℕ) (default : A) → i < length xs → concat_map f (drop i xs) ≡ f (get_or xs i default) ++ concat_map f (drop (i + 1) xs)
pieces_more f xs i default h = rw (add-one i) (ap (λ l. concat_map f l) (drop-cons xs i default h))

-- Nothing is left.
pub left_end : (whole : List ℕ) (end : ℕ) (l : List ℕ) (next : ℕ) (rest : List ℕ) → rest ≡ [] → Left whole end l next rest → (l ≡ whole) × (next ≡ end)
left_end whole end l next rest none (same, ends) =
    let long = ap (λ (t : List ℕ). length t) none in
    (sym (ap (λ (t : List ℕ). sets l next t) none) ∙ same, omega arith)

-- ---- room
pub room_yes : (buffer : List ℕ) (at bytes : ℕ) → at + bytes ≤ length buffer → has_room buffer at bytes ≡ true
room_yes buffer at bytes h = and-join (leb_yes at (length buffer) (omega arith)) (leb_yes (at + bytes) (length buffer) h)
