-- The loop of a page, over a plain list of the tuples that are due: the first of them are written, the next one is due.
use mathlib.Core.Bool.{false, true}
use mathlib.Core.List.{List, [], ◌++◌, ◌∷◌, append_assoc, append-nil}
use mathlib.Core.Path.{◌∙◌, ◌≡◌, ap, ap₂, refl, sym}
use Prim.Native.Nat.{◌*◌, ◌+◌, ◌-◌, ◌/◌, ◌<◌, ◌≤◌, min, suc, zero, ℕ}
use native.Mathlib.Nat.{add-mul, le-div_iff_mul-le, min-eq_left, min-eq_right, one-mul, zero-mul}
use native.Mathlib.Numerals.{add-one}
use native.Mathlib.Omega.{arith}
use borrow.Rule.Slice.PartMut.{Post-is, put_mid}
use lib.Arith.{digits_div}
use lib.IntN.{ℤ}
use lib.ListN.{drop, length, length-append, length-drop, take}
use lib.Seq.{drop_at, take_at}
use Rattle.lists.specs.Lists.{concat_map, over}
use Rattle.lists.proofs.Lists.{concat_map_append}
use Rattle.lists.proofs.Tests.{leb_no, leb_yes}
use Rattle.spec.specs.Spec.{Spec}
use Rattle.compose.specs.Tuples.{Engine, padded}
use Rattle.classifier.specs.Count.{verdict_of}
use Rattle.classifier.specs.Page.{Page, Start, fit_count, last_or, page_of, page_words, start_tuple, words, words_of}

-- ---- the next of a list
module _ {A : Type 0} where
  next_taken : (k : ℕ) (ts : List A) (t : A) (rest : List A) → drop k ts ≡ t ∷ rest → take (k + 1) ts ≡ take k ts ++ (t ∷ [])
  next_taken k ts t rest e = ap (λ (n : ℕ). take n ts) (add-one k) ∙ go k ts e
    where
      go : (k : ℕ) (ts : List A) → drop k ts ≡ t ∷ rest → take (suc k) ts ≡ take k ts ++ (t ∷ [])
      go zero ts e = ap (take 1) e
      go (suc k) [] e = let z : ◌≡◌ {A = ℕ} 0 (suc (length rest)) = ap length e in absurd (omega arith)
      go (suc k) (x ∷ ts) e = ap (λ (l : List A). x ∷ l) (go k ts e)

  pub next_left : (k : ℕ) (ts : List A) (t : A) (rest : List A) → drop k ts ≡ t ∷ rest → drop (k + 1) ts ≡ rest
  next_left k ts t rest e = ap (λ (n : ℕ). drop n ts) (add-one k) ∙ go k ts e
    where
      go : (k : ℕ) (ts : List A) → drop k ts ≡ t ∷ rest → drop (suc k) ts ≡ rest
      go zero ts e = ap (drop 1) e
      go (suc k) [] e = let z : ◌≡◌ {A = ℕ} 0 (suc (length rest)) = ap length e in absurd (omega arith)
      go (suc k) (x ∷ ts) e = go k ts e

  pub next_fewer : (k : ℕ) (ts : List A) (t : A) (rest : List A) → drop k ts ≡ t ∷ rest → k < length ts
  next_fewer k ts t rest e = let n : length (drop k ts) ≡ suc (length rest) = ap length e in omega (arith, length-drop k ts)

last_of : (start : List ℕ) (ts : List (List ℕ)) (t : List ℕ) → last_or start (ts ++ (t ∷ [])) ≡ padded t
last_of start [] t = refl
last_of start (u ∷ ts) t = last_of (padded u) ts t

-- ---- the state of the loop
-- w gives a tuple's words, k of them each; old is the output before the first.
pub record Writing (w : List ℕ → List ℤ) (k : ℕ) (old : List ℤ) (ts : List (List ℕ)) (start : List ℕ) (at count : ℕ) (last : List ℕ) (out : List ℤ) : Type 0 where
  pub place : at ≡ count * k
  pub few : count ≤ at
  pub some_of : count ≤ length ts
  pub within : at ≤ length old
  pub last_is : last ≡ last_or start (take count ts)
  pub long : length (concat_map w (take count ts)) ≡ at
  pub words_are : out ≡ concat_map w (take count ts) ++ drop at old

module _ (w : List ℕ → List ℤ) (k : ℕ) (old : List ℤ) (ts : List (List ℕ)) (start : List ℕ) where
  pub writing_none : Writing w k old ts start 0 0 start old
  writing_none = record { place = sym (zero-mul k); few = omega arith; some_of = omega arith; within = omega arith; last_is = refl; long = refl; words_are = refl }

  module _ (at count : ℕ) (last : List ℕ) (out : List ℤ) (st : Writing w k old ts start at count last out) where
    pub writing_wide : length out ≡ length old
    writing_wide = ap length st.words_are ∙ length-append (concat_map w (take count ts)) (drop at old) ∙ omega (arith, st.long, length-drop at old, st.within)

    -- One more tuple is written.
    pub writing_turn : (t : List ℕ) (rest : List (List ℕ)) (new : List ℤ) → drop count ts ≡ t ∷ rest → new ≡ w t → length (w t) ≡ k → 0 < k → at + k ≤ length old
        → Writing w k old ts start (at + k) (count + 1) (padded t) (put_mid at (at + k - at) out new)
    writing_turn t rest new e n l some room =
        let taken = next_taken count ts t rest e in
        let all : concat_map w (take (count + 1) ts) ≡ concat_map w (take count ts) ++ w t = ap (concat_map w) taken ∙ concat_map_append w (take count ts) (t ∷ []) ∙ ap (λ (x : List ℤ). concat_map w (take count ts) ++ x) (append-nil (w t)) in
        record {
          place = ap (λ (x : ℕ). x + k) st.place ∙ ap (λ (x : ℕ). count * k + x) (sym (one-mul k)) ∙ sym (add-mul count 1 k);
          few = omega (arith, st.few);
          some_of = omega (arith, next_fewer count ts t rest e);
          within = room;
          last_is = sym (ap (last_or start) taken ∙ last_of start (take count ts) t);
          long = ap length all ∙ length-append (concat_map w (take count ts)) (w t) ∙ ap₂ ◌+◌ st.long l;
          words_are = ap₂ (λ (a b : List ℤ). a ++ (new ++ b)) front behind ∙ ap (λ (x : List ℤ). concat_map w (take count ts) ++ (x ++ drop (at + k) old)) n ∙ sym (append_assoc (concat_map w (take count ts)) (w t) (drop (at + k) old)) ∙ ap (λ (x : List ℤ). x ++ drop (at + k) old) (sym all);
        }
      where
        front : take at out ≡ concat_map w (take count ts)
        front = ap (take at) st.words_are ∙ take_at (concat_map w (take count ts)) (drop at old) at st.long

        behind : drop (at + k - at) (drop at out) ≡ drop (at + k) old
        behind = ap (drop (at + k - at)) (ap (drop at) st.words_are ∙ drop_at (concat_map w (take count ts)) (drop at old) at st.long) ∙ Post-is at (at + k) old (omega arith)

    -- The next has no room: so many fit.
    pub stopped_fit : (t : List ℕ) (rest : List (List ℕ)) → drop count ts ≡ t ∷ rest → length old - at < k → min (length ts) (length old / k) ≡ count
    stopped_fit t rest e h =
        let f : length old / k ≡ count = ap (λ (x : ℕ). x / k) (split st.place st.within) ∙ digits_div count h in
        ap (min (length ts)) f ∙ min-eq_right st.some_of
      where
        split : at ≡ count * k → at ≤ length old → length old ≡ count * k + (length old - at)
        split a b = omega arith

    -- None is left: all fit.
    pub finished_fit : drop count ts ≡ [] → 0 < k → min (length ts) (length old / k) ≡ count
    finished_fit e h =
        let n : length (drop count ts) ≡ 0 = ap length e in
        let same : length ts ≡ count = omega (arith, length-drop count ts, st.some_of) in
        let f : length ts ≤ length old / k = (le-div_iff_mul-le h).1 (rest same st.place st.within) in
        min-eq_left f ∙ same
      where
        rest : length ts ≡ count → at ≡ count * k → at ≤ length old → length ts * k ≤ length old
        rest a b c = rw a (omega arith)

-- ---- the page
module _ (engine : Engine) (s : Spec) (start : Start) (k : ℕ) (wide : k ≡ words_of (length s.fields)) (old : List ℤ) (ts : List (List ℕ)) (at count : ℕ) (last : List ℕ) (out : List ℤ)
    (st : Writing (λ t. words (verdict_of engine s t)) k old ts (start_tuple start) at count last out) where
  -- What the page answers, and what stands in the output.
  abbrev pub Ends : Page → Type 0
  Ends a = (a ≡ page_of s (length old) ts start) × (out ≡ over (page_words engine s (length old) ts) old)

  fit_is : (min (length ts) (length old / k) ≡ count) → fit_count s (length old) ts ≡ count
  fit_is e = ap (λ (x : ℕ). min (length ts) (length old / x)) (sym wide) ∙ e

  out_is : fit_count s (length old) ts ≡ count → out ≡ over (page_words engine s (length old) ts) old
  unfolding page_words
  out_is e = st.words_are ∙ ap (λ (x : ℕ). concat_map (λ t. words (verdict_of engine s t)) (take count ts) ++ drop x old) (sym st.long) ∙ ap (λ (x : ℕ). over (concat_map (λ t. words (verdict_of engine s t)) (take x ts)) old) (sym e)

  pub page_stopped : (t : List ℕ) (rest : List (List ℕ)) → drop count ts ≡ t ∷ rest → length old - at < k → Ends (record { count = count; last = last; done = false })
  unfolding page_of
  page_stopped t rest e h =
      let f = fit_is (stopped_fit (λ t. words (verdict_of engine s t)) k old ts (start_tuple start) at count last out st t rest e h) in
      (rw (f, st.last_is, leb_no (length ts) count (next_fewer count ts t rest e)), out_is f)

  pub page_finished : drop count ts ≡ [] → Ends (record { count = count; last = last; done = true })
  unfolding page_of
  page_finished e =
      let f = fit_is (finished_fit (λ t. words (verdict_of engine s t)) k old ts (start_tuple start) at count last out st e (let v = wide in omega arith)) in
      let n : length (drop count ts) ≡ 0 = ap length e in
      (rw (f, st.last_is, leb_yes (length ts) count (omega (arith, length-drop count ts))), out_is f)
