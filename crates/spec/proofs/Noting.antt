-- The places of the heads: noted from the front while the records are judged, and gone through from head to head.
use Rattle.std.specs.Prelude.{Result, Ok, Err, IfOk}
use mathlib.Core.Bool.{Bool, ◌||◌, false, true, true≢false}
use mathlib.Core.List.{List, [], ◌++◌, ◌∷◌}
use mathlib.Core.Option.{Option, none}
use mathlib.Core.Path.{◌∙◌, ◌≡◌, ap, ap₂, refl, subst, sym}
use Prim.Native.Nat.{◌+◌, ◌-◌, ◌/◌, ◌<◌, ◌≤◌, suc, zero, ℕ}
use native.Mathlib.Nat.{add-zero}
use native.Mathlib.Numerals.{add-one}
use native.Mathlib.Omega.{arith}
use lib.Dec.{eqb, ltb}
use lib.ListN.{drop, drop_of_length-le, get_or, length, length-append, length-drop, length-take, replicate, set, take}
use lib.Seq.{append_snoc, drop-drop, drop-set-lt, get_or-drop, get_or-take, length-take-le, set_split, take-append_seam, take-suc-set}
use Rattle.lists.specs.Lists.{is_empty, over}
use Rattle.lists.proofs.Tests.{or_split}
use Rattle.spec.specs.Code.{AllNoted, heads_before, heads_noted, noting}
use Rattle.spec.specs.Kind.{Kind, constraint, field, is_member, member, projector, section_of, unknown}
use Rattle.spec.specs.Record.{Record, groups, heads_from, heads_of, member_run, record_at, records_of, unless_inside, unless_member, while_member}
use Rattle.spec.specs.Refusal.{Context, Refused, after_head, file_fault, first_true, head_tests, not_due, refuse, unknown_kind, unless_refused}
use Rattle.spec.proofs.Fields.{length_records, records_from}
use Rattle.spec.proofs.Heads.{past, past_led, past_members_lem}
use Rattle.spec.proofs.Refusals.{first_true-none, refuse-zero}
use Rattle.spec.proofs.Runs.{run_length}

-- ---- noting
-- Before the first record.
pub noting_first : (file heads : List ℕ) → noting file heads 0 0 ≡ over (heads_of file) heads
unfolding heads_of
noting_first file heads = refl

-- At a record.
pub here : (file : List ℕ) (i : ℕ) → i < length file / 32 → (b : Bool) → is_member (record_at file i).kind ≡ b → heads_from i (drop i (records_of file)) ≡ unless_inside b i (heads_from (suc i) (drop (suc i) (records_of file)))
here file i inside b e = ap (heads_from i) (records_from file i inside) ∙ ap (λ (t : Bool). unless_inside t i (heads_from (suc i) (drop (suc i) (records_of file)))) e

module _ (file heads : List ℕ) (count : ℕ) where
  module _ (i : ℕ) where
    pub noting_member : i < length file / 32 → is_member (record_at file i).kind ≡ true → noting file heads count (i + 1) ≡ noting file heads count i
    noting_member inside e = rw (add-one i) (ap (λ (l : List ℕ). over (take count heads ++ l) heads) (sym (here file i inside true e)))

    -- The places as they are after another is noted.
    one_more : (rest : List ℕ) → count < length heads → over (take (count + 1) (set heads count i) ++ rest) (set heads count i) ≡ over (take count heads ++ (i ∷ rest)) heads
    one_more rest l =
        let new = take count heads ++ (i ∷ rest) in
        let front : take (count + 1) (set heads count i) ++ rest ≡ new =
        rw (add-one count) (ap (λ (l : List ℕ). l ++ rest) (take-suc-set heads count i l) ∙ append_snoc (take count heads) i rest)
        in
        let long : count < length new = omega (arith, length-append (take count heads) (i ∷ rest), length-take-le count heads (omega arith)) in
        ap (λ (l : List ℕ). over l (set heads count i)) front ∙ ap (λ (l : List ℕ). new ++ l) (drop-set-lt (length new) heads count i long)

    pub noting_head : i < length file / 32 → is_member (record_at file i).kind ≡ false → count < length heads → noting file (set heads count i) (count + 1) (i + 1) ≡ noting file heads count i
    noting_head inside e l = rw (add-one i) (one_more (heads_from (suc i) (drop (suc i) (records_of file))) l ∙ ap (λ (l : List ℕ). over (take count heads ++ l) heads) (sym (here file i inside false e)))

    -- after the last record
    pub noting_end : i ≡ length file / 32 → count < length heads → set heads count i ≡ noting file heads count i
    noting_end is l =
        let none : drop i (records_of file) ≡ [] = drop_of_length-le (records_of file) {i = i} (omega (arith, length_records file)) in
        let long : suc count ≡ length (take count heads ++ (i ∷ [])) = omega (arith, length-append (take count heads) (i ∷ []), length-take-le count heads (omega arith)) in
        set_split heads count i l ∙ sym (append_snoc (take count heads) i (drop (suc count) heads))
        ∙ ap (λ (k : ℕ). (take count heads ++ (i ∷ [])) ++ drop k heads) long ∙ ap (λ (rs : List Record). over (take count heads ++ heads_from i rs) heads) (sym none)

  -- The members passed at once.
  runs : (d i : ℕ) → i + d ≤ length file / 32 → ((j : ℕ) → i ≤ j → j < i + d → is_member (record_at file j).kind ≡ true) → noting file heads count (i + d) ≡ noting file heads count i
  runs zero i l each = ap (noting file heads count) (add-zero i)
  runs (suc d) i l each =
      let e : i + suc d ≡ i + 1 + d = omega arith in
      ap (noting file heads count) e ∙ runs d (i + 1) (omega arith) (λ j g k. each j (omega arith) (omega arith)) ∙ noting_member i (omega arith) (each i (omega arith) (omega arith))

  pub noting_run : (i k : ℕ) → i ≤ k → k ≤ length file / 32 → ((j : ℕ) → i ≤ j → j < k → is_member (record_at file j).kind ≡ true) → noting file heads count k ≡ noting file heads count i
  noting_run i k g inside each =
      let e : k ≡ i + (k - i) = omega arith in
      ap (noting file heads count) e ∙ runs (k - i) i (omega arith) (λ j a b. each j a (omega arith))

-- So all are noted in the end, where the file is not refused.
pub accepted_noted : (file heads old : List ℕ) → file_fault file ≡ none → heads ≡ heads_noted file old → AllNoted file heads
accepted_noted file heads old fine e =
    let places = heads_of file in
    let noted = e ∙ ap (λ (o : Option Refused). unless_refused o (over places old) (replicate (length old) 0)) fine in
    ap (take (length places)) noted ∙ take-append_seam places (drop (length places) old)

-- What holds of a value holds of a result that has it.
pub if-same : {T E : Type 0} (r : Result T E) (x : T) (P : T → Type 0) → P x → IfOk r (λ y. y ≡ x) → IfOk r P
if-same (Ok y) x P p e = subst P (sym e) p
if-same (Err z) x P p e = tt

-- ---- how many are noted
-- Before a head without a fault stands no projector, and one head more after it.
pub head_counted : (k : Kind) (c : Context) (h : Record) (i : ℕ) → is_member k ≡ false → none ≡ refuse (first_true 2 (head_tests k c h)) i → (heads_before c ≡ c.fields + c.constraints) × (heads_before (after_head k c) ≡ c.fields + c.constraints + 1)
head_counted k c h i m e =
    let tests = first_true-none 1 (head_tests k c h) (refuse-zero _ i (sym e)) in
    go k m tests.0 (or_split (ltb (section_of k) c.section) (eqb c.section 2) (or_split (ltb (section_of k) c.section || eqb c.section 2) (not_due k c.fields h) tests.1.1.0).0).1
  where
    go : (k : Kind) → is_member k ≡ false → unknown_kind k h ≡ false → eqb c.section 2 ≡ false → (heads_before c ≡ c.fields + c.constraints) × (heads_before (after_head k c) ≡ c.fields + c.constraints + 1)
    go field m u s = rw s (omega arith, omega arith)
    go unknown m u s = absurd (true≢false u)
    go (constraint k) m u s = rw s (omega arith, omega arith)
    go (projector k) m u s = rw s (omega arith, omega arith)
    go (member k) m u s = absurd (true≢false m)

-- ---- going from head to head
-- Members are passed.
skip : (i : ℕ) (rs : List Record) → heads_from i rs ≡ heads_from (i + length (member_run rs)) (past rs)
skip i [] = ap (λ (k : ℕ). k ∷ []) (sym (add-zero i))
skip i (m ∷ ms) = go (is_member m.kind) refl (skip (suc i) ms)
  where
    go : (b : Bool) → is_member m.kind ≡ b → heads_from (suc i) ms ≡ heads_from (suc i + length (member_run ms)) (past ms) → heads_from i (m ∷ ms) ≡ heads_from (i + length (member_run (m ∷ ms))) (past (m ∷ ms))
    go true e rest = let k : suc i + length (member_run ms) ≡ i + suc (length (member_run ms)) = omega arith in rw e (rest ∙ ap (λ (n : ℕ). heads_from n (past ms)) k)
    go false e rest =
        let none : member_run (m ∷ ms) ≡ [] = ap (λ (b : Bool). while_member b m (member_run ms)) e in
        sym (ap (λ (run : List Record). heads_from (i + length run) (drop (length run) (m ∷ ms))) none ∙ ap (λ (k : ℕ). heads_from k (m ∷ ms)) (add-zero i))

-- Where no member stands in front, the first place is the first record's.
first_place : (i : ℕ) (rs : List Record) → member_run rs ≡ [] → heads_from i rs ≡ i ∷ drop 1 (heads_from i rs)
first_place i [] e = refl
first_place i (m ∷ ms) e = go (is_member m.kind) refl
  where
    go : (b : Bool) → is_member m.kind ≡ b → heads_from i (m ∷ ms) ≡ i ∷ drop 1 (heads_from i (m ∷ ms))
    go true t = absurd (true≢false (ap is_empty (sym (rw t at e))))
    go false t = rw t refl

-- How many places there are.
pub places_long : (i : ℕ) (rs : List Record) → length (heads_from i rs) ≡ suc (length (groups rs))
places_long i [] = refl
places_long i (m ∷ ms) = go (is_member m.kind) (places_long (suc i) ms)
  where
    go : (b : Bool) → length (heads_from (suc i) ms) ≡ suc (length (groups ms)) → length (unless_inside b i (heads_from (suc i) ms)) ≡ suc (length (unless_member b m (member_run ms) (groups ms)))
    go true e = e
    go false e = ap suc e

module _ (file : List ℕ) where
  -- The first place from record i on is behind the members that stand there.
  pub place_here : (i : ℕ) → heads_from i (drop i (records_of file)) ≡ (i + run_length file i) ∷ drop 1 (heads_from i (drop i (records_of file)))
  place_here i =
      let rs = drop i (records_of file) in
      let p = i + run_length file i in
      let e = skip i rs in
      e ∙ first_place p (past rs) (past_led rs) ∙ ap (λ (l : List ℕ). p ∷ drop 1 l) (sym e)

  pub heads_begin : drop 0 (heads_of file) ≡ heads_from 0 (drop 0 (records_of file))
  unfolding heads_of
  heads_begin = refl

  module _ (heads : List ℕ) (i count : ℕ) (noted : AllNoted file heads) (inside : i < length file / 32) (head : is_member (record_at file i).kind ≡ false)
      (at : drop count (heads_of file) ≡ heads_from i (drop i (records_of file)))
    where
      abbrev next : ℕ
      next = i + 1 + run_length file (suc i)

      -- the places from the next head on
      pub places_on : drop (count + 1) (heads_of file) ≡ heads_from next (drop next (records_of file))
      places_on =
          let k : suc i + run_length file (suc i) ≡ next = omega arith in
          sym (drop-drop 1 count (heads_of file)) ∙ ap (drop 1) (at ∙ here file i inside false head)
          ∙ skip (suc i) (drop (suc i) (records_of file)) ∙ ap₂ heads_from k (past_members_lem file i next refl)

      led : member_run (drop next (records_of file)) ≡ []
      led = ap member_run (sym (past_members_lem file i next refl)) ∙ past_led (drop (suc i) (records_of file))

      -- the next head
      pub next_place : (count + 1 < length heads) × (get_or heads (count + 1) 0 ≡ next)
      next_place =
          let h = heads_of file in
          let e = places_on ∙ first_place next (drop next (records_of file)) led in
          let l : count + 1 < length h = omega (arith, ap length e, length-drop (count + 1) h) in
          let room : length h ≤ length heads = omega (arith, ap length noted, length-take (length h) heads) in
          let read : get_or h (count + 1) 0 ≡ next = ap (λ (k : ℕ). get_or h k 0) (sym (add-zero (count + 1))) ∙ sym (get_or-drop (count + 1) h 0 0) ∙ ap (λ (l : List ℕ). get_or l 0 0) e in
          (omega arith, sym (get_or-take (length h) heads (count + 1) 0 l) ∙ ap (λ (l : List ℕ). get_or l (count + 1) 0) noted ∙ read)
