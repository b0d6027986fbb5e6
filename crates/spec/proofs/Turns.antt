-- Judging record by record, where the records lie in a file: what one turn leaves.
use Rattle.std.specs.Prelude.{Err, Ok, Result}
use mathlib.Core.Bool.{cond, false, true, true≢false}
use mathlib.Core.List.{List, [], ◌++◌, ◌∷◌}
use mathlib.Core.Option.{Option, none, some}
use mathlib.Core.Path.{◌∙◌, ◌≡◌, ap, ap₂, refl, sym}
use Prim.Native.Nat.{◌+◌, ◌-◌, ◌/◌, ◌<◌, ◌≤◌, suc, zero, ℕ}
use native.Mathlib.Numerals.{add-one}
use native.Mathlib.Omega.{arith}
use lib.Dec.{eqb}
use lib.ListN.{drop, drop_of_length-le, length, take}
use lib.Seq.{drop-drop}
use Rattle.lists.specs.Lists.{is_empty}
use Rattle.spec.specs.Code.{RefusedAt, after_in, as_context, as_fault, fault_number, left, left_at, number_of, refusal, section_number}
use Rattle.spec.specs.Kind.{Kind, constraint, field, is_member, member, projector, section_of, unknown}
use Rattle.spec.specs.Record.{Record, record_at, records_of}
use Rattle.spec.specs.Refusal.{Context, Refused, ◌▷◌, after_head, belongs, context, first_true, head_tests, list_fault, member_tests, misfiled_number, overfull, records_fault, refuse}
use Rattle.spec.proofs.Fields.{length_records, records_from}
use Rattle.spec.proofs.Left.{first_head, first_member, first_none, left_end, left_head, left-member, left_stray}
use Rattle.spec.proofs.Refusals.{first_true-none, refuse-zero}
use Rattle.spec.specs.declared.refusal.Fault.{Fault}
use Rattle.spec.specs.declared.refusal.Fault.TheVariants as faults
use Rattle.spec.specs.declared.refusal.Refusal.{Refusal}
use Rattle.spec.specs.declared.scan.State.{State}

drop_front : {A : Type 0} (n : ℕ) (l : List A) (x : A) (rest : List A) → drop n l ≡ x ∷ rest → take n l ++ (x ∷ []) ≡ take (suc n) l
drop_front zero l x rest e = sym (ap (take 1) e)
drop_front (suc n) [] x rest e = absurd (true≢false (ap is_empty e))
drop_front (suc n) (y ∷ l) x rest e = ap (λ k. y ∷ k) (drop_front n l x rest e)

-- ---- the context after a head, by its section
pub after_class : (k : Kind) (c : Context) → after_head k c ≡ after_in (is_member k) (section_of k) c
after_class field c = ap (λ (n : ℕ). context n c.constraints c.section) (sym (add-one c.fields))
after_class unknown c = refl
after_class (constraint k) c = ap (λ (n : ℕ). context c.fields n 1) (sym (add-one c.constraints))
after_class (projector k) c = refl
after_class (member k) c = refl

-- ---- a turn
-- The records after record i.
abbrev pub later : List ℕ → ℕ → List Record
later file i = drop (i + 1) (records_of file)

module _ (file : List ℕ) (st : State) (h : Record) (before : List Record) (i : ℕ)
    (is-h : h ≡ record_at file st.head)
    (is-before : before ≡ take (i - (st.head + 1)) (drop (st.head + 1) (records_of file)))
  where
    -- after the last record; closed is what the list is refused with
    pub at_end : (closed : Option Refused) → closed ≡ refuse (list_fault h.kind h before) (st.head + 1) → length file / 32 ≤ i → left_at file st i ≡ closed ▷ cond (eqb (section_number st.context.section) 2) none (refuse 4 (i + 1))
    at_end closed w l =
        let e : length (records_of file) ≤ i = omega (arith, length_records file) in
        rw (sym is-h, sym is-before, drop_of_length-le (records_of file) e, w) (left_end (as_context st.context) h (st.head + 1) before (i + 1))

    module _ (m : Record) (is_m : m ≡ record_at file i) (inside : i < length file / 32) where
      -- record i and what follows
      here : left_at file st i ≡ left (as_context st.context) h (st.head + 1) before (m ∷ later file i) (i + 1)
      here =
          rw (sym is-h, sym is-before)
          (ap (λ l. left (as_context st.context) h (st.head + 1) before l (i + 1)) (records_from file i inside ∙ ap₂ (λ (x : Record) (k : ℕ). x ∷ drop k (records_of file)) (sym is_m) (sym (add-one i))))

      -- own is what it is refused with itself
      pub at_head : (closed own : Option Refused) → closed ≡ refuse (list_fault h.kind h before) (st.head + 1) → own ≡ refuse (first_true 2 (head_tests m.kind (as_context st.context) m)) (i + 1) → is_member m.kind ≡ false
          → left_at file st i ≡ closed ▷ (own ▷ left (after_head m.kind (as_context st.context)) m (i + 1) [] (later file i) (i + 1 + 1))
      at_head closed own w o e = rw (w, o) (here ∙ left_head (as_context st.context) h (st.head + 1) before m (later file i) (i + 1) e ∙ rw (add-one (i + 1)))

      pub at_stray : (closed own : Option Refused) → closed ≡ refuse (list_fault h.kind h before) (st.head + 1) → own ≡ refuse (misfiled_number m) (i + 1) → is_member m.kind ≡ true → belongs h m ≡ false → left_at file st i ≡ closed ▷ own
      at_stray closed own w o e b = rw (w, o) (here ∙ left_stray (as_context st.context) h (st.head + 1) before m (later file i) (i + 1) e b)

      pub at_member : (own : Option Refused) → own ≡ refuse (first_true 2 (member_tests m.kind st.context.fields h before m)) (i + 1) → st.head < i → is_member m.kind ≡ true → belongs h m ≡ true
          → left_at file st i ≡ own ▷ left_at file st (i + 1)
      at_member own o l e b = rw o (here ∙ left-member (as_context st.context) h (st.head + 1) before m (later file i) (i + 1) e b ∙ ap (λ x. refuse (first_true 2 (member_tests m.kind st.context.fields h before m)) (i + 1) ▷ x) next)
        where
          more : before ++ (m ∷ []) ≡ take (i + 1 - (st.head + 1)) (drop (st.head + 1) (records_of file))
          more =
              let n = i - (st.head + 1) in
              let longer : suc n ≡ i + 1 - (st.head + 1) = omega arith in
              let at : st.head + 1 + n ≡ i = omega arith in
              ap (λ k. k ++ (m ∷ [])) is-before
              ∙ drop_front n (drop (st.head + 1) (records_of file)) m (drop (suc i) (records_of file))
              (drop-drop n (st.head + 1) (records_of file) ∙ ap (λ (k : ℕ). drop k (records_of file)) at ∙ records_from file i inside ∙ ap (λ x. x ∷ drop (suc i) (records_of file)) (sym is_m))
              ∙ ap (λ (k : ℕ). take k (drop (st.head + 1) (records_of file))) longer

          next : left (as_context st.context) h (st.head + 1) (before ++ (m ∷ [])) (later file i) (suc (i + 1)) ≡ left_at file st (i + 1)
          next = rw (sym is-h, sym more, add-one (i + 1))

-- the list of the head that was just read
pub at_opened : (file : List ℕ) (c : Context) (m : Record) (st : State) → m ≡ record_at file st.head → as_context st.context ≡ c
    → left c m (st.head + 1) [] (later file st.head) (st.head + 1 + 1) ≡ left_at file st (st.head + 1)
at_opened file c m st e r =
    let none : st.head + 1 - (st.head + 1) ≡ 0 = omega arith in
    rw (sym r, none, sym e)

-- ---- the first record
pub at_none : (file : List ℕ) → length file < 32 → records_fault (records_of file) ≡ refuse 4 1
at_none file l = go (records_of file) (length_records file)
  where
    go : (rs : List Record) → length rs ≡ length file / 32 → records_fault rs ≡ refuse 4 1
    go [] e = first_none
    go (r ∷ rs) e = absurd (omega arith)

module _ (file : List ℕ) (m : Record) (is_m : m ≡ record_at file 0) (inside : 0 < length file / 32) where
  first : records_of file ≡ m ∷ later file 0
  first = records_from file 0 inside ∙ ap (λ x. x ∷ later file 0) (sym is_m)

  pub at_first_member : is_member m.kind ≡ true → records_fault (records_of file) ≡ refuse (misfiled_number m) 1
  at_first_member e = ap records_fault first ∙ first_member m (later file 0) e

  pub at_first_head : (own : Option Refused) → own ≡ refuse (first_true 2 (head_tests m.kind (context 0 0 0) m)) 1 → is_member m.kind ≡ false
      → records_fault (records_of file) ≡ own ▷ left (after_head m.kind (context 0 0 0)) m 1 [] (later file 0) 2
  at_first_head own o e = rw o (ap records_fault first ∙ first_head m (later file 0) e)

-- A head without a fault finds room.
pub has_room : (k : Kind) (c : Context) (h : Record) (i : ℕ) → none ≡ refuse (first_true 2 (head_tests k c h)) i → overfull k c ≡ false
has_room k c h i e = (first_true-none 1 (head_tests k c h) (refuse-zero _ i (sym e))).1.1.1.0

-- A number that is a fault's is refused with that fault.
pub fault_refused : (f : Fault) (n i : ℕ) → fault_number f ≡ n → refuse n i ≡ some (refusal f i)
fault_refused f n i e = ap (λ (k : ℕ). refuse k i) (sym e) ∙ go f
  where
    go : (f : Fault) → refuse (fault_number f) i ≡ some (refusal f i)
    go faults.WrongLength = refl
    go faults.UnknownKind = refl
    go faults.StrayByte = refl
    go faults.OutOfOrder = refl
    go faults.TooMany = refl
    go faults.NoSuchField = refl
    go faults.OffScale = refl
    go faults.EmptyDomain = refl
    go faults.BadPacking = refl
    go faults.TooLarge = refl
    go faults.ScratchShort = refl
    go faults.CyclicMaps = refl
    go faults.ChildlessKey = refl
    go faults.OutputShort = refl
    go faults.NotEmitted = refl
    go faults.NotASum = refl

-- What a record was judged to have, refused at it.
pub refused_at : (judged : Result (Unit {0}) Fault) (i : ℕ) (r : Result (Unit {0}) Refusal) → RefusedAt judged i r → as_fault r ≡ refuse (number_of judged) i
refused_at (Ok x) i r e = ap as_fault e
refused_at (Err f) i (Ok x) e = absurd e
refused_at (Err f) i (Err r) e = ap some e ∙ sym (fault_refused f (fault_number f) i refl)
