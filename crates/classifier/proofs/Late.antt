-- 14 and 15, and what page answers and leaves with its refusals and without.
use Rattle.std.specs.Prelude.{Err, Ok, OnErr, Result}
use mathlib.Core.Bool.{Bool, ◌&&◌, cond, false, false≢true, not, true}
use mathlib.Core.List.{List, []}
use mathlib.Core.Option.{Option, get_or, none, some}
use mathlib.Core.Path.{◌∙◌, ◌≡◌, ap, refl, subst, sym}
use Prim.Native.Nat.{◌<◌, ◌≤◌, suc, zero, ℕ}
use native.Mathlib.Nat.{zero-min}
use native.Mathlib.Omega.{arith}
use lib.Dec.{ltb}
use lib.IntN.{pos, ℤ}
use lib.ListN.{length, replicate}
use Rattle.lists.proofs.Tests.{leb_yes}
use Rattle.spec.specs.Record.{decoded}
use Rattle.spec.specs.Refusal.{Answer, Refused, ◌▷◌, accepted, answer, file_fault, refuse, refuse_if, refused, unless_refused}
use Rattle.spec.specs.Spec.{Spec}
use Rattle.spec.proofs.Named.{width}
use Rattle.compose.specs.Code.{MaybeMap, Opened, Planned, as_engine, plan_in, sound_number}
use Rattle.compose.specs.Plans as plans
use Rattle.compose.specs.Plans.{as_plan}
use Rattle.compose.specs.declared.places.Span.{Span}
use Rattle.compose.specs.Tuples.{Engine, zeros}
use Rattle.compose.specs.Walk.{Plan, plan_of}
use Rattle.compose.proofs.Found.{no_tuple}
use Rattle.compose.proofs.Walk.{Ready, plan_width}
use Rattle.evaluate.specs.Code.{checks_of, unsettled}
use Rattle.spec.specs.declared.refusal.Fault.{Fault}
use Rattle.spec.specs.Code.{as_refused, fault_number}
use Rattle.spec.specs.declared.refusal.Refusal.{Refusal}
use Rattle.classifier.specs.declared.tabled.Prepared.{Prepared}
use Rattle.classifier.specs.declared.writing.Page as code
use Rattle.classifier.specs.Code.{Outcome, PageIs, as_page, is_start, writing_fault, late_number, paged, refused_whole, refused_with, rules_of}
use Rattle.classifier.specs.Count.{count_fault, scratch_after}
use Rattle.classifier.specs.Page.{Page, Start, after_tuple, beginning, due, due_tuples, is_none, output_short, page_answer, page_fault, page_of, page_output, page_words, words_of}
use Rattle.classifier.proofs.Answered.{fault-some, fault_file, refuse-some}
use Rattle.classifier.proofs.Starts.{Wide, due-none, due_start, due_start-none}
use Rattle.classifier.proofs.Walked.{groups_opened, walking_ready}
use Rattle.lists.specs.Lists.{over}
use Rattle.spec.proofs.Numbered.{file_low, number_of}

-- ---- 14 and 15
module _ (engine : Engine) (s : Spec) (room : ℕ) (start : Start) where
  late_start : (p : Plan) → 0 ≡ late_number p room start → is_start p start ≡ true
  late_start p e = go (ltb 0 (length p.lists) && ltb room (words_of (length p.lists))) (is_start p start) (sym e)
    where
      go : (short st : Bool) → ◌≡◌ {A = ℕ} (cond short 14 (cond st 0 15)) 0 → st ≡ true
      go true st e = absurd (omega arith)
      go false true e = refl
      go false false e = absurd (omega arith)

  -- 14 and 15, by the plan.
  module _ (p : Plan) (is : p ≡ plan_of engine s) (none-due : is_none (due engine s start) ≡ not (is_start p start)) where
    late_is : writing_fault engine s room start ≡ refuse (late_number p room start) 0
    late_is = rw (none-due, wide) (go (ltb 0 (length s.fields) && ltb room (words_of (length s.fields))) (is_start p start))
      where
        wide : length p.lists ≡ length s.fields
        wide = ap (λ (q : Plan). length q.lists) is ∙ plan_width engine s

        go : (short st : Bool) → refuse_if short 14 ▷ refuse_if (not st) 15 ≡ refuse (cond short 14 (cond st 0 15)) 0
        go true st = refl
        go false true = refl
        go false false = refl

    late_number_lem : (number : ℕ) → number ≡ late_number p room start → ¬ (number ≡ 0) → writing_fault engine s room start ≡ some (refused_with number)
    late_number_lem number e h = late_is ∙ ap (λ (k : ℕ). refuse k 0) (sym e) ∙ refuse-some number 0 h

    late_outcome : {A : Type 0} (r : Result A Fault) → plans.number_of r ≡ late_number p room start → Outcome refused_whole (writing_fault engine s room start) r (λ u. is_start p start ≡ true)
    late_outcome (Ok u) e = (late_is ∙ ap (λ (k : ℕ). refuse k 0) (sym e), late_start p e)
    late_outcome (Err f) e = late_number_lem (fault_number f) e (fault-some f)

  -- The scratch is as the other refusals leave it.
  late_clears : (f : Option Refused) (old : List ℤ) → scratch_after (f ▷ writing_fault engine s room start) old ≡ scratch_after f old
  late_clears none old = go (output_short s room) (is_none (due engine s start))
    where
      go : (a b : Bool) → scratch_after (refuse_if a 14 ▷ refuse_if b 15) old ≡ replicate (length old) (pos 0)
      go true b = refl
      go false true = refl
      go false false = refl
  late_clears (some r) old = refl

-- ---- without fields
pub fieldless : (engine : Engine) (s : Spec) (room : ℕ) (old : List ℤ) (start : Start) → width s ≡ 0 → is_start (plan_of engine s) start ≡ true
    → (record { count = 0; last = zeros 32; done = true } ≡ page_of s room (due_tuples engine s start) start) × (old ≡ over (page_words engine s room (due_tuples engine s start)) old)
unfolding page_of page_words
fieldless engine s room old beginning e h = rw (ap (λ (o : Option (List (List ℕ))). get_or o []) (due-none engine s e), zero-min) (refl, refl)
fieldless engine s room old (after_tuple t) e h = let z : ◌≡◌ {A = Bool} false true = sym (no_tuple engine s e t) ∙ h in absurd (false≢true z)

-- ---- a start that is none
module _ (engine : Engine) (file heads : List ℕ) (c : ℕ) (scratch : List ℤ) (lists : List Span) (maps : List MaybeMap) (order : List ℕ) (opened : Opened file heads (length order) c) (planned : Planned engine file scratch lists maps order) (sound : sound_number engine (decoded file) ≡ 0) where
  none-due : (start : Start) → Wide start → is_none (due engine (decoded file) start) ≡ not (is_start (plan_in file scratch lists maps order) start)
  none-due start l = go (length order) refl ∙ ap (λ (p : Plan). not (is_start p start)) (sym planned.plan-is)
    where
      ready : 0 < length order → Ready engine (decoded file)
      ready h = walking_ready {checks = checks_of file (rules_of heads (length order) c) c} {due = unsettled file (rules_of heads (length order) c) scratch lists maps c}
          (record { fielded = h; opened = opened; planned = planned; sound = sound; checks-are = refl; due-are = refl })

      go : (n : ℕ) → length order ≡ n → is_none (due engine (decoded file) start) ≡ not (is_start (plan_of engine (decoded file)) start)
      go zero e = due_start-none engine (decoded file) (opened.fields_many ∙ e) start
      go (suc n) e = due_start engine (decoded file) (ready (omega arith)) (omega (arith, opened.fields_many, planned.plan-in.places.few)) start l

-- What 14 and 15 answer, by the plan.
pub prepared_late : (p : Prepared) (room : ℕ) (start : Start) → Wide start → {A : Type 0} (r : Result A Fault) → plans.number_of r ≡ late_number (as_plan p.plan) room start
    → Outcome refused_whole (writing_fault (as_engine p.engine) (decoded p.plan.file.now) room start) r (λ u. is_start (as_plan p.plan) start ≡ true)
prepared_late p room start wide r e =
    let engine = as_engine p.engine in
    let file = p.plan.file.now in
    late_outcome engine (decoded file) room start (as_plan p.plan) p.planned.plan-is (none-due engine file p.groups.heads.now p.groups.constraints p.plan.scratch.now p.plan.lists.now p.plan.maps.now p.plan.order.now (groups_opened p.groups file (length p.plan.order.now) p.file_is p.width_is) p.planned p.sound start wide) r e

-- ---- a whole file
module _ (engine : Engine) (file : List ℕ) (start : Start) (old scratch : List ℤ) where
  -- The answer, the output and the scratch.
  abbrev pub Leaves : Answer Refused Page → List ℤ → List ℤ → Type 0
  Leaves a out left = (a ≡ page_answer engine (length scratch) (length old) file start) × (out ≡ page_output engine (length scratch) file start old) × (left ≡ scratch_after (page_fault engine (length scratch) (length old) file start) scratch)

  leaves_by : (f : Option Refused) → page_fault engine (length scratch) (length old) file start ≡ f → (a : Answer Refused Page) (out left : List ℤ)
      → a ≡ answer f (page_of (decoded file) (length old) (due_tuples engine (decoded file) start) start)
      → out ≡ unless_refused f (over (page_words engine (decoded file) (length old) (due_tuples engine (decoded file) start)) old) old
      → left ≡ scratch_after f scratch → Leaves a out left
  unfolding page_answer page_output
  leaves_by f e a out left ea eo el = (
    ea ∙ ap (λ (o : Option Refused). answer o (page_of (decoded file) (length old) (due_tuples engine (decoded file) start) start)) (sym e),
    eo ∙ ap (λ (o : Option Refused). unless_refused o (over (page_words engine (decoded file) (length old) (due_tuples engine (decoded file) start)) old) old) (sym e),
    el ∙ ap (λ (o : Option Refused). scratch_after o scratch) (sym e),
  )

  -- 1 to 10
  pub leaves_file : (r : Refused) → file_fault file ≡ some r → Leaves (refused r) old scratch
  unfolding page_fault
  leaves_file r e =
      let low : r.number ≤ 11 = let l = subst (λ (o : Option Refused). number_of o ≤ 10) e (file_low file) in omega arith in
      leaves_by (some r) (rw (fault_file engine (length scratch) file r e)) (refused r) old scratch refl refl (ap (λ (b : Bool). cond b scratch (replicate (length scratch) (pos 0))) (sym (leb_yes r.number 11 low)))

  -- The others, or the page, by what writing gave.
  module _ (out left : List ℤ) (cleared : left ≡ scratch_after (count_fault engine (length scratch) file) scratch) where
    cleared_late : left ≡ scratch_after (count_fault engine (length scratch) file ▷ writing_fault engine (decoded file) (length old) start) scratch
    cleared_late = cleared ∙ sym (late_clears engine (decoded file) (length old) start (count_fault engine (length scratch) file) scratch)

    pub leaves_outcome : (r : Result code.Page Refusal) → Outcome as_refused (count_fault engine (length scratch) file ▷ writing_fault engine (decoded file) (length old) start) r (λ p. PageIs engine file start old p out) → OnErr r (out ≡ old) → Leaves (as_page r) out left
    unfolding page_fault
    leaves_outcome (Ok p) o k = leaves_by none o.0 (accepted (paged p)) out left (ap accepted o.1.answer) o.1.out (cleared_late ∙ ap (λ (f : Option Refused). scratch_after f scratch) o.0)
    leaves_outcome (Err r) o k = leaves_by (some (as_refused r)) o (refused (as_refused r)) out left refl k (cleared_late ∙ ap (λ (f : Option Refused). scratch_after f scratch) o)
