-- The tuples that a page goes through: each is an emitted one and zeros, with its row, and those from it on are left.
use Rattle.std.specs.Prelude.{None, Some}
use mathlib.Core.Bool.{Bool, cond, false, true}
use mathlib.Core.List.{List, [], ◌++◌, ◌∷◌}
use mathlib.Core.Option
use mathlib.Core.Option.{Option}
use mathlib.Core.Path.{◌∙◌, ◌≡◌, ap, ap₂, refl, subst, sym}
use Prim.Native.Nat.{◌+◌, ◌-◌, ◌≤◌, ℕ}
use native.Mathlib.Omega.{arith}
use lib.IntN.{ℤ}
use lib.ListN.{drop, get_or, length, length-append, length-drop, length-replicate, take, take-append-drop}
use lib.Seq.{drop_at, take_at}
use Rattle.lists.specs.Lists.{all, upto}
use Rattle.spec.specs.Record.{decoded}
use Rattle.spec.specs.Spec.{Spec}
use Rattle.spec.proofs.Named.{width}
use Rattle.compose.specs.Code.{MaybeMap, Stands, plan_in}
use Rattle.compose.specs.declared.places.Span.{Span}
use Rattle.compose.specs.Plans.{next_tuple}
use Rattle.compose.specs.Tuples.{Engine, zeros, padded}
use Rattle.compose.specs.Walk.{Placed, Plan, first_tuple, has_tuple_after, index_holds, is_tuple, length_at, plan_of, tuple_after}
use Rattle.compose.proofs.Emitted.{held}
use Rattle.compose.proofs.Found.{first_held, next_held, tuple_held, tuple_placed, tuple_whole}
use Rattle.compose.proofs.Rows.{length-values}
use Rattle.compose.proofs.Stepping.{padded_back}
use Rattle.compose.proofs.Walk.{Ready, from_tuple, held_holds, plan_width, walk_on, walk_start, walk_step}
use Rattle.classifier.specs.Code.{Walking, first_from, is_start}
use Rattle.classifier.specs.Page.{Start, after_tuple, beginning, due_tuples}
use Rattle.classifier.proofs.Paging.{next_left}
use Rattle.classifier.proofs.Starts.{Wide, due-after, due_first}
use Rattle.classifier.proofs.Walked.{walking_ready, walking_wide}

-- ---- a tuple of n fields in 32 numbers
abbrev pub Holding : Plan → ℕ → List ℕ → Type 0
Holding p n t = all (λ f. index_holds p f t (get_or t f 0)) (upto n) ≡ true

pub record Begun (p : Plan) (n : ℕ) (tuple : List ℕ) : Type 0 where
  pub long : length tuple ≡ 32
  pub zeros-after : drop n tuple ≡ zeros (32 - n)
  pub placed : Placed (length p.lists) (length_at p) (take n tuple)
  pub holding : Holding p n (take n tuple)

-- The same with its row, and what is left of the tuples that are due.
pub record Going (p : Plan) (n : ℕ) (ts : List (List ℕ)) (count : ℕ) (tuple : List ℕ) (raw : List ℤ) : Type 0 where
  pub begun : Begun p n tuple
  pub wide : length raw ≡ 32
  pub stands : Stands p (take n tuple) (take n raw)
  pub left : drop count ts ≡ from_tuple p (take n tuple)

-- ---- on the engine's plan
module _ (engine : Engine) (s : Spec) (ready : Ready engine s) (few : width s ≤ 32) where
  abbrev plan : Plan
  plan = plan_of engine s

  narrow : (t : List ℕ) → Placed (length (plan_of engine s).lists) (length_at (plan_of engine s)) t → Placed (width s) (length_at (plan_of engine s)) t
  narrow t q = subst (λ (n : ℕ). Placed n (length_at plan) t) (plan_width engine s) q

  begun_of : (u rest : List ℕ) → Placed (width s) (length_at (plan_of engine s)) u → held engine s u ≡ true → rest ≡ zeros (32 - width s) → Begun (plan_of engine s) (width s) (u ++ rest)
  begun_of u rest q h z = record {
    long = length-append u rest ∙ ap₂ ◌+◌ q.long (ap length z ∙ length-replicate (32 - width s) 0) ∙ omega arith;
    zeros-after = drop_at u rest (width s) q.long ∙ z;
    placed = subst (Placed (length plan.lists) (length_at plan)) (sym front) (subst (λ (n : ℕ). Placed n (length_at plan) u) (sym (plan_width engine s)) q);
    holding = subst (Holding plan (width s)) (sym front) (sym (held_holds engine s u q.long) ∙ h);
  }
    where
      front : take (width s) (u ++ rest) ≡ u
      front = take_at u rest (width s) q.long

  begun_held : (t : List ℕ) → Begun (plan_of engine s) (width s) t → Placed (width s) (length_at (plan_of engine s)) (take (width s) t) × (held engine s (take (width s) t) ≡ true)
  begun_held t b = let q = narrow (take (width s) t) b.placed in (q, held_holds engine s (take (width s) t) q.long ∙ b.holding)

  begun_given : (t : List ℕ) → length t ≡ 32 → is_tuple (plan_of engine s) t ≡ true → Begun (plan_of engine s) (width s) t
  begun_given t l e =
      let q = tuple_placed engine s few t l e in
      subst (Begun plan (width s)) (tuple_whole engine s few t l e) (begun_of (take (width s) t) (zeros (32 - length (take (width s) t))) q (tuple_held engine s few t l e) (ap (λ (k : ℕ). zeros (32 - k)) q.long))

  begun_first : Begun (plan_of engine s) (width s) (padded (first_tuple (plan_of engine s)))
  begun_first = let q = walk_start engine s ready in begun_of (first_tuple plan) (zeros (32 - length (first_tuple plan))) q (first_held engine s ready few) (ap (λ (k : ℕ). zeros (32 - k)) q.long)

  begun_next : (t : List ℕ) → Begun (plan_of engine s) (width s) t → has_tuple_after (plan_of engine s) (take (width s) t) ≡ true
      → Begun (plan_of engine s) (width s) (tuple_after (plan_of engine s) (take (width s) t) ++ drop (width s) t)
  begun_next t b m = let h = begun_held t b in begun_of (tuple_after plan (take (width s) t)) (drop (width s) t) (walk_on engine s ready (take (width s) t) h.0 m) (next_held engine s ready few (take (width s) t) h.0 h.1 m) b.zeros-after

  next_padded : (t : List ℕ) → Begun (plan_of engine s) (width s) t → has_tuple_after (plan_of engine s) (take (width s) t) ≡ true
      → tuple_after (plan_of engine s) (take (width s) t) ++ drop (width s) t ≡ padded (tuple_after (plan_of engine s) (take (width s) t))
  next_padded t b m = padded_back (width s) (tuple_after plan (take (width s) t)) (drop (width s) t) (walk_on engine s ready (take (width s) t) (begun_held t b).0 m).long b.zeros-after

  -- The first tuple of a page.
  start_begun : (start : Start) → Wide start → is_start (plan_of engine s) start ≡ true → (u : List ℕ) → first_from (plan_of engine s) start ≡ Some u → Begun (plan_of engine s) (width s) u
  start_begun beginning l e u f = let z : padded (first_tuple plan) ≡ u = cc in subst (Begun plan (width s)) z begun_first
  start_begun (after_tuple t) l e u f = go (has_tuple_after plan (take (width s) t)) refl (ap (λ (n : ℕ). next_tuple plan (take n t)) (sym (plan_width engine s)) ∙ f)
    where
      go : (b : Bool) → has_tuple_after (plan_of engine s) (take (width s) t) ≡ b → cond b (Some (padded (tuple_after (plan_of engine s) (take (width s) t)))) None ≡ Some u → Begun (plan_of engine s) (width s) u
      go true m g = let b = begun_given t l e in let z : padded (tuple_after plan (take (width s) t)) ≡ u = cc in subst (Begun plan (width s)) (next_padded t b m ∙ z) (begun_next t b m)
      go false m g = absurd (cc)

  -- What is due is what the walker goes through from there, or nothing.
  start_due : (start : Start) → Wide start → is_start (plan_of engine s) start ≡ true → (u : List ℕ) → first_from (plan_of engine s) start ≡ Some u → due_tuples engine s start ≡ from_tuple (plan_of engine s) (take (width s) u)
  start_due beginning l e u f =
      let z : padded (first_tuple plan) ≡ u = cc in
      ap (λ (o : Option (List (List ℕ))). Option.get_or o []) (due_first engine s ready few)
      ∙ ap (from_tuple plan) (sym (take_at (first_tuple plan) (zeros (32 - length (first_tuple plan))) (width s) (walk_start engine s ready).long) ∙ ap (take (width s)) z)
  start_due (after_tuple t) l e u f =
      ap (λ (o : Option (List (List ℕ))). Option.get_or o []) (due-after engine s ready few t l e)
      ∙ go (has_tuple_after plan (take (width s) t)) refl (ap (λ (n : ℕ). next_tuple plan (take n t)) (sym (plan_width engine s)) ∙ f)
    where
      go : (b : Bool) → has_tuple_after (plan_of engine s) (take (width s) t) ≡ b → cond b (Some (padded (tuple_after (plan_of engine s) (take (width s) t)))) None ≡ Some u
          → cond b (from_tuple (plan_of engine s) (tuple_after (plan_of engine s) (take (width s) t))) [] ≡ from_tuple (plan_of engine s) (take (width s) u)
      go true m g =
          let q = walk_on engine s ready (take (width s) t) (begun_held t (begun_given t l e)).0 m in
          let z : padded (tuple_after plan (take (width s) t)) ≡ u = cc in
          ap (from_tuple plan) (sym (take_at (tuple_after plan (take (width s) t)) (zeros (32 - length (tuple_after plan (take (width s) t)))) (width s) q.long) ∙ ap (take (width s)) z)
      go false m g = absurd (cc)

  start_over : (start : Start) → Wide start → is_start (plan_of engine s) start ≡ true → first_from (plan_of engine s) start ≡ None → due_tuples engine s start ≡ []
  start_over beginning l e f = absurd (cc)
  start_over (after_tuple t) l e f =
      ap (λ (o : Option (List (List ℕ))). Option.get_or o []) (due-after engine s ready few t l e)
      ∙ go (has_tuple_after plan (take (width s) t)) (ap (λ (n : ℕ). next_tuple plan (take n t)) (sym (plan_width engine s)) ∙ f)
    where
      go : (b : Bool) → cond b (Some (padded (tuple_after (plan_of engine s) (take (width s) t)))) None ≡ None → cond b (from_tuple (plan_of engine s) (tuple_after (plan_of engine s) (take (width s) t))) [] ≡ []
      go true g = absurd (cc)
      go false g = refl

  -- ---- a turn
  module _ (ts : List (List ℕ)) (count : ℕ) (tuple : List ℕ) (raw : List ℤ) (g : Going (plan_of engine s) (width s) ts count tuple raw) where
    next_due : drop count ts ≡ take (width s) tuple ∷ cond (has_tuple_after (plan_of engine s) (take (width s) tuple)) (from_tuple (plan_of engine s) (tuple_after (plan_of engine s) (take (width s) tuple))) []
    next_due = g.left ∙ walk_step engine s ready (take (width s) tuple) (begun_held tuple g.begun).0

    turn_over : has_tuple_after (plan_of engine s) (take (width s) tuple) ≡ false → drop (count + 1) ts ≡ []
    turn_over e = next_left count ts (take (width s) tuple) _ next_due ∙ ap (λ (b : Bool). cond b (from_tuple plan (tuple_after plan (take (width s) tuple))) []) e

    turn : (u : List ℕ) (r : List ℤ) → has_tuple_after (plan_of engine s) (take (width s) tuple) ≡ true → u ≡ tuple_after (plan_of engine s) (take (width s) tuple) → Stands (plan_of engine s) u r
        → Going (plan_of engine s) (width s) ts (count + 1) (u ++ drop (width s) tuple) (r ++ drop (width s) raw)
    turn u r m eu st = record {
      begun = subst (λ (v : List ℕ). Begun plan (width s) (v ++ drop (width s) tuple)) (sym eu) (begun_next tuple g.begun m);
      wide = length-append r (drop (width s) raw) ∙ omega (arith, row-long, length-drop (width s) raw, g.wide);
      stands = subst (λ (v : List ℕ). Stands plan v (take (width s) (r ++ drop (width s) raw))) (sym front) (subst (Stands plan u) (sym (take_at r (drop (width s) raw) (width s) row-long)) st);
      left = next_left count ts (take (width s) tuple) _ next_due ∙ ap (λ (b : Bool). cond b (from_tuple plan (tuple_after plan (take (width s) tuple))) []) m ∙ ap (from_tuple plan) (sym (front ∙ eu));
    }
      where
        long : length u ≡ width s
        long = st.placed.long ∙ plan_width engine s

        row-long : length r ≡ width s
        row-long = ap length st.row_is ∙ length-values plan.lists u st.placed.long ∙ plan_width engine s

        front : take (width s) (u ++ drop (width s) tuple) ≡ u
        front = take_at u (drop (width s) tuple) (width s) long

-- ---- on a plan that lies in the file and the scratch
module _ {engine : Engine} {file heads : List ℕ} {c : ℕ} {checks asked : List ℕ} {scratch : List ℤ} {lists : List Span} {maps : List MaybeMap} {order : List ℕ} (w : Walking engine file heads c checks asked scratch lists maps order) where
  ready : Ready engine (decoded file)
  ready = walking_ready w

  many : length order ≡ width (decoded file)
  many = walking_wide w

  few : width (decoded file) ≤ 32
  few = omega (arith, many, w.planned.plan-in.places.few)

  -- What holds of the engine's plan and of its width holds of this plan.
  here : (P : Plan → ℕ → Type 0) → P (plan_of engine (decoded file)) (width (decoded file)) → P (plan_in file scratch lists maps order) (length order)
  here P x = subst (λ (p : Plan). P p (length order)) (sym w.planned.plan-is) (subst (P (plan_of engine (decoded file))) (sym many) x)

  there : (P : Plan → ℕ → Type 0) → P (plan_in file scratch lists maps order) (length order) → P (plan_of engine (decoded file)) (width (decoded file))
  there P x = subst (P (plan_of engine (decoded file))) many (subst (λ (p : Plan). P p (length order)) w.planned.plan-is x)

  pub going_begun : (start : Start) → Wide start → is_start (plan_in file scratch lists maps order) start ≡ true → (u : List ℕ) → first_from (plan_in file scratch lists maps order) start ≡ Some u → Begun (plan_in file scratch lists maps order) (length order) u
  going_begun start l = here (λ p n. is_start p start ≡ true → (u : List ℕ) → first_from p start ≡ Some u → Begun p n u) (start_begun engine (decoded file) ready few start l)

  pub going_due : (start : Start) → Wide start → is_start (plan_in file scratch lists maps order) start ≡ true → (u : List ℕ) → first_from (plan_in file scratch lists maps order) start ≡ Some u
      → due_tuples engine (decoded file) start ≡ from_tuple (plan_in file scratch lists maps order) (take (length order) u)
  going_due start l = here (λ p n. is_start p start ≡ true → (u : List ℕ) → first_from p start ≡ Some u → due_tuples engine (decoded file) start ≡ from_tuple p (take n u)) (start_due engine (decoded file) ready few start l)

  pub going_over : (start : Start) → Wide start → is_start (plan_in file scratch lists maps order) start ≡ true → first_from (plan_in file scratch lists maps order) start ≡ None → due_tuples engine (decoded file) start ≡ []
  going_over start l = here (λ p n. is_start p start ≡ true → first_from p start ≡ None → due_tuples engine (decoded file) start ≡ []) (start_over engine (decoded file) ready few start l)

  pub going_held : (t : List ℕ) → Begun (plan_in file scratch lists maps order) (length order) t
      → Placed (width (decoded file)) (length_at (plan_of engine (decoded file))) (take (length order) t) × (held engine (decoded file) (take (length order) t) ≡ true)
  going_held t b = rw many (begun_held engine (decoded file) ready few t (there (λ p n. Begun p n t) b))

  -- The 32 numbers are the tuple and zeros.
  pub going_padded : (t : List ℕ) → Begun (plan_in file scratch lists maps order) (length order) t → t ≡ padded (take (length order) t)
  going_padded t b = sym (take-append-drop (length order) t) ∙ padded_back (length order) (take (length order) t) (drop (length order) t) ((going_held t b).0.long ∙ sym many) b.zeros-after

  module _ (ts : List (List ℕ)) (count : ℕ) (tuple : List ℕ) (raw : List ℤ) (g : Going (plan_in file scratch lists maps order) (length order) ts count tuple raw) where
    going_there : Going (plan_of engine (decoded file)) (width (decoded file)) ts count tuple raw
    going_there = there (λ p n. Going p n ts count tuple raw) g

    pub going_next : drop count ts ≡ take (length order) tuple ∷ cond (has_tuple_after (plan_in file scratch lists maps order) (take (length order) tuple)) (from_tuple (plan_in file scratch lists maps order) (tuple_after (plan_in file scratch lists maps order) (take (length order) tuple))) []
    going_next = here (λ p n. drop count ts ≡ take n tuple ∷ cond (has_tuple_after p (take n tuple)) (from_tuple p (tuple_after p (take n tuple))) []) (next_due engine (decoded file) ready few ts count tuple raw going_there)

    pub going_last : has_tuple_after (plan_in file scratch lists maps order) (take (length order) tuple) ≡ false → drop (count + 1) ts ≡ []
    going_last = here (λ p n. has_tuple_after p (take n tuple) ≡ false → drop (count + 1) ts ≡ []) (turn_over engine (decoded file) ready few ts count tuple raw going_there)

    pub going_turn : (u : List ℕ) (r : List ℤ) → has_tuple_after (plan_in file scratch lists maps order) (take (length order) tuple) ≡ true → u ≡ tuple_after (plan_in file scratch lists maps order) (take (length order) tuple) → Stands (plan_in file scratch lists maps order) u r
        → Going (plan_in file scratch lists maps order) (length order) ts (count + 1) (u ++ drop (length order) tuple) (r ++ drop (length order) raw)
    going_turn u r = here (λ p n. has_tuple_after p (take n tuple) ≡ true → u ≡ tuple_after p (take n tuple) → Stands p u r → Going p n ts (count + 1) (u ++ drop n tuple) (r ++ drop n raw))
        (turn engine (decoded file) ready few ts count tuple raw going_there u r)
