-- What is due from a start: what the walker goes through from its first step on.
use mathlib.Core.Bool.{Bool, ◌&&◌, cond, false, not, true}
use mathlib.Core.List.{List, [], ◌++◌, ◌∷◌}
use mathlib.Core.Option.{some}
use mathlib.Core.Path.{◌∙◌, ◌≡◌, ap, refl, sym}
use Prim.Native.Nat.{◌+◌, ◌-◌, ◌≤◌, suc, zero, ℕ}
use native.Mathlib.Omega.{arith}
use lib.Dec.{eqb, eqb-suc-zero, ltb}
use lib.ListN.{length, take}
use Rattle.lists.specs.Lists.{any, eq_list}
use Rattle.lists.proofs.All.{All, []ᴬ, ◌∷ᴬ◌}
use Rattle.lists.proofs.Tests.{ltb_yes}
use Rattle.spec.specs.Spec.{Spec}
use Rattle.spec.proofs.Named.{width}
use Rattle.compose.specs.Tuples.{Engine, emitted, zeros, padded}
use Rattle.compose.specs.Walk.{Plan, first_tuple, has_tuple_after, is_tuple, plan_of, tuple_after}
use Rattle.compose.proofs.Found.{eq_list-refl, following_from, is_tuple_lem, no_emitted, no_tuple, tuple_placed, tuple_whole}
use Rattle.compose.proofs.Walk.{Ready, from_tuple, walk_first, walk_step}
use Rattle.classifier.specs.Code.{is_start, late_number}
use Rattle.classifier.specs.Page.{Start, after_tuple, beginning, due, following, is_none, rest_if}

-- ---- 14 and 15
filled : (n : ℕ) → ltb 0 n ≡ not (eqb n 0)
filled zero = refl
filled (suc n) = ltb_yes 0 (suc n) (omega arith) ∙ sym (ap not (eqb-suc-zero n))

module _ (p : Plan) (n room : ℕ) (start : Start) (wide : length p.lists ≡ n) where
  pub late_14 : (not (eqb n 0) && ltb room (n + 4)) ≡ true → 14 ≡ late_number p room start
  late_14 e = rw (wide, filled n, e)

  pub late_15 : (not (eqb n 0) && ltb room (n + 4)) ≡ false → (b : Bool) → is_start p start ≡ b → cond b 0 15 ≡ late_number p room start
  late_15 e b h = rw (wide, filled n, e, h)

-- ---- following
passed_over : (t : List ℕ) {before : List (List ℕ)} (ts : List (List ℕ)) → All (λ u. eq_list (u ++ zeros (32 - length u)) t ≡ false) before → following t (before ++ ts) ≡ following t ts
passed_over t ts []ᴬ = refl
passed_over t ts (◌∷ᴬ◌ {x = u} h a) = rw h (passed_over t ts a)

found_first : (t u : List ℕ) (ts : List (List ℕ)) → padded u ≡ t → following t (u ∷ ts) ≡ some ts
found_first t u ts e = ap (λ (b : Bool). rest_if b ts (following t ts)) (ap (λ (v : List ℕ). eq_list v t) e ∙ eq_list-refl t)

-- None follows exactly where none is the tuple.
none_follows : (t : List ℕ) (ts : List (List ℕ)) → is_none (following t ts) ≡ not (any (λ u. eq_list (u ++ zeros (32 - length u)) t) ts)
none_follows t [] = refl
none_follows t (u ∷ ts) = go (eq_list (padded u) t) refl (none_follows t ts)
  where
    go : (b : Bool) → eq_list (padded u) t ≡ b → is_none (following t ts) ≡ not (any (λ u. eq_list (u ++ zeros (32 - length u)) t) ts) → is_none (following t (u ∷ ts)) ≡ not (any (λ u. eq_list (u ++ zeros (32 - length u)) t) (u ∷ ts))
    go true e ih = rw e
    go false e ih = rw e ih

-- ---- a start
-- A given tuple is 32 numbers.
abbrev pub Wide : Start → Type 0
Wide beginning = Unit {0}
Wide (after_tuple t) = length t ≡ 32

module _ (engine : Engine) (s : Spec) (ready : Ready engine s) (few : width s ≤ 32) where
  pub due_first : due engine s beginning ≡ some (from_tuple (plan_of engine s) (first_tuple (plan_of engine s)))
  unfolding due
  due_first = ap some (sym (walk_first engine s ready))

  pub due-after : (t : List ℕ) → length t ≡ 32 → is_tuple (plan_of engine s) t ≡ true
      → due engine s (after_tuple t) ≡ some (cond (has_tuple_after (plan_of engine s) (take (width s) t)) (from_tuple (plan_of engine s) (tuple_after (plan_of engine s) (take (width s) t))) [])
  unfolding due
  due-after t l e =
      let r = following_from engine s ready few t l e in
      ap (following t) r.1 ∙ passed_over t (from_tuple (plan_of engine s) (take (width s) t)) r.2 ∙ ap (following t) (walk_step engine s ready (take (width s) t) (tuple_placed engine s few t l e))
      ∙ found_first t (take (width s) t) _ (tuple_whole engine s few t l e)

  -- 15 is given exactly where the start is none.
  pub due_start : (start : Start) → Wide start → is_none (due engine s start) ≡ not (is_start (plan_of engine s) start)
  unfolding due
  due_start beginning l = refl
  due_start (after_tuple t) l = none_follows t (emitted engine s) ∙ ap not (sym (is_tuple_lem engine s ready few t l))

-- ---- without fields
pub due-none : (engine : Engine) (s : Spec) → width s ≡ 0 → due engine s beginning ≡ some []
unfolding due
due-none engine s e = ap some (no_emitted engine s e)

pub due_start-none : (engine : Engine) (s : Spec) → width s ≡ 0 → (start : Start) → is_none (due engine s start) ≡ not (is_start (plan_of engine s) start)
unfolding due
due_start-none engine s e beginning = refl
due_start-none engine s e (after_tuple t) = ap (λ (ts : List (List ℕ)). is_none (following t ts)) (no_emitted engine s e) ∙ ap not (sym (no_tuple engine s e t))
