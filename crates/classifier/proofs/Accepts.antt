-- What it means that an engine accepts a file.
use mathlib.Core.Bool.{◌||◌, false}
use mathlib.Core.List.{List}
use mathlib.Core.Option.{none}
use mathlib.Core.Path.{◌≡◌, ap₂, refl}
use Prim.Native.Nat.{ℕ}
use native.Mathlib.Nat.{le_refl}
use lib.Dec.{ltb}
use Rattle.lists.proofs.Tests.{ltb_no, or_split}
use Rattle.spec.specs.Record.{decoded}
use Rattle.spec.specs.Refusal.{file_fault, refuse_if}
use Rattle.spec.specs.Spec.{Spec}
use Rattle.spec.proofs.Accepted.{FileGood, file_good, good_file}
use Rattle.spec.proofs.Refusals.{refuse_if_no, refuse_if_ok, ▷_left, ▷_none, ▷_right}
use Rattle.compose.specs.Maps.{childless, cyclic}
use Rattle.compose.specs.Tuples.{Engine, exhaustive, structural}
use Rattle.compose.proofs.Emitted.{unsound}
use Rattle.classifier.specs.Count.{Accepts, count_fault, engine_fault, scratch_for}

-- 12 and 13 are not given exactly when the specification is sound for the engine.
sound_of : (e : Engine) (s : Spec) → engine_fault e s ≡ none → unsound e s ≡ false
unfolding engine_fault
sound_of structural s h = ap₂ ◌||◌ (refuse_if_no (cyclic s) 11 (▷_left _ _ h)) (refuse_if_no (childless s) 12 (▷_right (refuse_if (cyclic s) 12) _ h))
sound_of exhaustive s h = refl

pub of_sound : (e : Engine) (s : Spec) → unsound e s ≡ false → engine_fault e s ≡ none
unfolding engine_fault
of_sound structural s h = let p = or_split (cyclic s) (childless s) h in rw (p.0, p.1)
of_sound exhaustive s h = refl

pub record Accepted (e : Engine) (file : List ℕ) : Type 0 where
  pub good : FileGood file
  pub sound : unsound e (decoded file) ≡ false

pub accepted_of : (e : Engine) (file : List ℕ) → Accepts e file → Accepted e file
unfolding count_fault
accepted_of e file h = record {
  good = file_good file (▷_left (file_fault file) _ h);
  sound = sound_of e (decoded file) (▷_right (refuse_if (ltb (scratch_for (decoded file)) (scratch_for (decoded file))) 11) _ (▷_right (file_fault file) _ h));
}

pub of_accepted : (e : Engine) (file : List ℕ) → Accepted e file → Accepts e file
unfolding count_fault
of_accepted e file a = ▷_none (good_file file a.good) (▷_none (refuse_if_ok (ltb n n) 11 (ltb_no n n (le_refl n))) (of_sound e (decoded file) a.sound))
  where
    n : ℕ
    n = scratch_for (decoded file)
