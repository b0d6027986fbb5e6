-- Laws of refusals: a chain of them is none exactly when each is.
use mathlib.Core.Bool.{Bool, false, true}
use mathlib.Core.List.{List, [], ◌∷◌}
use mathlib.Core.Option.{Option, none, some}
use mathlib.Core.Path.{◌≡◌, refl}
use Prim.Native.Nat.{suc, zero, ℕ}
use native.Mathlib.Omega.{arith}
use Rattle.spec.specs.Record.{Record}
use Rattle.spec.specs.Refusal.{◌▷◌, first_true, misfiled, refuse, refuse_if, stray_byte}

module _ {A : Type 0} where
  pub ▷_left : (a b : Option A) → (a ▷ b) ≡ none → a ≡ none
  ▷_left none b e = refl
  ▷_left (some x) b e = e

  pub ▷_right : (a b : Option A) → (a ▷ b) ≡ none → b ≡ none
  ▷_right none b e = e
  ▷_right (some x) b e = let z : ◌≡◌ {A = ℕ} 0 1 = cc in absurd (omega arith)

  pub ▷_none : {a b : Option A} → a ≡ none → b ≡ none → (a ▷ b) ≡ none
  ▷_none p q = rw p q

  pub ▷_assoc : (a b c : Option A) → (a ▷ b) ▷ c ≡ a ▷ (b ▷ c)
  ▷_assoc none b c = refl
  ▷_assoc (some x) b c = refl

pub refuse-zero : (n i : ℕ) → refuse n i ≡ none → n ≡ 0
refuse-zero zero i e = refl
refuse-zero (suc n) i e = let z : ◌≡◌ {A = ℕ} 0 1 = cc in absurd (omega arith)

pub refuse_if_no : (b : Bool) (n : ℕ) → refuse_if b (suc n) ≡ none → b ≡ false
refuse_if_no true n e = let z : ◌≡◌ {A = ℕ} 0 1 = cc in absurd (omega arith)
refuse_if_no false n e = refl

pub refuse_if_ok : (b : Bool) (n : ℕ) → b ≡ false → refuse_if b n ≡ none
refuse_if_ok b n e = rw e

-- ---- a list of tests
abbrev pub AllFalse : List Bool → Type 0
AllFalse [] = Unit {0}
AllFalse (b ∷ bs) = (b ≡ false) × AllFalse bs

pub first_true-none : (n : ℕ) (bs : List Bool) → first_true (suc n) bs ≡ 0 → AllFalse bs
first_true-none n [] e = tt
first_true-none n (true ∷ bs) e = absurd (omega arith)
first_true-none n (false ∷ bs) e = (refl, first_true-none (suc n) bs e)

pub none-first_true : (n : ℕ) (bs : List Bool) → AllFalse bs → first_true n bs ≡ 0
none-first_true n [] h = refl
none-first_true n (b ∷ bs) h = rw h.0 (none-first_true (suc n) bs h.1)

-- a misfiled member is always refused
pub misfiled-refused : (m : Record) (i : ℕ) → ¬ (misfiled m i ≡ none)
misfiled-refused m i = go (stray_byte m.kind m)
  where
    go : (b : Bool) → ¬ (refuse (first_true 2 (false ∷ b ∷ true ∷ [])) i ≡ none)
    go true e = let z : ◌≡◌ {A = ℕ} 0 1 = cc in omega arith
    go false e = let z : ◌≡◌ {A = ℕ} 0 1 = cc in omega arith
