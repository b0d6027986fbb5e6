-- `cyclic` says what document 01 says: the kept maps lead from a field back to it.
use mathlib.Core.Bool.{Bool, cond, false, false≢true, not, true}
use mathlib.Core.Logic.{◌⊎◌, inl, inr}
use mathlib.Core.Option.{Option, none, some}
use mathlib.Core.Path.{◌∙◌, ◌≡◌, ap, refl, subst, sym}
use Prim.Native.Nat.{◌*◌, ◌+◌, ◌-◌, ◌<◌, ◌≤◌, suc, zero, ℕ}
use native.Mathlib.Decide.{ℕ_discrete}
use native.Mathlib.Omega.{arith}
use lib.Dec.{T, ltb, ltb→lt, nltb→le}
use Rattle.lists.proofs.All.{All, any_some, upto-below}
use Rattle.spec.specs.Spec.{Spec}
use Rattle.spec.proofs.Named.{NamesBelow, width}
use Rattle.compose.specs.Maps.{climb, is_some, parent_of, cyclic, up}
use Rattle.compose.proofs.Parents.{ParentBelow, climb_add, climb_ends, climb_more, parent-below}

laps : (par : ℕ → Option ℕ) (k f : ℕ) → climb par (suc k) (some f) ≡ some f → (j : ℕ) → climb par (j * suc k) (some f) ≡ some f
laps par k f e zero = ap (λ (i : ℕ). climb par i (some f)) zeroth
  where
    zeroth : 0 * suc k ≡ 0
    zeroth = omega arith
laps par k f e (suc j) = ap (λ (i : ℕ). climb par i (some f)) more ∙ climb_add par (suc k) (j * suc k) (some f) ∙ ap (climb par (j * suc k)) e ∙ laps par k f e j
  where
    more : suc j * suc k ≡ suc k + j * suc k
    more = omega arith

-- a field that the kept maps lead back to
pub back_cyclic : (s : Spec) (f k : ℕ) → f < width s → climb (parent_of s.constraints) (suc k) (some f) ≡ some f → cyclic s ≡ true
back_cyclic s f k h e = go (cyclic s) refl
  where
    n : ℕ
    n = width s

    much : n * suc k ≡ n + n * k
    much = omega arith

    go : (b : Bool) → cyclic s ≡ b → b ≡ true
    go true q = refl
    go false q = absurd (let c : some f ≡ none = sym (laps (parent_of s.constraints) k f e n) ∙ ap (λ (i : ℕ). climb (parent_of s.constraints) i (some f)) much ∙ climb_more (parent_of s.constraints) n (n * k) (some f) (climb_ends s q f h) in
        let z : ◌≡◌ {A = ℕ} 0 1 = cc in omega arith)

-- ---- the pigeonhole
seek : (v : ℕ → ℕ) (x m : ℕ) → ((i : ℕ) × (i < m) × (v i ≡ x)) ⊎ ((i : ℕ) → i < m → ¬ (v i ≡ x))
seek v x zero = inr (λ i h. absurd (omega arith))
seek v x (suc m) = go (ℕ_discrete (v m) x) (seek v x m)
  where
    go : Dec (v m ≡ x) → ((i : ℕ) × (i < m) × (v i ≡ x)) ⊎ ((i : ℕ) → i < m → ¬ (v i ≡ x)) → ((i : ℕ) × (i < suc m) × (v i ≡ x)) ⊎ ((i : ℕ) → i < suc m → ¬ (v i ≡ x))
    go (yes e) r = inl (m, omega arith, e)
    go (no ne) (inl (i, h, e)) = inl (i, omega arith, e)
    go (no ne) (inr h) = inr (λ i l. last i l (ℕ_discrete i m))
      where
        last : (i : ℕ) → i < suc m → Dec (i ≡ m) → ¬ (v i ≡ x)
        last i l (yes e) = subst (λ (j : ℕ). ¬ (v j ≡ x)) (sym e) ne
        last i l (no e) = h i (omega arith)

abbrev squash : ℕ → ℕ → ℕ
squash x a = cond (ltb x a) (a - 1) a

squash_lt : (n x a : ℕ) → x < suc n → a < suc n → ¬ (a ≡ x) → squash x a < n
squash_lt n x a h k ne = go (ltb x a) refl
  where
    go : (b : Bool) → ltb x a ≡ b → cond b (a - 1) a < n
    go true e = let q = ltb→lt x a (subst T (sym e) tt) in omega arith
    go false e = let q = nltb→le x a (subst (λ b. T (not b)) (sym e) tt) in omega arith

squash_inj : (x a b : ℕ) → ¬ (a ≡ x) → ¬ (b ≡ x) → squash x a ≡ squash x b → a ≡ b
squash_inj x a b p q e = go (ltb x a) refl (ltb x b) refl e
  where
    go : (c : Bool) → ltb x a ≡ c → (d : Bool) → ltb x b ≡ d → cond c (a - 1) a ≡ cond d (b - 1) b → a ≡ b
    go true e₁ true e₂ e = let r = ltb→lt x a (subst T (sym e₁) tt) in let t = ltb→lt x b (subst T (sym e₂) tt) in omega arith
    go true e₁ false e₂ e = let r = ltb→lt x a (subst T (sym e₁) tt) in let t = nltb→le x b (subst (λ b. T (not b)) (sym e₂) tt) in omega arith
    go false e₁ true e₂ e = let r = nltb→le x a (subst (λ b. T (not b)) (sym e₁) tt) in let t = ltb→lt x b (subst T (sym e₂) tt) in omega arith
    go false e₁ false e₂ e = e

abbrev Twice : ℕ → (ℕ → ℕ) → Type 0
Twice n v = (i : ℕ) × (j : ℕ) × (i < j) × (j ≤ n) × (v i ≡ v j)

pigeon : (n : ℕ) (v : ℕ → ℕ) → ((i : ℕ) → i ≤ n → v i < n) → Twice n v
pigeon zero v h = absurd (let q = h 0 (omega arith) in omega arith)
pigeon (suc n) v h = go (seek v (v (suc n)) (suc n)) (pigeon n (λ i. squash (v (suc n)) (v i)))
  where
    go : ((i : ℕ) × (i < suc n) × (v i ≡ v (suc n))) ⊎ ((i : ℕ) → i < suc n → ¬ (v i ≡ v (suc n)))
        → (((i : ℕ) → i ≤ n → squash (v (suc n)) (v i) < n) → Twice n (λ i. squash (v (suc n)) (v i))) → Twice (suc n) v
    go (inl (i, l, e)) ih = (i, suc n, l, omega arith, e)
    go (inr ne) ih =
        let r = ih (λ i l. squash_lt n (v (suc n)) (v i) (h (suc n) (omega arith)) (h i (omega arith)) (ne i (omega arith))) in
        (r.0, r.1, r.2, omega arith, squash_inj (v (suc n)) (v r.0) (v r.1) (ne r.0 (omega arith)) (ne r.1 (omega arith)) r.4)

-- ---- a chain that does not end meets a field again
climb-below : (n : ℕ) (par : ℕ → Option ℕ) → ((f : ℕ) → ParentBelow n (par f)) → (i : ℕ) (o : Option ℕ) → ParentBelow n o → ParentBelow n (climb par i o)
climb-below n par inside zero o h = h
climb-below n par inside (suc i) o h = climb-below n par inside i (up par o) (go o)
  where
    go : (o : Option ℕ) → ParentBelow n (up par o)
    go none = tt
    go (some f) = inside f

abbrev or_zero : Option ℕ → ℕ
or_zero none = 0
or_zero (some f) = f

-- From some field some number of kept maps leads back to it.
abbrev pub Back : Spec → Type 0
Back s = (f : ℕ) × (k : ℕ) × (f < width s) × (climb (parent_of s.constraints) (suc k) (some f) ≡ some f)

pub cyclic_back : (s : Spec) → All (NamesBelow (width s)) s.constraints → cyclic s ≡ true → Back s
unfolding cyclic
cyclic_back s wf e = from (any_some (λ f. is_some (climb (parent_of s.constraints) (width s) (some f))) (upto-below (width s)) e)
  where
    n : ℕ
    n = width s

    par : ℕ → Option ℕ
    par = parent_of s.constraints

    is_some_lem : (o : Option ℕ) → is_some o ≡ true → ¬ (o ≡ none) → o ≡ some (or_zero o)
    is_some_lem none e h = absurd (h refl)
    is_some_lem (some f) e h = refl

    from : (f : ℕ) × (is_some (climb par n (some f)) ≡ true) × (f < n) → Back s
    from (f, e, h) = build (pigeon n v Lt)
      where
        v : ℕ → ℕ
        v i = or_zero (climb par i (some f))

        some_of : (o : Option ℕ) → ¬ (o ≡ none) → o ≡ some (or_zero o)
        some_of none k = absurd (k refl)
        some_of (some g) k = refl

        goes_on : (i : ℕ) → i ≤ n → climb par i (some f) ≡ some (v i)
        goes_on i l = some_of (climb par i (some f)) (λ q. false≢true (sym (ap is_some (ap (λ (j : ℕ). climb par j (some f)) (split i l) ∙ climb_more par i (n - i) (some f) q)) ∙ e))
          where
            split : (i : ℕ) → i ≤ n → n ≡ i + (n - i)
            split i l = omega arith

        below_of : (o : Option ℕ) (g : ℕ) → o ≡ some g → ParentBelow n o → g < n
        below_of none g q k = let z : ◌≡◌ {A = ℕ} 0 1 = cc in absurd (omega arith)
        below_of (some a) g q k = let r : a ≡ g = cc in omega arith

        Lt : (i : ℕ) → i ≤ n → v i < n
        Lt i l = below_of (climb par i (some f)) (v i) (goes_on i l) (climb-below n par (parent-below n s.constraints wf) i (some f) h)

        build : Twice n v → Back s
        build (i, j, l, m, q) = (
          v i,
          j - suc i,
          Lt i (omega arith),
          ap (climb par (suc (j - suc i))) (sym (goes_on i (omega arith))) ∙ sym (climb_add par i (suc (j - suc i)) (some f))
              ∙ ap (λ (a : ℕ). climb par a (some f)) there ∙ goes_on j m ∙ ap some (sym q),
        )
          where
            there : i + suc (j - suc i) ≡ j
            there = omega arith
