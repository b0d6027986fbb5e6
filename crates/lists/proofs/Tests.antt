-- From a test to a fact, and back.
use mathlib.Core.Bool.{Bool, ◌&&◌, ◌||◌, cond, false, false≢true, not, true, true≢false}
use mathlib.Core.Path.{◌≡◌, refl, subst, sym}
use Prim.Native.Nat.{◌<◌, ◌≤◌, suc, ℕ}
use native.Mathlib.Omega.{arith}
use lib.Dec.{T, eqb, eqb_refl, eqb→eq, leb, leb→le, le→leb, ltb, ltb→lt, lt→ltb, nleb→lt, nltb→le}

pub true_of : (b : Bool) → T b → b ≡ true
true_of true h = refl
true_of false h = absurd h

pub false_of : (b : Bool) → (T b → ⊥) → b ≡ false
false_of true h = absurd (h tt)
false_of false h = refl

pub ltb_yes : (a b : ℕ) → a < b → ltb a b ≡ true
ltb_yes a b h = true_of (ltb a b) (lt→ltb a b h)

pub ltb_no : (a b : ℕ) → b ≤ a → ltb a b ≡ false
ltb_no a b h = false_of (ltb a b) (λ t. let q = ltb→lt a b t in omega arith)

pub yes_lt : (a b : ℕ) → ltb a b ≡ true → a < b
yes_lt a b e = ltb→lt a b (subst T (sym e) tt)

pub no_ge : (a b : ℕ) → ltb a b ≡ false → b ≤ a
no_ge a b e = nltb→le a b (subst (λ c. T (not c)) (sym e) tt)

pub leb_yes : (a b : ℕ) → a ≤ b → leb a b ≡ true
leb_yes a b h = true_of (leb a b) (le→leb a b h)

pub leb_no : (a b : ℕ) → b < a → leb a b ≡ false
leb_no a b h = false_of (leb a b) (λ t. let q = leb→le a b t in omega arith)

pub yes_le : (a b : ℕ) → leb a b ≡ true → a ≤ b
yes_le a b e = leb→le a b (subst T (sym e) tt)

pub no_gt : (a b : ℕ) → leb a b ≡ false → b < a
no_gt a b e = nleb→lt a b (subst (λ c. T (not c)) (sym e) tt)

pub eqb_yes : (a b : ℕ) → a ≡ b → eqb a b ≡ true
eqb_yes a b e = true_of (eqb a b) (subst (λ (x : ℕ). T (eqb a x)) e (eqb_refl a))

pub eqb_no : (a b : ℕ) → ¬ (a ≡ b) → eqb a b ≡ false
eqb_no a b h = false_of (eqb a b) (λ t. h (eqb→eq a b t))

pub yes_eq : (a b : ℕ) → eqb a b ≡ true → a ≡ b
yes_eq a b e = eqb→eq a b (subst T (sym e) tt)

pub and_split : (a b : Bool) → (a && b) ≡ true → (a ≡ true) × (b ≡ true)
and_split true b e = (refl, e)
and_split false b e = absurd (false≢true e)

pub and-join : {a b : Bool} → a ≡ true → b ≡ true → (a && b) ≡ true
and-join e f = rw (e, f)

pub and-false : (a : Bool) → (a && false) ≡ false
and-false true = refl
and-false false = refl

pub or_split : (a b : Bool) → (a || b) ≡ false → (a ≡ false) × (b ≡ false)
or_split true b e = absurd (true≢false e)
or_split false b e = (refl, e)

pub or_true : (a : Bool) → (a || true) ≡ true
or_true true = refl
or_true false = refl

pub or_false : (a : Bool) → (a || false) ≡ a
or_false true = refl
or_false false = refl

pub or_same : (a : Bool) → (a || false) ≡ (a || a)
or_same true = refl
or_same false = refl

pub or_assoc : (a b c : Bool) → (a || (b || c)) ≡ (a || b || c)
or_assoc true b c = refl
or_assoc false b c = refl

-- two tests that imply each other are equal
pub bool_ext : (a b : Bool) → (a ≡ true → b ≡ true) → (b ≡ true → a ≡ true) → a ≡ b
bool_ext true true f g = refl
bool_ext true false f g = sym (f refl)
bool_ext false true f g = g refl
bool_ext false false f g = refl

pub leb_ext : (a b c d : ℕ) → (a ≤ b → c ≤ d) → (c ≤ d → a ≤ b) → leb a b ≡ leb c d
leb_ext a b c d f g = bool_ext (leb a b) (leb c d) (λ e. leb_yes c d (f (yes_le a b e))) (λ e. leb_yes a b (g (yes_le c d e)))

pub eqb_ext : (a b c d : ℕ) → (a ≡ b → c ≡ d) → (c ≡ d → a ≡ b) → eqb a b ≡ eqb c d
eqb_ext a b c d f g = bool_ext (eqb a b) (eqb c d) (λ e. eqb_yes c d (f (yes_eq a b e))) (λ e. eqb_yes a b (g (yes_eq c d e)))

-- a number that is given where a test is true, and 0 where it is not
pub cond-zero : (b : Bool) (n : ℕ) → cond b (suc n) 0 ≡ 0 → b ≡ false
cond-zero true n e = absurd (omega arith)
cond-zero false n e = refl
