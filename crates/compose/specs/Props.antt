-- That a fact about each element of a list has one proof at most.
use Rattle.std.specs.Prelude.{List, [], ◌∷◌, ◌≡◌, ⊤}
use Rattle.std.proofs.Common.{◌∙◌, ap, refl, sym}
use Rattle.std.specs.Coded.{×_prop, Unit-prop}
use denote.Struct.Props as logic
use Rattle.lists.proofs.All.{All, []ᴬ, ◌∷ᴬ◌}

module _ {A : Type 0} (P : A → Type 0) where
  abbrev Each : List A → Type 0
  Each [] = ⊤
  Each (x ∷ xs) = P x × Each xs

  each_of : {xs : List A} → All P xs → Each xs
  each_of []ᴬ = tt
  each_of (h ∷ᴬ t) = (h, each_of t)

  all_of : (xs : List A) → Each xs → All P xs
  all_of [] e = []ᴬ
  all_of (x ∷ xs) e = e.0 ∷ᴬ all_of xs e.1

  back : {xs : List A} (a : All P xs) → all_of xs (each_of a) ≡ a
  unfolding each_of all_of
  back []ᴬ = refl
  back (h ∷ᴬ t) = ap (λ r. h ∷ᴬ r) (back t)

  Each-prop : ((x : A) → IsProp (P x)) → (xs : List A) → IsProp (Each xs)
  Each-prop h [] = Unit-prop
  Each-prop h (x ∷ xs) = ×_prop (h x) (Each-prop h xs)

  pub All-prop : ((x : A) → IsProp (P x)) → (xs : List A) → IsProp (All P xs)
  All-prop h xs a b = sym (back a) ∙ ap (all_of xs) (Each-prop h xs (each_of a) (each_of b)) ∙ back b

pub ruleset facts = (logic.props, All-prop)
