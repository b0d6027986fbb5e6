-- An allowed list is a part of the domain, in order, and never empty.
use mathlib.Core.Bool.{Bool, ◌&&◌, false, true}
use mathlib.Core.List.Sublistᴰ
use mathlib.Core.List.{List, Sublistᴰ, [], ◌∷◌, foldl}
use mathlib.Core.Path.{◌≡◌, refl, subst, sym}
use Prim.Native.Nat.{◌<◌, ◌≤◌, ℕ}
use native.Mathlib.Nat.{le_refl}
use native.Mathlib.Omega.{arith}
use lib.Dec.{eqb}
use lib.IntN.{ℤ}
use lib.ListN.{length}
use Rattle.lists.specs.Lists.{cons_if, filter, or_else}
use Rattle.lists.proofs.All.{All, []ᴬ, ◌∷ᴬ◌}
use Rattle.spec.specs.Domain.{allows, domain}
use Rattle.spec.specs.Spec.{Check, ConstraintSpec, Cross, Enable, Eq, FieldSpec, Neq, Test}
use Rattle.spec.proofs.Domain.{domain-allowed}
use Rattle.registry.specs.Check.{meets}
use Rattle.compose.specs.Maps.{allowed, narrow_by, narrow_if, narrows}

or_else_part : (k l : List ℤ) → Sublistᴰ k l → Sublistᴰ (or_else k l) l
or_else_part [] l h = Sublistᴰ.refl l
or_else_part (x ∷ k) l h = h

filter_part : (p : ℤ → Bool) (l : List ℤ) → Sublistᴰ (filter p l) l
filter_part p [] = Sublistᴰ.slnil
filter_part p (x ∷ l) = go (p x) (filter_part p l)
  where
    go : (b : Bool) → Sublistᴰ (filter p l) l → Sublistᴰ (cons_if b x (filter p l)) (x ∷ l)
    go true h = Sublistᴰ.cons-cons refl h
    go false h = Sublistᴰ.cons h

narrow_if_part : (b : Bool) (t : Test) (l : List ℤ) → Sublistᴰ (narrow_if b t l) l
narrow_if_part true t l = or_else_part (filter (meets t) l) l (filter_part (meets t) l)
narrow_if_part false t l = Sublistᴰ.refl l

narrow_by_part : (f : ℕ) (l : List ℤ) (c : ConstraintSpec) → Sublistᴰ (narrow_by f l c) l
narrow_by_part f l (Check g t) = narrow_if_part (eqb g f && narrows t) t l
narrow_by_part f l (Eq a b) = Sublistᴰ.refl l
narrow_by_part f l (Neq a b) = Sublistᴰ.refl l
narrow_by_part f l (Cross p c entries) = Sublistᴰ.refl l
narrow_by_part f l (Enable e a p writes) = Sublistᴰ.refl l

narrowed_part : (f : ℕ) (cs : List ConstraintSpec) (l : List ℤ) → Sublistᴰ (foldl (narrow_by f) l cs) l
narrowed_part f [] l = Sublistᴰ.refl l
narrowed_part f (c ∷ cs) l = Sublistᴰ.trans (narrowed_part f cs (narrow_by f l c)) (narrow_by_part f l c)

-- It is a part of the domain, in the domain's order.
pub allowed_part : (cs : List ConstraintSpec) (f : ℕ) (d : FieldSpec) → Sublistᴰ (allowed cs f d) (domain d)
allowed_part cs f d = narrowed_part f cs (domain d)

pub All_part : {P : ℤ → Type 0} {k l : List ℤ} → Sublistᴰ k l → All P l → All P k
All_part Sublistᴰ.slnil h = []ᴬ
All_part (Sublistᴰ.cons s) (h ∷ᴬ t) = All_part s t
All_part {P} (Sublistᴰ.cons-cons e s) (h ∷ᴬ t) = subst P (sym e) h ∷ᴬ All_part s t

part_le : {k l : List ℤ} → Sublistᴰ k l → length k ≤ length l
part_le Sublistᴰ.slnil = le_refl _
part_le (Sublistᴰ.cons s) = let h = part_le s in omega arith
part_le (Sublistᴰ.cons-cons e s) = let h = part_le s in omega arith

pub allowed_le : (cs : List ConstraintSpec) (f : ℕ) (d : FieldSpec) → length (allowed cs f d) ≤ length (domain d)
allowed_le cs f d = part_le (allowed_part cs f d)

-- Its values pass the field check.
pub allowed-allows : (cs : List ConstraintSpec) (f : ℕ) (d : FieldSpec) → All (λ v. allows d v ≡ true) (allowed cs f d)
allowed-allows cs f d = All_part (allowed_part cs f d) (domain-allowed d)

or_else-filled : (k l : List ℤ) → 0 < length l → 0 < length (or_else k l)
or_else-filled [] l h = h
or_else-filled (x ∷ k) l h = omega arith

narrow_by-filled : (f : ℕ) (l : List ℤ) (c : ConstraintSpec) → 0 < length l → 0 < length (narrow_by f l c)
narrow_by-filled f l (Check g t) h = go (eqb g f && narrows t)
  where
    go : (b : Bool) → 0 < length (narrow_if b t l)
    go true = or_else-filled (filter (meets t) l) l h
    go false = h
narrow_by-filled f l (Eq a b) h = h
narrow_by-filled f l (Neq a b) h = h
narrow_by-filled f l (Cross p c entries) h = h
narrow_by-filled f l (Enable e a p writes) h = h

narrowed_filled : (f : ℕ) (cs : List ConstraintSpec) (l : List ℤ) → 0 < length l → 0 < length (foldl (narrow_by f) l cs)
narrowed_filled f [] l h = h
narrowed_filled f (c ∷ cs) l h = narrowed_filled f cs (narrow_by f l c) (narrow_by-filled f l c h)

-- It is not empty where the domain is not.
pub allowed-filled : (cs : List ConstraintSpec) (f : ℕ) (d : FieldSpec) → 0 < length (domain d) → 0 < length (allowed cs f d)
allowed-filled cs f d = narrowed_filled f cs (domain d)
