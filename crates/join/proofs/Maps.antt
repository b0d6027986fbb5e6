-- Allowed lists, kept maps and parents of a joined specification.
use mathlib.Core.Bool.{Bool, false, true}
use mathlib.Core.List.{List, [], ◌++◌, ◌∷◌, foldl, foldl-append, map}
use mathlib.Core.Option
use mathlib.Core.Option.{Option, none, some}
use mathlib.Core.Path.{◌∙◌, ◌≡◌, ap, ap₂, refl}
use Prim.Native.Nat.{◌+◌, ◌<◌, ◌≤◌, suc, ℕ}
use native.Mathlib.Nat.{add-suc}
use native.Mathlib.Omega.{arith}
use lib.Dec.{eqb}
use lib.IntN.{ℤ}
use lib.ListN.{length}
use Rattle.lists.specs.Lists.{map_from}
use Rattle.lists.proofs.All.{All, []ᴬ, ◌∷ᴬ◌}
use Rattle.lists.proofs.Lists.{map_from_append}
use Rattle.lists.proofs.Numbers.{eqb_add, eqb_apart, eqb_apart'}
use Rattle.spec.specs.Domain.{domain}
use Rattle.spec.specs.Spec.{Check, ConstraintSpec, Cross, Enable, Entry, Eq, FieldSpec, Neq, Spec}
use Rattle.spec.proofs.Named.{NamesBelow}
use Rattle.compose.specs.Maps.{KeptMap, allowed, allowed_lists, keep_by, kept, kept_map, narrow_by, parent_in, parent_of, replace_if}
use Rattle.join.specs.Join.{join_spec, move}

-- ---- allowed lists
narrow_by_far : (n f : ℕ) (l : List ℤ) (r : ConstraintSpec) → NamesBelow n r → narrow_by (n + f) l r ≡ l
narrow_by_far n f l (Check g t) h = rw (eqb_apart n g f h)
narrow_by_far n f l (Eq a b) h = refl
narrow_by_far n f l (Neq a b) h = refl
narrow_by_far n f l (Cross p c ms) h = refl
narrow_by_far n f l (Enable k a p ws) h = refl

narrow_by_near : (n f : ℕ) (l : List ℤ) (r : ConstraintSpec) → f < n → narrow_by f l (move n r) ≡ l
narrow_by_near n f l (Check g t) h = rw (eqb_apart' n f g h)
narrow_by_near n f l (Eq a b) h = refl
narrow_by_near n f l (Neq a b) h = refl
narrow_by_near n f l (Cross p c ms) h = refl
narrow_by_near n f l (Enable k a p ws) h = refl

narrow_by-move : (n f : ℕ) (l : List ℤ) (r : ConstraintSpec) → narrow_by (n + f) l (move n r) ≡ narrow_by f l r
narrow_by-move n f l (Check g t) = rw (eqb_add n g f)
narrow_by-move n f l (Eq a b) = refl
narrow_by-move n f l (Neq a b) = refl
narrow_by-move n f l (Cross p c ms) = refl
narrow_by-move n f l (Enable k a p ws) = refl

module _ (n f : ℕ) where
  narrowed_far : (l : List ℤ) {rs : List ConstraintSpec} → All (NamesBelow n) rs → foldl (narrow_by (n + f)) l rs ≡ l
  narrowed_far l []ᴬ = refl
  narrowed_far l (◌∷ᴬ◌ {x = r} h t) = rw (narrow_by_far n f l r h) (narrowed_far l t)

  narrowed_near : f < n → (l : List ℤ) (rs : List ConstraintSpec) → foldl (narrow_by f) l (map (move n) rs) ≡ l
  narrowed_near h l [] = refl
  narrowed_near h l (r ∷ rs) = ap (λ (k : List ℤ). foldl (narrow_by f) k (map (move n) rs)) (narrow_by_near n f l r h) ∙ narrowed_near h l rs

  narrowed_move : (l : List ℤ) (rs : List ConstraintSpec) → foldl (narrow_by (n + f)) l (map (move n) rs) ≡ foldl (narrow_by f) l rs
  narrowed_move l [] = refl
  narrowed_move l (r ∷ rs) = ap (λ (k : List ℤ). foldl (narrow_by (n + f)) k (map (move n) rs)) (narrow_by-move n f l r) ∙ narrowed_move (narrow_by f l r) rs

  keep_by_far : (o : Option KeptMap) (r : ConstraintSpec) → NamesBelow n r → keep_by (n + f) o r ≡ o
  keep_by_far o (Check g t) h = refl
  keep_by_far o (Eq a b) h = refl
  keep_by_far o (Neq a b) h = refl
  keep_by_far o (Cross p c ms) h = rw (eqb_apart n c f h.1)
  keep_by_far o (Enable k a p ws) h = refl

  keep_by_near : (o : Option KeptMap) (r : ConstraintSpec) → f < n → keep_by f o (move n r) ≡ o
  keep_by_near o (Check g t) h = refl
  keep_by_near o (Eq a b) h = refl
  keep_by_near o (Neq a b) h = refl
  keep_by_near o (Cross p c ms) h = rw (eqb_apart' n f c h)
  keep_by_near o (Enable k a p ws) h = refl

abbrev pub move_kept : ℕ → Option KeptMap → Option KeptMap
move_kept n none = none
move_kept n (some (kept p ms)) = some (kept (n + p) ms)

replace_if-move : (n : ℕ) (b : Bool) (p : ℕ) (ms : List Entry) (o : Option KeptMap) → replace_if b (n + p) ms (move_kept n o) ≡ move_kept n (replace_if b p ms o)
replace_if-move n true p ms o = refl
replace_if-move n false p ms o = refl

module _ (n f : ℕ) where
  keep_by-move : (o : Option KeptMap) (r : ConstraintSpec) → keep_by (n + f) (move_kept n o) (move n r) ≡ move_kept n (keep_by f o r)
  keep_by-move o (Check g t) = refl
  keep_by-move o (Eq a b) = refl
  keep_by-move o (Neq a b) = refl
  keep_by-move o (Cross p c ms) = rw (eqb_add n c f) (replace_if-move n (eqb c f) p ms o)
  keep_by-move o (Enable k a p ws) = refl

  kept_far : (o : Option KeptMap) {rs : List ConstraintSpec} → All (NamesBelow n) rs → foldl (keep_by (n + f)) o rs ≡ o
  kept_far o []ᴬ = refl
  kept_far o (◌∷ᴬ◌ {x = r} h t) = rw (keep_by_far n f o r h) (kept_far o t)

  kept_near : f < n → (o : Option KeptMap) (rs : List ConstraintSpec) → foldl (keep_by f) o (map (move n) rs) ≡ o
  kept_near h o [] = refl
  kept_near h o (r ∷ rs) = ap (λ (k : Option KeptMap). foldl (keep_by f) k (map (move n) rs)) (keep_by_near n f o r h) ∙ kept_near h o rs

  kept_move : (o : Option KeptMap) (rs : List ConstraintSpec) → foldl (keep_by (n + f)) (move_kept n o) (map (move n) rs) ≡ move_kept n (foldl (keep_by f) o rs)
  kept_move o [] = refl
  kept_move o (r ∷ rs) = ap (λ (k : Option KeptMap). foldl (keep_by (n + f)) k (map (move n) rs)) (keep_by-move o r) ∙ kept_move (keep_by f o r) rs

module _ (n : ℕ) (rs : List ConstraintSpec) (wf : All (NamesBelow n) rs) (qs : List ConstraintSpec) where
  abbrev js : List ConstraintSpec
  js = rs ++ map (move n) qs

  pub allowed-left : (f : ℕ) → f < n → (d : FieldSpec) → allowed js f d ≡ allowed rs f d
  allowed-left f h d = foldl-append (narrow_by f) (domain d) rs (map (move n) qs) ∙ narrowed_near n f h (allowed rs f d) qs

  pub allowed_right : (f : ℕ) (d : FieldSpec) → allowed js (n + f) d ≡ allowed qs f d
  allowed_right f d = foldl-append (narrow_by (n + f)) (domain d) rs (map (move n) qs)
      ∙ ap (λ (l : List ℤ). foldl (narrow_by (n + f)) l (map (move n) qs)) (narrowed_far n f (domain d) wf) ∙ narrowed_move n f (domain d) qs

  pub kept-left : (f : ℕ) → f < n → kept_map js f ≡ kept_map rs f
  kept-left f h = foldl-append (keep_by f) none rs (map (move n) qs) ∙ kept_near n f h (kept_map rs f) qs

  pub kept_right : (f : ℕ) → kept_map js (n + f) ≡ move_kept n (kept_map qs f)
  kept_right f = foldl-append (keep_by (n + f)) none rs (map (move n) qs)
      ∙ ap (λ (o : Option KeptMap). foldl (keep_by (n + f)) o (map (move n) qs)) (kept_far n f none wf) ∙ kept_move n f none qs

  map_from-left : (a : ℕ) (ds : List FieldSpec) → a + length ds ≤ n → map_from (allowed js) a ds ≡ map_from (allowed rs) a ds
  map_from-left a [] h = refl
  map_from-left a (d ∷ ds) h = ap₂ ◌∷◌ (allowed-left a (omega arith) d) (map_from-left (suc a) ds (omega arith))

  map_from_right : (a : ℕ) (ds : List FieldSpec) → map_from (allowed js) (n + a) ds ≡ map_from (allowed qs) a ds
  map_from_right a [] = refl
  map_from_right a (d ∷ ds) = ap₂ ◌∷◌ (allowed_right a d) (rw (← add-suc n a) (map_from_right (suc a) ds))

pub allowed_lists-join : (s t : Spec) → All (NamesBelow (length s.fields)) s.constraints → allowed_lists (join_spec s t) ≡ allowed_lists s ++ allowed_lists t
unfolding allowed_lists join_spec
allowed_lists-join s t wf =
    let n = length s.fields in
    map_from_append (allowed (js n s.constraints wf t.constraints)) 0 s.fields t.fields
    ∙ ap₂ ◌++◌ (map_from-left n s.constraints wf t.constraints 0 s.fields (omega arith))
    (ap (λ (a : ℕ). map_from (allowed (js n s.constraints wf t.constraints)) a t.fields) (omega arith) ∙ map_from_right n s.constraints wf t.constraints 0 t.fields)

-- ---- parents
parent_moved : (n : ℕ) (o : Option KeptMap) → parent_in (move_kept n o) ≡ Option.map (λ p. n + p) (parent_in o)
parent_moved n none = refl
parent_moved n (some (kept p ms)) = refl

module _ (n : ℕ) (rs : List ConstraintSpec) (wf : All (NamesBelow n) rs) (qs : List ConstraintSpec) where
  pub parent-left : (f : ℕ) → f < n → parent_of (rs ++ map (move n) qs) f ≡ parent_of rs f
  parent-left f h = ap parent_in (kept-left n rs wf qs f h)

  pub parent_right : (f : ℕ) → parent_of (rs ++ map (move n) qs) (n + f) ≡ Option.map (λ p. n + p) (parent_of qs f)
  parent_right f = ap parent_in (kept_right n rs wf qs f) ∙ parent_moved n (kept_map qs f)
