-- How a constraint acts on a joined row: one of the first file on the first n values, one of the second, moved, on the others.
use mathlib.Core.Bool.{Bool, false, true}
use mathlib.Core.List.{List, [], ◌++◌, ◌∷◌, foldl, foldl-append, map}
use mathlib.Core.Path.{◌∙◌, ◌≡◌, ap, ap₂, refl, sym}
use Prim.Native.Nat.{◌+◌, ◌<◌, ℕ}
use lib.IntN.{pos, ℤ}
use lib.ListN.{length, length-set, set}
use Rattle.lists.specs.Integers.{eq_z}
use Rattle.lists.specs.Lists.{cons_if, filter}
use Rattle.lists.proofs.All.{All, All-filter, All_imp, []ᴬ, ◌∷ᴬ◌}
use Rattle.lists.proofs.Lists.{filter_append, get_d_left, get_d_right, map_ext, set-left, set_right}
use Rattle.spec.specs.Spec.{Assign, Check, ConstraintSpec, Cross, Enable, Enabling, Eq, FieldAssignment, Neq, by_mask, by_set}
use Rattle.spec.proofs.Named.{NamesBelow, WritesBelow}
use Rattle.registry.specs.Check.{holds, value_at}
use Rattle.compose.specs.Force.{enables, force, force_by, forcing_order, write, write_if}
use Rattle.compose.specs.Tuples.{Engine, exhaustive, structural}
use Rattle.join.specs.Join.{move, move_assignment}

module _ (n : ℕ) (v : List ℤ) (e : length v ≡ n) (w : List ℤ) where
  value_at-left : (f : ℕ) → f < n → value_at (v ++ w) f ≡ value_at v f
  value_at-left f h = get_d_left v w (pos 0) f e h

  value_at_right : (f : ℕ) → value_at (v ++ w) (n + f) ≡ value_at w f
  value_at_right f = get_d_right v w (pos 0) f e

  pub holds-left : (r : ConstraintSpec) → NamesBelow n r → holds (v ++ w) r ≡ holds v r
  holds-left (Check f t) h = rw (value_at-left f h)
  holds-left (Eq a b) h = rw (value_at-left a h.0, value_at-left b h.1)
  holds-left (Neq a b) h = rw (value_at-left a h.0, value_at-left b h.1)
  holds-left (Cross p c ms) h = rw (value_at-left p h.0, value_at-left c h.1)
  holds-left (Enable k a p ws) h = refl

  pub holds_right : (r : ConstraintSpec) → holds (v ++ w) (move n r) ≡ holds w r
  holds_right (Check f t) = rw (value_at_right f)
  holds_right (Eq a b) = rw (value_at_right a, value_at_right b)
  holds_right (Neq a b) = rw (value_at_right a, value_at_right b)
  holds_right (Cross p c ms) = rw (value_at_right p, value_at_right c)
  holds_right (Enable k a p ws) = refl

  pub all_hold_right : (rs : List ConstraintSpec) → map (holds (v ++ w)) (map (move n) rs) ≡ map (holds w) rs
  all_hold_right [] = refl
  all_hold_right (r ∷ rs) = ap₂ ◌∷◌ (holds_right r) (all_hold_right rs)

  pub all_hold-left : {rs : List ConstraintSpec} → All (NamesBelow n) rs → map (holds (v ++ w)) rs ≡ map (holds v) rs
  all_hold-left h = map_ext (All_imp holds-left h)

-- ---- forcing
length_writes : (v : List ℤ) (ws : List FieldAssignment) → length (foldl write v ws) ≡ length v
length_writes v [] = refl
length_writes v (Assign f x ∷ ws) = length_writes (set v f x) ws ∙ length-set v f x

writes_left : (n : ℕ) (v w : List ℤ) → length v ≡ n → {ws : List FieldAssignment} → All (WritesBelow n) ws → foldl write (v ++ w) ws ≡ foldl write v ws ++ w
writes_left n v w e []ᴬ = refl
writes_left n v w e (◌∷ᴬ◌ {x = Assign f x} h t) = rw (set-left v w x f e h) (writes_left n (set v f x) w (length-set v f x ∙ e) t)

writes_right : (n : ℕ) (v w : List ℤ) → length v ≡ n → (ws : List FieldAssignment) → foldl write (v ++ w) (map (move_assignment n) ws) ≡ v ++ foldl write w ws
writes_right n v w e [] = refl
writes_right n v w e (Assign f x ∷ ws) = ap (λ (l : List ℤ). foldl write l (map (move_assignment n) ws)) (set_right v w x f e) ∙ writes_right n v (set w f x) e ws

length-write_if : (b : Bool) (ws : List FieldAssignment) (v : List ℤ) → length (write_if b ws v) ≡ length v
length-write_if true ws v = length_writes v ws
length-write_if false ws v = refl

pub length-force_by : (v : List ℤ) (r : ConstraintSpec) → length (force_by v r) ≡ length v
length-force_by v (Check f t) = refl
length-force_by v (Eq a b) = refl
length-force_by v (Neq a b) = refl
length-force_by v (Cross p c ms) = refl
length-force_by v (Enable k a p ws) = length-write_if (eq_z (value_at v a) p) ws v

write_if-left : (n : ℕ) (v w : List ℤ) → length v ≡ n → {ws : List FieldAssignment} (b : Bool) → All (WritesBelow n) ws → write_if b ws (v ++ w) ≡ write_if b ws v ++ w
write_if-left n v w e true h = writes_left n v w e h
write_if-left n v w e false h = refl

write_if_right : (n : ℕ) (v w : List ℤ) → length v ≡ n → (ws : List FieldAssignment) (b : Bool) → write_if b (map (move_assignment n) ws) (v ++ w) ≡ v ++ write_if b ws w
write_if_right n v w e ws true = writes_right n v w e ws
write_if_right n v w e ws false = refl

force_by-left : (n : ℕ) (v w : List ℤ) → length v ≡ n → (r : ConstraintSpec) → NamesBelow n r → force_by (v ++ w) r ≡ force_by v r ++ w
force_by-left n v w e (Check f t) h = refl
force_by-left n v w e (Eq a b) h = refl
force_by-left n v w e (Neq a b) h = refl
force_by-left n v w e (Cross p c ms) h = refl
force_by-left n v w e (Enable k a p ws) h = rw (value_at-left n v e w a h.0) (write_if-left n v w e (eq_z (value_at v a) p) h.1)

force_by_right : (n : ℕ) (v w : List ℤ) → length v ≡ n → (r : ConstraintSpec) → force_by (v ++ w) (move n r) ≡ v ++ force_by w r
force_by_right n v w e (Check f t) = refl
force_by_right n v w e (Eq a b) = refl
force_by_right n v w e (Neq a b) = refl
force_by_right n v w e (Cross p c ms) = refl
force_by_right n v w e (Enable k a p ws) = rw (value_at_right n v e w a) (write_if_right n v w e ws (eq_z (value_at w a) p))

pub length_forced : (v : List ℤ) (rs : List ConstraintSpec) → length (foldl force_by v rs) ≡ length v
length_forced v [] = refl
length_forced v (r ∷ rs) = length_forced (force_by v r) rs ∙ length-force_by v r

forced_left : (n : ℕ) (v w : List ℤ) → length v ≡ n → {rs : List ConstraintSpec} → All (NamesBelow n) rs → foldl force_by (v ++ w) rs ≡ foldl force_by v rs ++ w
forced_left n v w e []ᴬ = refl
forced_left n v w e (◌∷ᴬ◌ {x = r} h t) = rw (force_by-left n v w e r h) (forced_left n (force_by v r) w (length-force_by v r ∙ e) t)

forced_right : (n : ℕ) (v w : List ℤ) → length v ≡ n → (rs : List ConstraintSpec) → foldl force_by (v ++ w) (map (move n) rs) ≡ v ++ foldl force_by w rs
forced_right n v w e [] = refl
forced_right n v w e (r ∷ rs) = ap (λ (l : List ℤ). foldl force_by l (map (move n) rs)) (force_by_right n v w e r) ∙ forced_right n v (force_by w r) e rs

forced_join : (n : ℕ) (v w : List ℤ) → length v ≡ n → {rs : List ConstraintSpec} → All (NamesBelow n) rs → (qs : List ConstraintSpec)
    → foldl force_by (v ++ w) (rs ++ map (move n) qs) ≡ foldl force_by v rs ++ foldl force_by w qs
forced_join n v w e {rs} h qs = foldl-append force_by (v ++ w) rs (map (move n) qs)
    ∙ ap (λ (l : List ℤ). foldl force_by l (map (move n) qs)) (forced_left n v w e h)
    ∙ forced_right n (foldl force_by v rs) w (length_forced v rs ∙ e) qs

enables-move : (k : Enabling) (n : ℕ) (r : ConstraintSpec) → enables k (move n r) ≡ enables k r
enables-move k n (Check f t) = refl
enables-move k n (Eq a b) = refl
enables-move k n (Neq a b) = refl
enables-move k n (Cross p c ms) = refl
enables-move k n (Enable j a p ws) = refl

put_map : (b : Bool) (n : ℕ) (r : ConstraintSpec) (rs : List ConstraintSpec) → cons_if b (move n r) (map (move n) rs) ≡ map (move n) (cons_if b r rs)
put_map true n r rs = refl
put_map false n r rs = refl

filter-move : (k : Enabling) (n : ℕ) (rs : List ConstraintSpec) → filter (enables k) (map (move n) rs) ≡ map (move n) (filter (enables k) rs)
filter-move k n [] = refl
filter-move k n (r ∷ rs) = rw (enables-move k n r, filter-move k n rs) (put_map (enables k r) n r (filter (enables k) rs))

phase : (k : Enabling) (n : ℕ) (v w : List ℤ) → length v ≡ n → {rs : List ConstraintSpec} → All (NamesBelow n) rs → (qs : List ConstraintSpec)
    → foldl force_by (v ++ w) (filter (enables k) (rs ++ map (move n) qs)) ≡ foldl force_by v (filter (enables k) rs) ++ foldl force_by w (filter (enables k) qs)
phase k n v w e {rs} h qs = ap (foldl force_by (v ++ w)) (filter_append (enables k) rs (map (move n) qs) ∙ ap (λ l. filter (enables k) rs ++ l) (filter-move k n qs))
    ∙ forced_join n v w e (All-filter (enables k) h) (filter (enables k) qs)

pub force-join : (x : Engine) (n : ℕ) (v w : List ℤ) → length v ≡ n → {rs : List ConstraintSpec} → All (NamesBelow n) rs → (qs : List ConstraintSpec)
    → force x (rs ++ map (move n) qs) (v ++ w) ≡ force x rs v ++ force x qs w
unfolding force forcing_order
force-join structural n v w e h qs = forced_join n v w e h qs
force-join exhaustive n v w e {rs} h qs =
    let js = rs ++ map (move n) qs in
    let v' = foldl force_by v (filter (enables by_mask) rs) in
    let w' = foldl force_by w (filter (enables by_mask) qs) in
    foldl-append force_by (v ++ w) (filter (enables by_mask) js) (filter (enables by_set) js)
    ∙ ap (λ (l : List ℤ). foldl force_by l (filter (enables by_set) js)) (phase by_mask n v w e h qs)
    ∙ phase by_set n v' w' (length_forced v (filter (enables by_mask) rs) ∙ e) h qs
    ∙ sym (ap₂ ◌++◌ (foldl-append force_by v (filter (enables by_mask) rs) (filter (enables by_set) rs)) (foldl-append force_by w (filter (enables by_mask) qs) (filter (enables by_set) qs)))

pub length-force : (x : Engine) (rs : List ConstraintSpec) (v : List ℤ) → length (force x rs v) ≡ length v
unfolding force
length-force x rs v = length_forced v (forcing_order x rs)
