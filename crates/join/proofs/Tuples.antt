-- The emitted tuples of a joined specification: for each of the first's in order, each of the second's in order, the two put together.
use mathlib.Core.Bool.{Bool, ◌&&◌, ◌||◌, false}
use mathlib.Core.List.{List, [], ◌++◌, ◌∷◌, append-nil, map}
use mathlib.Core.Option
use mathlib.Core.Option.{Option, none, some}
use mathlib.Core.Path.{◌∙◌, ◌≡◌, ap, ap₂, refl, sym}
use Prim.Native.Nat.{◌+◌, ◌<◌, suc, ℕ}
use native.Mathlib.Nat.{add_comm}
use native.Mathlib.Omega.{arith}
use lib.IntN.{pos, ℤ}
use lib.ListN.{get_or, length, length-append, length-replicate, length-set, set}
use Rattle.lists.specs.Lists.{all, any, concat_map, filter, pair_up, upto}
use Rattle.lists.proofs.All.{All, All_append, All_imp, All-mapped, All_of, []ᴬ, ◌∷ᴬ◌, any_none, upto-All, upto-below}
use Rattle.lists.proofs.Lists.{all_append, all_ext, all_map, any_append, any_ext, any-map, concat_map-concat_map, concat_map_ext, get_d_left, get_d_right, map_append, map-concat_map, replicate_add, set-left, set_right}
use Rattle.lists.proofs.Numbers.{length-span, upto_add}
use Rattle.lists.proofs.Pairs.{filter-pair_up}
use Rattle.lists.proofs.Tests.{or_split}
use Rattle.spec.specs.Domain.{domain, domains}
use Rattle.spec.specs.Spec.{ConstraintSpec, Spec}
use Rattle.spec.proofs.Named.{Named, width}
use Rattle.registry.specs.Check.{cross_allows}
use Rattle.compose.specs.Maps.{KeptMap, allowed_lists, childless, childless_key, childless_map, climb, field_order, is_some, kept, kept_map, list_at, parent_in, parent_of, place_fields, cyclic}
use Rattle.compose.specs.Tuples.{Engine, emitted, exhaustive, lists_of, map_holds, map_of, maps_hold, order_of, structural, tuples, values, zeros}
use Rattle.compose.proofs.Emitted.{candidates, candidates_length, emitted_candidates, held, length-lists_of, order_of-below, sound_acyclic, unsound}
use Rattle.compose.proofs.Parents.{ParentBelow, climb_ends, climb_more, parent-below}
use Rattle.join.specs.Join.{join_spec, move}
use Rattle.join.proofs.Maps.{allowed_lists-join, kept-left, kept_right, move_kept, parent-left, parent_right}
use Rattle.join.proofs.Order.{climb₁, climb₂, place_fields-join}

pub width-join : (s t : Spec) → width (join_spec s t) ≡ width s + width t
unfolding join_spec
width-join s t = length-append s.fields t.fields

pub fields_of-join : (s t : Spec) → upto (width (join_spec s t)) ≡ upto (width s) ++ map (λ f. width s + f) (upto (width t))
fields_of-join s t = ap upto (width-join s t) ∙ upto_add (width s) (width t)

-- ---- lists
pub lists-join : (e : Engine) (s t : Spec) → Named s → lists_of e (join_spec s t) ≡ lists_of e s ++ lists_of e t
unfolding lists_of domains
lists-join structural s t wf = allowed_lists-join s t wf
lists-join exhaustive s t wf = unfold join_spec in map_append domain s.fields t.fields

module _ (n : ℕ) (ls₁ ls₂ : List (List ℤ)) (e : length ls₁ ≡ n) where
  tuples_right : (o t₁ t₂ : List ℕ) → length t₁ ≡ n → tuples (ls₁ ++ ls₂) (map (λ f. n + f) o) (t₁ ++ t₂) ≡ map (λ t. t₁ ++ t) (tuples ls₂ o t₂)
  tuples_right [] t₁ t₂ h = refl
  tuples_right (f ∷ o) t₁ t₂ h =
      ap (λ (l : List ℤ). concat_map (λ i. tuples (ls₁ ++ ls₂) (map (λ f. n + f) o) (set (t₁ ++ t₂) (n + f) i)) (upto (length l))) (get_d_right ls₁ ls₂ [] f e)
      ∙ concat_map_ext (All_of (λ i. ap (λ (t : List ℕ). tuples (ls₁ ++ ls₂) (map (λ f. n + f) o) t) (set_right t₁ t₂ i f h) ∙ tuples_right o t₁ (set t₂ f i) h) (upto (length (list_at ls₂ f))))
      ∙ sym (map-concat_map (λ t. t₁ ++ t) (λ i. tuples ls₂ o (set t₂ f i)) (upto (length (list_at ls₂ f))))

  tuples-join : (o₂ : List ℕ) {o₁ : List ℕ} (t₁ t₂ : List ℕ) → All (λ f. f < n) o₁ → length t₁ ≡ n
      → tuples (ls₁ ++ ls₂) (o₁ ++ map (λ f. n + f) o₂) (t₁ ++ t₂) ≡ pair_up ◌++◌ (tuples ls₁ o₁ t₁) (tuples ls₂ o₂ t₂)
  tuples-join o₂ t₁ t₂ []ᴬ h = tuples_right o₂ t₁ t₂ h ∙ sym (append-nil (map (λ t. t₁ ++ t) (tuples ls₂ o₂ t₂)))
  tuples-join o₂ t₁ t₂ (◌∷ᴬ◌ {x = f} {xs = o₁} k t) h =
      ap (λ (l : List ℤ). concat_map (λ i. tuples (ls₁ ++ ls₂) (o₁ ++ map (λ f. n + f) o₂) (set (t₁ ++ t₂) f i)) (upto (length l))) (get_d_left ls₁ ls₂ [] f e k)
      ∙ concat_map_ext (All_of (λ i. ap (λ (u : List ℕ). tuples (ls₁ ++ ls₂) (o₁ ++ map (λ f. n + f) o₂) u) (set-left t₁ t₂ i f h k) ∙ tuples-join o₂ (set t₁ f i) t₂ t (length-set t₁ f i ∙ h)) (upto (length (list_at ls₁ f))))
      ∙ sym (concat_map-concat_map (λ i. tuples ls₁ o₁ (set t₁ f i)) (λ u. map (λ w. u ++ w) (tuples ls₂ o₂ t₂)) (upto (length (list_at ls₁ f))))

pub values_join : (ls₁ ls₂ : List (List ℤ)) (t₁ t₂ : List ℕ) → length t₁ ≡ length ls₁ → values (ls₁ ++ ls₂) (t₁ ++ t₂) ≡ values ls₁ t₁ ++ values ls₂ t₂
values_join [] ls₂ [] t₂ h = refl
values_join [] ls₂ (i ∷ t₁) t₂ h = absurd (omega arith)
values_join (l ∷ ls₁) ls₂ [] t₂ h = absurd (omega arith)
values_join (l ∷ ls₁) ls₂ (i ∷ t₁) t₂ h = ap (λ vs. get_or l i (pos 0) ∷ vs) (values_join ls₁ ls₂ t₁ t₂ (omega arith))

pub values_length : (ls : List (List ℤ)) (t : List ℕ) → length t ≡ length ls → length (values ls t) ≡ length ls
values_length [] t h = refl
values_length (l ∷ ls) [] h = absurd (omega arith)
values_length (l ∷ ls) (i ∷ t) h = ap suc (values_length ls t (omega arith))

-- ---- cycles and order
module _ (s t : Spec) (wf : Named s) where
  pub cyclic-join : cyclic s ≡ false → cyclic t ≡ false → cyclic (join_spec s t) ≡ false
  unfolding cyclic join_spec
  cyclic-join h k =
      ap (λ l. any (λ f. is_some (climb par (width (join_spec s t)) (some f))) l) (fields_of-join s t)
      ∙ any_none (λ f. is_some (climb par (width (join_spec s t)) (some f))) (All_append (upto-All n near) (All-mapped (λ f. n + f) (upto-All m far)))
    where
      n : ℕ
      n = width s

      m : ℕ
      m = width t

      par : ℕ → Option ℕ
      par = parent_of (s.constraints ++ map (move n) t.constraints)

      near : (f : ℕ) → f < n → is_some (climb par (width (join_spec s t)) (some f)) ≡ false
      near f b = ap is_some (ap (λ (k : ℕ). climb par k (some f)) (width-join s t)
          ∙ climb₁ n (parent_of s.constraints) (parent_of t.constraints) par (parent-left n s.constraints wf t.constraints) (parent_right n s.constraints wf t.constraints) (λ g _. parent-below n s.constraints wf g) (n + m) (some f) b
          ∙ climb_more (parent_of s.constraints) n m (some f) (climb_ends s h f b))

      far : (f : ℕ) → f < m → is_some (climb par (width (join_spec s t)) (some (n + f))) ≡ false
      far f b = ap is_some (ap (λ (k : ℕ). climb par k (some (n + f))) (width-join s t)
          ∙ climb₂ n (parent_of s.constraints) (parent_of t.constraints) par (parent-left n s.constraints wf t.constraints) (parent_right n s.constraints wf t.constraints) (λ g _. parent-below n s.constraints wf g) (n + m) (some f)
          ∙ ap (Option.map (λ p. n + p)) (ap (λ (k : ℕ). climb (parent_of t.constraints) k (some f)) (add_comm n m) ∙ climb_more (parent_of t.constraints) m n (some f) (climb_ends t k f b)))

  pub order-join : cyclic s ≡ false → field_order (join_spec s t) ≡ field_order s ++ map (λ f. width s + f) (field_order t)
  unfolding field_order join_spec
  order-join h =
      ap₂ (λ (n : ℕ) (l : List ℕ). place_fields (parent_of (s.constraints ++ map (move (width s)) t.constraints)) n l) (width-join s t) (fields_of-join s t)
      ∙ place_fields-join (width s) (parent_of s.constraints) (parent_of t.constraints) (parent_of (s.constraints ++ map (move (width s)) t.constraints))
      (parent-left (width s) s.constraints wf t.constraints) (parent_right (width s) s.constraints wf t.constraints)
      (λ f k. parent-below (width s) s.constraints wf f) (climb_ends s h) (width s) (width t) (upto (width t)) (upto-below (width s)) (length-span 0 (width s))

order_of-join : (e : Engine) (s t : Spec) → Named s → unsound e s ≡ false → order_of e (join_spec s t) ≡ order_of e s ++ map (λ f. width s + f) (order_of e t)
unfolding order_of
order_of-join structural s t wf h = order-join s t wf (sound_acyclic s h)
order_of-join exhaustive s t wf h = fields_of-join s t

-- ---- maps
map_of-left : (e : Engine) (s t : Spec) → Named s → (f : ℕ) → f < width s → map_of e (join_spec s t) f ≡ map_of e s f
unfolding map_of join_spec
map_of-left structural s t wf f h = kept-left (width s) s.constraints wf t.constraints f h
map_of-left exhaustive s t wf f h = refl

map_of_right : (e : Engine) (s t : Spec) → Named s → (f : ℕ) → map_of e (join_spec s t) (width s + f) ≡ move_kept (width s) (map_of e t f)
unfolding map_of join_spec
map_of_right structural s t wf f = kept_right (width s) s.constraints wf t.constraints f
map_of_right exhaustive s t wf f = refl

map_of-below : (e : Engine) (s : Spec) → Named s → (f : ℕ) → ParentBelow (width s) (parent_in (map_of e s f))
unfolding map_of
map_of-below structural s wf f = parent-below (width s) s.constraints wf f
map_of-below exhaustive s wf f = tt

module _ (s t : Spec) (p p₁ p₂ : ℕ → Bool) (e₁ : (f : ℕ) → f < width s → p f ≡ p₁ f) (e₂ : (f : ℕ) → p (width s + f) ≡ p₂ f) where
  all-fields : all p (upto (width (join_spec s t))) ≡ (all p₁ (upto (width s)) && all p₂ (upto (width t)))
  all-fields = ap (all p) (fields_of-join s t) ∙ all_append p (upto (width s)) (map (λ f. width s + f) (upto (width t)))
      ∙ ap₂ ◌&&◌ (all_ext (upto-All (width s) e₁)) (all_map p (λ f. width s + f) (upto (width t)) ∙ all_ext (All_of e₂ (upto (width t))))

  any-fields : any p (upto (width (join_spec s t))) ≡ (any p₁ (upto (width s)) || any p₂ (upto (width t)))
  any-fields = ap (any p) (fields_of-join s t) ∙ any_append p (upto (width s)) (map (λ f. width s + f) (upto (width t)))
      ∙ ap₂ ◌||◌ (any_ext (upto-All (width s) e₁)) (any-map p (λ f. width s + f) (upto (width t)) ∙ any_ext (All_of e₂ (upto (width t))))

module _ (n f : ℕ) (v w : List ℤ) (e : length v ≡ n) where
  map_holds-left : (o : Option KeptMap) → ParentBelow n (parent_in o) → f < n → map_holds o f (v ++ w) ≡ map_holds o f v
  map_holds-left none k h = refl
  map_holds-left (some (kept p ms)) k h = ap₂ (cross_allows ms) (get_d_left v w (pos 0) p e k) (get_d_left v w (pos 0) f e h)

  map_holds_right : (o : Option KeptMap) → map_holds (move_kept n o) (n + f) (v ++ w) ≡ map_holds o f w
  map_holds_right none = refl
  map_holds_right (some (kept p ms)) = ap₂ (cross_allows ms) (get_d_right v w (pos 0) p e) (get_d_right v w (pos 0) f e)

module _ (n f : ℕ) (ls ks : List (List ℤ)) (e : length ls ≡ n) where
  childless_map-left : (o : Option KeptMap) → ParentBelow n (parent_in o) → f < n → childless_map (ls ++ ks) o f ≡ childless_map ls o f
  childless_map-left none k h = refl
  childless_map-left (some (kept p ms)) k h = ap₂ (λ (a b : List ℤ). any (childless_key ms a) b) (get_d_left ls ks [] f e h) (get_d_left ls ks [] p e k)

  childless_map_right : (o : Option KeptMap) → childless_map (ls ++ ks) (move_kept n o) (n + f) ≡ childless_map ks o f
  childless_map_right none = refl
  childless_map_right (some (kept p ms)) = ap₂ (λ (a b : List ℤ). any (childless_key ms a) b) (get_d_right ls ks [] f e) (get_d_right ls ks [] p e)

module _ (s t : Spec) (wf : Named s) where
  maps_hold-join : (e : Engine) (v w : List ℤ) → length v ≡ width s → maps_hold e (join_spec s t) (v ++ w) ≡ (maps_hold e s v && maps_hold e t w)
  unfolding maps_hold
  maps_hold-join e v w l = all-fields s t (λ f. map_holds (map_of e (join_spec s t) f) f (v ++ w)) (λ f. map_holds (map_of e s f) f v) (λ f. map_holds (map_of e t f) f w)
      (λ f h. ap (λ o. map_holds o f (v ++ w)) (map_of-left e s t wf f h) ∙ map_holds-left (width s) f v w l (map_of e s f) (map_of-below e s wf f) h)
      (λ f. ap (λ o. map_holds o (width s + f) (v ++ w)) (map_of_right e s t wf f) ∙ map_holds_right (width s) f v w l (map_of e t f))

  childless-join : childless (join_spec s t) ≡ (childless s || childless t)
  unfolding childless join_spec
  childless-join = ap (λ ls. any (λ f. childless_map ls (kept_map js f) f) (upto (width (join_spec s t)))) (allowed_lists-join s t wf)
      ∙ any-fields s t (λ f. childless_map (allowed_lists s ++ allowed_lists t) (kept_map js f) f) (λ f. childless_map (allowed_lists s) (kept_map s.constraints f) f) (λ f. childless_map (allowed_lists t) (kept_map t.constraints f) f)
      (λ f h. ap (λ o. childless_map (allowed_lists s ++ allowed_lists t) o f) (kept-left (width s) s.constraints wf t.constraints f h) ∙ childless_map-left (width s) f (allowed_lists s) (allowed_lists t) len (kept_map s.constraints f) (parent-below (width s) s.constraints wf f) h)
      (λ f. ap (λ o. childless_map (allowed_lists s ++ allowed_lists t) o (width s + f)) (kept_right (width s) s.constraints wf t.constraints f) ∙ childless_map_right (width s) f (allowed_lists s) (allowed_lists t) len (kept_map t.constraints f))
    where
      js : List ConstraintSpec
      js = s.constraints ++ map (move (width s)) t.constraints

      len : length (allowed_lists s) ≡ width s
      len = unfold lists_of in length-lists_of structural s

-- A joined specification has no cycle and no key without a child where neither half has.
pub unsound_join : (e : Engine) (s t : Spec) → Named s → unsound e s ≡ false → unsound e t ≡ false → unsound e (join_spec s t) ≡ false
unsound_join structural s t wf h k =
    let a = or_split (cyclic s) (childless s) h in
    let b = or_split (cyclic t) (childless t) k in
    ap₂ ◌||◌ (cyclic-join s t wf a.0 b.0) (childless-join s t wf ∙ ap₂ ◌||◌ a.1 b.1)
unsound_join exhaustive s t wf h k = refl

-- ---- emitted
zeros-join : (s t : Spec) → zeros (width (join_spec s t)) ≡ zeros (width s) ++ zeros (width t)
zeros-join s t = ap zeros (width-join s t) ∙ replicate_add (width s) (width t) 0

candidates_join : (e : Engine) (s t : Spec) → Named s → unsound e s ≡ false → candidates e (join_spec s t) ≡ pair_up ◌++◌ (candidates e s) (candidates e t)
unfolding candidates
candidates_join e s t wf h = rw (lists-join e s t wf, order_of-join e s t wf h, zeros-join s t)
    (tuples-join (width s) (lists_of e s) (lists_of e t) (length-lists_of e s) (order_of e t) (zeros (width s)) (zeros (width t)) (order_of-below e s) (length-replicate (width s) 0))

held_join : (e : Engine) (s t : Spec) → Named s → (u : List ℕ) → length u ≡ width s → (w : List ℕ) → held e (join_spec s t) (u ++ w) ≡ (held e s u && held e t w)
held_join e s t wf u l w =
    ap (λ ls. maps_hold e (join_spec s t) (values ls (u ++ w))) (lists-join e s t wf)
    ∙ ap (maps_hold e (join_spec s t)) (values_join (lists_of e s) (lists_of e t) u w (l ∙ sym (length-lists_of e s)))
    ∙ maps_hold-join s t wf e (values (lists_of e s) u) (values (lists_of e t) w) (values_length (lists_of e s) u (l ∙ sym (length-lists_of e s)) ∙ length-lists_of e s)

pub emitted-join : (e : Engine) (s t : Spec) → Named s → unsound e s ≡ false → 0 < width s → 0 < width t → emitted e (join_spec s t) ≡ pair_up ◌++◌ (emitted e s) (emitted e t)
emitted-join e s t wf h a b =
    emitted_candidates e (join_spec s t) (rw (width-join s t) (omega arith))
    ∙ ap (filter (held e (join_spec s t))) (candidates_join e s t wf h)
    ∙ filter-pair_up ◌++◌ (held e (join_spec s t)) (held e s) (held e t) (candidates e t) (All_imp (held_join e s t wf) (candidates_length e s))
    ∙ sym (ap₂ (pair_up ◌++◌) (emitted_candidates e s a) (emitted_candidates e t b))
