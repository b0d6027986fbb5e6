-- The verdicts and the total of a joined specification.
use mathlib.Core.Bool.{◌&&◌, false}
use mathlib.Core.List.{List, [], ◌++◌, ◌∷◌, map}
use mathlib.Core.Option.{Option, none, some}
use mathlib.Core.Path.{◌∙◌, ◌≡◌, ap, ap₂, refl, subst, sym}
use Prim.Native.Nat.{◌*◌, ◌+◌, ◌<◌, suc, zero, ℕ}
use native.Mathlib.Omega.{arith}
use lib.Dec.{eqb, eqb-suc-zero}
use lib.IntN.{+ℤ_assoc, +ℤ_idl, ◌+ℤ◌, ℤ}
use lib.ListN.{length, length-append, length-map}
use Rattle.lists.specs.Integers.{sum_z}
use Rattle.lists.specs.Lists.{first_false, pair_up, product}
use Rattle.lists.proofs.All.{All, All-filter, All_imp}
use Rattle.lists.proofs.Lists.{map_append}
use Rattle.lists.proofs.Numbers.{product_append}
use Rattle.lists.proofs.Pairs.{map-pair_up}
use Rattle.spec.specs.Domain.{allows, domain, total, zero_without}
use Rattle.spec.specs.Spec.{FieldSpec, Spec, Sum}
use Rattle.spec.proofs.Named.{Named, width}
use Rattle.registry.specs.Check.{holds}
use Rattle.registry.specs.Project.{project}
use Rattle.compose.specs.Force.{force}
use Rattle.compose.specs.Tuples.{Engine, emitted, lists_of, values}
use Rattle.compose.proofs.Emitted.{candidates_length, emitted_candidates, held, length-lists_of, unsound}
use Rattle.evaluate.specs.Verdict.{Verdict, evaluate, field_checks, if_passed, passed, place_of}
use Rattle.evaluate.proofs.Place.{length-field_checks}
use Rattle.classifier.specs.Count.{verdict_of, verdicts}
use Rattle.join.specs.Join.{add_projections, join_place, join_spec, joined_verdict, move}
use Rattle.join.proofs.Place.{join_place-pos, place_join}
use Rattle.join.proofs.Row.{all_hold-left, all_hold_right, force-join, length-force}
use Rattle.join.proofs.Tuples.{emitted-join, lists-join, values_join, values_length}

fields_join : (fs gs : List FieldSpec) (v w : List ℤ) → length v ≡ length fs → field_checks (fs ++ gs) (v ++ w) ≡ field_checks fs v ++ field_checks gs w
fields_join [] gs [] w h = refl
fields_join [] gs (x ∷ v) w h = absurd (omega arith)
fields_join (f ∷ fs) gs [] w h = absurd (omega arith)
fields_join (f ∷ fs) gs (x ∷ v) w h = ap (λ bs. allows f x ∷ bs) (fields_join fs gs v w (omega arith))

sum_join : (v w : List ℤ) → sum_z (v ++ w) ≡ sum_z v +ℤ sum_z w
sum_join [] w = sym (+ℤ_idl (sum_z w))
sum_join (x ∷ v) w = ap (λ y. x +ℤ y) (sum_join v w) ∙ sym (+ℤ_assoc x (sum_z v) (sum_z w))

if_passed-join : (n m c p q : ℕ) (x y : ℤ) → if_passed (join_place n m c p q) (some (x +ℤ y)) ≡ add_projections (if_passed p (some x)) (if_passed q (some y))
unfolding join_place
if_passed-join n m c p q x y = go p q (join_place-pos n m c p q)
  where
    none_of : (k : ℕ) → 0 < k → (o : Option ℤ) → if_passed k o ≡ none
    none_of zero h o = absurd (omega arith)
    none_of (suc k) h o = refl

    add_projections-none : (o : Option ℤ) → add_projections o none ≡ none
    add_projections-none none = refl
    add_projections-none (some z) = refl

    go : (p q : ℕ) → (0 < p + q → 0 < join_place n m c p q) → if_passed (join_place n m c p q) (some (x +ℤ y)) ≡ add_projections (if_passed p (some x)) (if_passed q (some y))
    go zero zero h = refl
    go zero (suc q) h = none_of (join_place n m c 0 (suc q)) (h (omega arith)) (some (x +ℤ y))
    go (suc p) q h = none_of (join_place n m c (suc p) q) (h (omega arith)) (some (x +ℤ y))

module _ (s t : Spec) (wf : Named s) where
  module _ (v w : List ℤ) (e : length v ≡ width s) where
    checks_join : field_checks (join_spec s t).fields (v ++ w) ++ map (holds (v ++ w)) (join_spec s t).constraints
        ≡ (field_checks s.fields v ++ field_checks t.fields w) ++ (map (holds v) s.constraints ++ map (holds w) t.constraints)
    unfolding join_spec
    checks_join = ap₂ ◌++◌ (fields_join s.fields t.fields v w e)
        (map_append (holds (v ++ w)) s.constraints (map (move (width s)) t.constraints) ∙ ap₂ ◌++◌ (all_hold-left (width s) v e w wf) (all_hold_right (width s) v e w t.constraints))

    place_joined : place_of (join_spec s t) (v ++ w) ≡ join_place (width s) (width t) (length s.constraints) (place_of s v) (place_of t w)
    place_joined = ap first_false checks_join ∙ place_join (field_checks s.fields v) (field_checks t.fields w) (map (holds v) s.constraints) (map (holds w) t.constraints)
        ∙ rw (length-field_checks s.fields v, length-field_checks t.fields w, length-map s.constraints (holds v))

    evaluate-join : s.projector ≡ Sum → t.projector ≡ Sum → evaluate (join_spec s t) (v ++ w) ≡ joined_verdict s t (evaluate s v) (evaluate t w)
    unfolding join_spec
    evaluate-join a b = λ i. record {
      place = place_joined i;
      projection = (ap₂ if_passed place_joined (ap some (sum_join v w)) ∙ if_passed-join (width s) (width t) (length s.constraints) (place_of s v) (place_of t w) (sum_z v) (sum_z w)
          ∙ ap₂ add_projections (ap (λ o. if_passed (place_of s v) (project o v)) (sym a)) (ap (λ o. if_passed (place_of t w) (project o w)) (sym b))) i;
      values = v ++ w;
    }

verdict_join : (x : Engine) (s t : Spec) → Named s → s.projector ≡ Sum → t.projector ≡ Sum
    → (u : List ℕ) → length u ≡ width s → (w : List ℕ) → verdict_of x (join_spec s t) (u ++ w) ≡ joined_verdict s t (verdict_of x s u) (verdict_of x t w)
unfolding verdict_of join_spec
verdict_join x s t wf a b u h w =
    let vs = values (lists_of x s) u in
    let ws = values (lists_of x t) w in
    let e : length vs ≡ width s = values_length (lists_of x s) u (h ∙ sym (length-lists_of x s)) ∙ length-lists_of x s in
    ap (evaluate (join_spec s t))
    (ap (λ ls. force x (join_spec s t).constraints (values ls (u ++ w))) (lists-join x s t wf)
    ∙ ap (force x (join_spec s t).constraints) (values_join (lists_of x s) (lists_of x t) u w (h ∙ sym (length-lists_of x s)))
    ∙ force-join x (width s) vs ws e wf t.constraints)
    ∙ evaluate-join s t wf (force x s.constraints vs) (force x t.constraints ws) (length-force x s.constraints vs ∙ e) a b

emitted-length : (e : Engine) (s : Spec) → 0 < width s → All (λ u. length u ≡ width s) (emitted e s)
emitted-length e s h = subst (All (λ u. length u ≡ width s)) (sym (emitted_candidates e s h)) (All-filter (held e s) (candidates_length e s))

-- For each of the first's verdicts in order, each of the second's in order, and no others.
pub verdicts-join : (x : Engine) (s t : Spec) → Named s → unsound x s ≡ false → 0 < width s → 0 < width t → s.projector ≡ Sum → t.projector ≡ Sum
    → verdicts x (join_spec s t) ≡ pair_up (joined_verdict s t) (verdicts x s) (verdicts x t)
unfolding verdicts
verdicts-join x s t wf h a b p q = ap (map (verdict_of x (join_spec s t))) (emitted-join x s t wf h a b)
    ∙ map-pair_up (verdict_of x (join_spec s t)) ◌++◌ (joined_verdict s t) (verdict_of x s) (verdict_of x t) (emitted x t) (All_imp (verdict_join x s t wf p q) (emitted-length x s a))

zero_without-pos : (fs : List FieldSpec) (k : ℕ) → 0 < length fs → zero_without fs k ≡ k
zero_without-pos [] k h = absurd (omega arith)
zero_without-pos (f ∷ fs) k h = refl

pub total-join : (s t : Spec) → 0 < width s → 0 < width t → total (join_spec s t) ≡ total s * total t
unfolding total join_spec
total-join s t a b =
    zero_without-pos (s.fields ++ t.fields) _ (rw length-append (omega arith))
    ∙ ap product (map_append (λ f. length (domain f)) s.fields t.fields) ∙ product_append (map (λ f. length (domain f)) s.fields) (map (λ f. length (domain f)) t.fields)
    ∙ sym (ap₂ ◌*◌ (zero_without-pos s.fields _ a) (zero_without-pos t.fields _ b))

pub passed-join : (s t : Spec) (a b : Verdict) → passed (joined_verdict s t a b) ≡ (passed a && passed b)
unfolding join_place
passed-join s t a b = go a.place b.place (join_place-pos (width s) (width t) (length s.constraints) a.place b.place)
  where
    zero_no : (k : ℕ) → 0 < k → eqb k 0 ≡ false
    zero_no zero h = absurd (omega arith)
    zero_no (suc k) h = eqb-suc-zero k

    go : (p q : ℕ) → (0 < p + q → 0 < join_place (width s) (width t) (length s.constraints) p q) → eqb (join_place (width s) (width t) (length s.constraints) p q) 0 ≡ (eqb p 0 && eqb q 0)
    go zero zero h = refl
    go zero (suc q) h = zero_no (join_place (width s) (width t) (length s.constraints) 0 (suc q)) (h (omega arith)) ∙ sym (eqb-suc-zero q)
    go (suc p) q h = zero_no (join_place (width s) (width t) (length s.constraints) (suc p) q) (h (omega arith)) ∙ sym (rw (eqb-suc-zero p))
