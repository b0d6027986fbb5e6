-- Demand 3: two whole files under one engine, whichever of the two it is. The join multiplies.
use mathlib.Core.Bool.{Bool, ◌&&◌, cond, false, true, true≢false}
use mathlib.Core.List.{List, [], ◌++◌}
use mathlib.Core.Option.{Option, none, some}
use mathlib.Core.Path.{◌∙◌, ◌≡◌, ap, ap₂, refl, subst, sym}
use Prim.Native.Nat.{◌*◌, ◌+◌, ◌-◌, ◌<◌, ◌≤◌, suc, zero, ℕ}
use native.Mathlib.Omega.{arith}
use lib.Dec.{eqb, ltb}
use lib.IntN.{◌+ℤ◌, ℤ}
use lib.ListN.{get_or, length}
use Rattle.lists.specs.Integers.{sum_z}
use Rattle.lists.specs.Lists.{count_if, pair_up}
use Rattle.lists.proofs.All.{All, All_at, All-mapped, All_of}
use Rattle.lists.proofs.Pairs.{count_if-pair_up, get_d_pair_up, length-pair_up}
use Rattle.lists.proofs.Tests.{and_split, no_ge, yes_eq}
use Rattle.spec.specs.Domain.{too_many, total}
use Rattle.spec.specs.Record.{decoded}
use Rattle.spec.specs.Refusal.{Refused, file_fault, refuse, refuse_if}
use Rattle.spec.specs.Spec.{Decompose, Identity, Parity, ProjectorSpec, Spec, Sum}
use Rattle.spec.proofs.Accepted.{decoded-named}
use Rattle.spec.proofs.Refusals.{refuse_if_no, ▷_left, ▷_right}
use Rattle.registry.specs.Project.{project}
use Rattle.compose.specs.Force.{force}
use Rattle.compose.specs.Tuples.{Engine, emitted, lists_of, values}
use Rattle.compose.proofs.Emitted.{unsound}
use Rattle.evaluate.specs.Verdict.{Verdict, if_passed, passed, place_of}
use Rattle.classifier.specs.Count.{Accepts, counts_of, passed_count, verdict_of, verdicts}
use Rattle.classifier.proofs.Accepts.{accepted_of, of_accepted}
use Rattle.join.specs.Join.{Which, add_projections, first, is_sum, join_bytes, join_fault, join_spec, joined, joined_verdict, not_sum, of, projector_at, second, too_many_records}
use Rattle.join.proofs.Bytes.{join-decoded, join_records-whole, join_whole32}
use Rattle.join.proofs.Place.{Among, PlaceFormula, join_place_formula}
use Rattle.join.proofs.Tuples.{unsound_join}
use Rattle.join.proofs.Verdicts.{passed-join, total-join, verdicts-join}

-- Verdict i of a list, counting from 1.
abbrev pub nth : List Verdict → ℕ → Verdict
nth vs i = get_or vs (i - 1) (record { place = 0; projection = none; values = [] })

-- What a joined verdict is, from a verdict v of file f and a verdict w of file g.
pub record JoinedFrom (f g : List ℕ) (v w joined : Verdict) : Type 0 where
  -- The first's values and then the second's.
  pub values : joined.values ≡ v.values ++ w.values
  -- Passed exactly when both are.
  pub passes : passed joined ≡ (passed v && passed w)
  -- Its projection is then their two projections added.
  pub projects : passed joined ≡ true → (x : ℤ) × (y : ℤ) × (v.projection ≡ some x) × (w.projection ≡ some y) × (joined.projection ≡ some (x +ℤ y))
  -- A failed one has none.
  pub fails : passed joined ≡ false → joined.projection ≡ none
  -- Its place follows from the two places.
  pub place : PlaceFormula (length (decoded f).fields) (length (decoded g).fields) (length (decoded f).constraints) v.place w.place joined.place

-- What is said of a file h that is f and g joined.
pub record Multiplies (e : Engine) (f g h : List ℕ) : Type 0 where
  -- That engine then accepts the joined file too, given scratch for its lists.
  pub accepted : Accepts e h
  -- Its verdicts are, for each of the first's in order, each of the second's in order, and no others.
  pub list : verdicts e (decoded h) ≡ pair_up (joined_verdict (decoded f) (decoded g)) (verdicts e (decoded f)) (verdicts e (decoded g))
  -- Where the second file has k verdicts, joined verdict (i − 1) × k + j comes from the first's verdict i and the second's verdict j.
  pub each : (i j : ℕ) → Among i (length (verdicts e (decoded f))) → Among j (length (verdicts e (decoded g)))
      → JoinedFrom f g (nth (verdicts e (decoded f)) i) (nth (verdicts e (decoded g)) j) (nth (verdicts e (decoded h)) ((i - 1) * length (verdicts e (decoded g)) + j))
  -- The joined file's total, emitted and passed counts are the products of the two files' counts; failed = total − passed.
  pub total : (counts_of e (decoded h)).total ≡ (counts_of e (decoded f)).total * (counts_of e (decoded g)).total
  pub emitted : (counts_of e (decoded h)).emitted ≡ (counts_of e (decoded f)).emitted * (counts_of e (decoded g)).emitted
  pub passed : (counts_of e (decoded h)).passed ≡ (counts_of e (decoded f)).passed * (counts_of e (decoded g)).passed
  pub failed : (counts_of e (decoded h)).failed ≡ (counts_of e (decoded h)).total - (counts_of e (decoded h)).passed

-- The join multiplies.
abbrev pub JoinMultiplies : Engine → List ℕ → List ℕ → Type 0
JoinMultiplies e f g = Multiplies e f g (join_bytes f g)

-- ---- what a join that is not refused says
of_none : (w : Which) (o : Option Refused) → of w o ≡ none → o ≡ none
of_none w none e = refl
of_none w (some r) e = let z : ◌≡◌ {A = ℕ} 0 1 = cc in absurd (omega arith)

sum_of : (file : List ℕ) → not_sum file ≡ none → (decoded file).projector ≡ Sum
sum_of file e = go (decoded file).projector e
  where
    go : (o : ProjectorSpec) → cond (is_sum o) none (refuse 16 (projector_at file)) ≡ none → o ≡ Sum
    go Sum e = refl
    go (Identity f) e = let z : ◌≡◌ {A = ℕ} 0 1 = cc in absurd (omega arith)
    go (Parity f) e = let z : ◌≡◌ {A = ℕ} 0 1 = cc in absurd (omega arith)
    go (Decompose f base offset axes) e = let z : ◌≡◌ {A = ℕ} 0 1 = cc in absurd (omega arith)

pub record Joinable (f g : List ℕ) : Type 0 where
  pub sum₁ : (decoded f).projector ≡ Sum
  pub sum₂ : (decoded g).projector ≡ Sum
  pub few : too_many_records (decoded f) (decoded g) ≡ false
  pub short : length (join_bytes f g) ≤ 65536
  pub sized : too_many (join_spec (decoded f) (decoded g)) ≡ false

pub joinable : (room : ℕ) (f g : List ℕ) → join_fault room f g ≡ none → Joinable f g
unfolding join_fault
joinable room f g e₀ =
    let e₁ = ▷_right (of first (file_fault f)) _ e₀ in
    let e₂ = ▷_right (of second (file_fault g)) _ e₁ in
    let e₃ = ▷_right (of first (not_sum f)) _ e₂ in
    let e₄ = ▷_right (of second (not_sum g)) _ e₃ in
    let e₅ = ▷_right (of joined (refuse_if (too_many_records (decoded f) (decoded g)) 5)) _ e₄ in
    let e₆ = ▷_right (of joined (refuse_if (ltb 65536 (length (join_bytes f g))) 1)) _ e₅ in
    record {
      sum₁ = sum_of f (of_none first (not_sum f) (▷_left (of first (not_sum f)) _ e₂));
      sum₂ = sum_of g (of_none second (not_sum g) (▷_left (of second (not_sum g)) _ e₃));
      few = refuse_if_no (too_many_records (decoded f) (decoded g)) 4 (of_none joined (refuse_if (too_many_records (decoded f) (decoded g)) 5) (▷_left (of joined (refuse_if (too_many_records (decoded f) (decoded g)) 5)) _ e₄));
      short = no_ge 65536 (length (join_bytes f g)) (refuse_if_no (ltb 65536 (length (join_bytes f g))) 0 (of_none joined (refuse_if (ltb 65536 (length (join_bytes f g))) 1) (▷_left (of joined (refuse_if (ltb 65536 (length (join_bytes f g))) 1)) _ e₅)));
      sized = refuse_if_no (too_many (join_spec (decoded f) (decoded g))) 9 (of_none joined (refuse_if (too_many (join_spec (decoded f) (decoded g))) 10) (▷_left (of joined (refuse_if (too_many (join_spec (decoded f) (decoded g))) 10)) _ e₆));
    }

-- ---- projections under a sum
-- A passed verdict's projection is the sum of its values, a failed one has none.
abbrev Summed : Verdict → Type 0
Summed v = v.projection ≡ if_passed v.place (some (sum_z v.values))

verdicts_summed : (e : Engine) (s : Spec) → s.projector ≡ Sum → All Summed (verdicts e s)
unfolding verdicts verdict_of
verdicts_summed e s h = All-mapped (verdict_of e s) (All_of (λ t. ap (λ o. if_passed (place_of s (row t)) (project o (row t))) h) (emitted e s))
  where
    row : List ℕ → List ℤ
    row t = force e s.constraints (values (lists_of e s) t)

passed-zero : (v : Verdict) → passed v ≡ true → v.place ≡ 0
passed-zero v h = yes_eq v.place 0 h

failed-none : (p : ℕ) (o : Option ℤ) → eqb p 0 ≡ false → if_passed p o ≡ none
failed-none zero o h = absurd (true≢false h)
failed-none (suc p) o h = refl

summed_passed : (v : Verdict) → Summed v → passed v ≡ true → v.projection ≡ some (sum_z v.values)
summed_passed v s h = s ∙ ap (λ (p : ℕ). if_passed p (some (sum_z v.values))) (passed-zero v h)

summed_failed : (v : Verdict) → Summed v → passed v ≡ false → v.projection ≡ none
summed_failed v s h = s ∙ failed-none v.place (some (sum_z v.values)) h

joined_from : (f g : List ℕ) (v w : Verdict) → Summed v → Summed w → JoinedFrom f g v w (joined_verdict (decoded f) (decoded g) v w)
joined_from f g v w sv sw = record {
  values = refl;
  passes = both;
  projects = λ h. let p = and_split (passed v) (passed w) (sym both ∙ h) in
      let a = summed_passed v sv p.0 in
      let b = summed_passed w sw p.1 in
      (sum_z v.values, sum_z w.values, a, b, ap₂ add_projections a b);
  fails = λ h. one_failed (passed v) refl (sym both ∙ h);
  place = join_place_formula (length (decoded f).fields) (length (decoded g).fields) (length (decoded f).constraints) v.place w.place;
}
  where
    both : passed (joined_verdict (decoded f) (decoded g) v w) ≡ (passed v && passed w)
    both = passed-join (decoded f) (decoded g) v w

    add_none : (o : Option ℤ) → add_projections o none ≡ none
    add_none none = refl
    add_none (some x) = refl

    one_failed : (b : Bool) → passed v ≡ b → (passed v && passed w) ≡ false → add_projections v.projection w.projection ≡ none
    one_failed true e h = ap (add_projections v.projection) (summed_failed w sw (sym (ap (λ c. c && passed w) e) ∙ h)) ∙ add_none v.projection
    one_failed false e h = ap (λ o. add_projections o w.projection) (summed_failed v sv e)

-- ---- the theorem
pub join_multiplies : (e : Engine) (f g : List ℕ) (room : ℕ) → Accepts e f → Accepts e g → 0 < length (decoded f).fields → 0 < length (decoded g).fields → join_fault room f g ≡ none → JoinMultiplies e f g
unfolding counts_of passed_count
join_multiplies e f g room af ag nf ng jf =
    let a = accepted_of e f af in
    let b = accepted_of e g ag in
    let j = joinable room f g jf in
    let wf = a.good.whole in
    let wg = b.good.whole in
    let d : decoded (join_bytes f g) ≡ join_spec (decoded f) (decoded g) = join-decoded f g a.good.whole32 b.good.whole32 wf wg in
    let named = decoded-named f wf in
    let v : verdicts e (decoded (join_bytes f g)) ≡ pair_up (joined_verdict (decoded f) (decoded g)) (verdicts e (decoded f)) (verdicts e (decoded g)) =
    ap (verdicts e) d ∙ verdicts-join e (decoded f) (decoded g) named a.sound nf ng j.sum₁ j.sum₂ in
    record {
      accepted = of_accepted e (join_bytes f g) (record {
        good = record {
          whole32 = join_whole32 f g a.good.whole32 b.good.whole32;
          short = j.short;
          whole = join_records-whole f g a.good.whole32 b.good.whole32 wf wg j.few;
          sized = ap too_many d ∙ j.sized;
        };
        sound = ap (unsound e) d ∙ unsound_join e (decoded f) (decoded g) named a.sound b.sound;
      });
      list = v;
      each = λ i k hi hk. subst (JoinedFrom f g (nth (verdicts e (decoded f)) i) (nth (verdicts e (decoded g)) k))
          (sym (ap (λ vs. nth vs ((i - 1) * length (verdicts e (decoded g)) + k)) v ∙ nth_pair_up (joined_verdict (decoded f) (decoded g)) (verdicts e (decoded f)) (verdicts e (decoded g)) i k hi hk))
          (joined_from f g (nth (verdicts e (decoded f)) i) (nth (verdicts e (decoded g)) k)
          (All_nth (verdicts e (decoded f)) (verdicts_summed e (decoded f) j.sum₁) i hi) (All_nth (verdicts e (decoded g)) (verdicts_summed e (decoded g) j.sum₂) k hk));
      total = ap total d ∙ total-join (decoded f) (decoded g) nf ng;
      emitted = ap length v ∙ length-pair_up (joined_verdict (decoded f) (decoded g)) (verdicts e (decoded f)) (verdicts e (decoded g));
      passed = ap (count_if passed) v ∙ count_if-pair_up (joined_verdict (decoded f) (decoded g)) passed passed passed (passed-join (decoded f) (decoded g)) (verdicts e (decoded f)) (verdicts e (decoded g));
      failed = refl;
    }
  where
    All_nth : (vs : List Verdict) → All Summed vs → (i : ℕ) → Among i (length vs) → Summed (nth vs i)
    All_nth vs h i a = let l = a.0 in let m = a.1 in All_at _ vs h (i - 1) (omega arith)

    nth_pair_up : (j : Verdict → Verdict → Verdict) (vs ws : List Verdict) (i k : ℕ) → Among i (length vs) → Among k (length ws) → nth (pair_up j vs ws) ((i - 1) * length ws + k) ≡ j (nth vs i) (nth ws k)
    nth_pair_up j vs ws i k a b =
        let la = a.0 in
        let ma = a.1 in
        let lb = b.0 in
        let mb = b.1 in
        let at : (i - 1) * length ws + k - 1 ≡ (i - 1) * length ws + (k - 1) = omega arith in
        ap (λ (x : ℕ). get_or (pair_up j vs ws) x (record { place = 0; projection = none; values = [] })) at ∙ get_d_pair_up j _ _ _ vs ws (i - 1) (k - 1) (omega arith) (omega arith)
