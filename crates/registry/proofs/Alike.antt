-- An index of a run is one of every run of the same records.
use mathlib.Core.Bool.{false}
use mathlib.Core.List.{List, [], ◌∷◌, map}
use mathlib.Core.Path.{◌∙◌, ◌≡◌, ap, ap₂, refl, subst, sym}
use Prim.Native.Nat.{◌/◌, ◌<◌, suc, ℕ}
use native.Mathlib.Omega.{arith}
use lib.ListN.{get_or, length}
use Rattle.lists.specs.Lists.{any}
use Rattle.spec.specs.Record.{Record, record_at, records_of}
use Rattle.spec.proofs.Fields.{length_records, record_get_d}
use Rattle.registry.specs.Index.{Indexed, Sorted, is_below, placed}

module _ (run other : List ℕ) (same : records_of run ≡ records_of other) where
  many_same : length run / 32 ≡ length other / 32
  many_same = sym (length_records run) ∙ ap length same ∙ length_records other

  record_same : (i : ℕ) → i < length run / 32 → record_at run i ≡ record_at other i
  record_same i h =
      sym (record_get_d (record_at run 0) run i h) ∙ ap (λ (rs : List Record). get_or rs i (record_at run 0)) same
      ∙ record_get_d (record_at run 0) other i (subst (λ (n : ℕ). i < n) many_same h)

  map_same : (l : List ℕ) → ((k : ℕ) → k < length l → get_or l k 0 < length run / 32) → map (record_at run) l ≡ map (record_at other) l
  map_same [] h = refl
  map_same (x ∷ l) h = ap₂ ◌∷◌ (record_same x (h 0 (omega arith))) (map_same l (λ k q. h (suc k) (omega arith)))

  module _ (places : List ℕ) where
    sorted-same : Sorted run places → Sorted other places
    sorted-same s = record { inside = λ k h. subst (λ (n : ℕ). get_or places k 0 < n) many_same (s.inside k h); rising = rising-same }
      where
        at_same : (k : ℕ) → k < length places → placed run places k ≡ placed other places k
        at_same k h = record_same (get_or places k 0) (s.inside k h)

        rising-same : (i j : ℕ) → i < j → j < length places → is_below (placed other places i).p (placed other places i).q (placed other places j) ≡ false
        rising-same i j h l =
            let below : i < length places = omega arith in
            subst (λ (a : Record). is_below a.p a.q (placed other places j) ≡ false) (at_same i below) (subst (λ (b : Record). is_below (placed run places i).p (placed run places i).q b ≡ false) (at_same j l) (s.rising i j h l))

    pub indexed-same : Indexed run places → Indexed other places
    indexed-same i = record { sorted = sorted-same i.sorted; whole = λ test. ap (any test) (sym (map_same places i.sorted.inside)) ∙ i.whole test ∙ ap (any test) same }
