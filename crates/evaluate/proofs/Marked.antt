-- The index of a file with the members of one more head in it: their places behind the head, and the head marked.
use mathlib.Core.Bool.{Bool, ◌||◌, false, true}
use mathlib.Core.List.{List, [], ◌∷◌}
use mathlib.Core.Logic.{◌⊎◌, inl, inr}
use mathlib.Core.Path.{◌∙◌, ◌≡◌, ap, refl, subst, sym}
use Prim.Native.Nat.{◌+◌, ◌-◌, ◌/◌, ◌<◌, ◌≤◌, suc, zero, ℕ}
use native.Mathlib.Numerals.{add-one}
use native.Mathlib.Omega.{arith}
use borrow.Rule.Slice.PartMut.{drop_put, mid_len, put_mid, same_len_mid, take_put}
use lib.Dec.{ltb}
use lib.ListN.{get_or-eq_default, drop, get_or, get_or-replicate, length, length-set, replicate, set, take}
use lib.Seq.{drop_at, drop-set-lt, get_or-drop, get_or-set_same, get_or-take, length-take-le, take_at, take-nil, take-set-le, take-take}
use Rattle.std.specs.List.{list_any, range_with_len}
use Rattle.lists.specs.Lists.{any, span}
use Rattle.lists.proofs.Tests.{no_ge, yes_lt}
use Rattle.spec.specs.Record.{records_of}
use Rattle.spec.proofs.Fields.{length_records}
use Rattle.registry.specs.Index.{Indexed, IndexedAt, IndexIn}
use Rattle.registry.proofs.Alike.{indexed-same}
use Rattle.evaluate.specs.Code.{Unindexed}

-- ---- parts of a list
drop-take : (k n m : ℕ) (l : List ℕ) → k + n ≡ m → drop k (take m l) ≡ take n (drop k l)
drop-take zero n m l e = let q : m ≡ n = omega arith in ap (λ (j : ℕ). take j l) q
drop-take (suc k) n zero l e = absurd (omega arith)
drop-take (suc k) n (suc m) [] e = sym (take-nil n)
drop-take (suc k) n (suc m) (x ∷ l) e = drop-take k n m l (omega arith)

-- Lists that begin alike have the same parts there.
part_same : (xs ys : List ℕ) (a e : ℕ) → a ≤ e → take e xs ≡ take e ys → take (e - a) (drop a xs) ≡ take (e - a) (drop a ys)
part_same xs ys a e h q = sym (drop-take a (e - a) e xs (omega arith)) ∙ ap (drop a) q ∙ drop-take a (e - a) e ys (omega arith)

take_entry : (xs ys : List ℕ) (n j : ℕ) → j < n → take n xs ≡ take n ys → get_or xs j 0 ≡ get_or ys j 0
take_entry xs ys n j h q = sym (get_or-take n xs j 0 h) ∙ ap (λ (l : List ℕ). get_or l j 0) q ∙ get_or-take n ys j 0 h

drop_entry : (xs ys : List ℕ) (n j : ℕ) → n ≤ j → drop n xs ≡ drop n ys → get_or xs j 0 ≡ get_or ys j 0
drop_entry xs ys n j h q =
    let e : n + (j - n) ≡ j = omega arith in
    ap (λ (k : ℕ). get_or xs k 0) (sym e) ∙ sym (get_or-drop n xs (j - n) 0) ∙ ap (λ (l : List ℕ). get_or l (j - n) 0) q ∙ get_or-drop n ys (j - n) 0 ∙ ap (λ (k : ℕ). get_or ys k 0) e

-- How many records a part of a file has.
pub part_size : (file run : List ℕ) (from end : ℕ) → end ≤ length file / 32 → records_of run ≡ take (end - from) (drop from (records_of file)) → length run / 32 ≡ end - from
part_size file run from end h e = sym (length_records run) ∙ ap length e ∙ mid_len from end (records_of file) (subst (λ (n : ℕ). end ≤ n) (sym (length_records file)) h)

-- ---- whether one of the numbers from one on passes a test, as std says it
pub any_places : (p : ℕ → Bool) (n from : ℕ) → list_any p (range_with_len from n) ≡ any p (span from n)
any_places p zero from = refl
any_places p (suc n) from = ap (λ (b : Bool). p from || b) (ap (λ (a : ℕ). list_any p (range_with_len a n)) (add-one from) ∙ any_places p n (suc from))

-- ---- an index of zeros
module _ (file index : List ℕ) (zeros : index ≡ replicate (length index) 0) where
  zero_at : (i : ℕ) → get_or index i 0 ≡ 0
  zero_at i = go (ltb i (length index)) refl
    where
      go : (b : Bool) → ltb i (length index) ≡ b → get_or index i 0 ≡ 0
      go true e = ap (λ (l : List ℕ). get_or l i 0) zeros ∙ get_or-replicate (length index) i 0 0 (yes_lt i (length index) e)
      go false e = get_or-eq_default index 0 (no_ge i (length index) e)

  pub zeros_index : IndexIn file index
  zeros_index head end e = let z = zero_at head in absurd (omega (arith, e))

  pub zeros_unindexed : (from : ℕ) → Unindexed index from
  zeros_unindexed from = record { clear = λ i h. zero_at i; ended = λ head end e. let z = zero_at head in absurd (omega (arith, e)) }

pub unindexed_up : (index : List ℕ) (from to : ℕ) → from ≤ to → Unindexed index from → Unindexed index to
unindexed_up index from to h u = record { clear = λ i l. let k : from ≤ i = omega arith in u.clear i k; ended = λ head end e. let k = u.ended head end e in omega arith }

-- ---- one more head
module _ (file index places run : List ℕ) (head end : ℕ) (before : head < end) (inside : end ≤ length file / 32) (long : length file / 32 ≤ length index) (few : length index ≤ 2048) where
  abbrev laid : List ℕ
  laid = put_mid (suc head) (end - suc head) index places

  abbrev pub marked : List ℕ
  marked = set laid head (4096 + end)

  module _ (many : length places ≡ end - suc head) where
    laid_long : length laid ≡ length index
    laid_long = same_len_mid (suc head) (end - suc head) index places (many ∙ sym (mid_len (suc head) end index (omega arith)))

    marked-long : length marked ≡ length index
    marked-long = length-set laid head (4096 + end) ∙ laid_long

    take-marked : (e : ℕ) → e ≤ head → take e marked ≡ take e index
    take-marked e h =
        take-set-le e laid head (4096 + end) h ∙ sym (take-take e (suc head) laid (omega arith)) ∙ ap (take e) (take_put (suc head) (end - suc head) index places (omega arith)) ∙ take-take e (suc head) index (omega arith)

    drop-marked : drop end marked ≡ drop end index
    drop-marked = drop-set-lt end laid head (4096 + end) before ∙ drop_put (suc head) end index places before (omega arith) many

    part_marked : take (end - suc head) (drop (suc head) marked) ≡ places
    part_marked =
        ap (take (end - suc head)) (drop-set-lt (suc head) laid head (4096 + end) (omega arith) ∙ drop_at (take (suc head) index) _ (suc head) (length-take-le (suc head) index (omega arith)))
        ∙ take_at places _ (end - suc head) many

    module _ (indexed : Indexed run places) (size : length run / 32 ≡ end - suc head) (unindexed : Unindexed index head) where
      -- A place between the head and the end is none of a mark.
      place_small : (h : ℕ) → head < h → h < end → get_or marked h 0 < 2048
      place_small h b a =
          let k : h - suc head < end - suc head = omega arith in
          let l : h - suc head < length places = omega (arith, many) in
          let w = indexed.sorted.inside (h - suc head) l in
          let q : suc head + (h - suc head) ≡ h = omega arith in
          let r : get_or places (h - suc head) 0 ≡ get_or marked h 0
          = ap (λ (ps : List ℕ). get_or ps (h - suc head) 0) (sym part_marked) ∙ get_or-take (end - suc head) (drop (suc head) marked) (h - suc head) 0 k ∙ get_or-drop (suc head) marked (h - suc head) 0 ∙ ap (λ (j : ℕ). get_or marked j 0) q
          in
          omega (arith, size, r, w, few, long, inside)

      -- A mark is an old one or the new one.
      marks : (h e : ℕ) → get_or marked h 0 ≡ 4096 + e → (get_or index h 0 ≡ 4096 + e) ⊎ ((h ≡ head) × (e ≡ end))
      marks h e m = go (ltb h head) refl (ltb head h) refl (ltb h end) refl
        where
          go : (a : Bool) → ltb h head ≡ a → (b : Bool) → ltb head h ≡ b → (d : Bool) → ltb h end ≡ d → (get_or index h 0 ≡ 4096 + e) ⊎ ((h ≡ head) × (e ≡ end))
          go true p b q d r = inl (sym (take_entry marked index head h (yes_lt h head p) (take-marked head (omega arith))) ∙ m)
          go false p false q d r =
              let k = no_ge h head p in
              let l = no_ge head h q in
              let s : h ≡ head = omega arith in
              let w = laid_long in
              let t = get_or-set_same laid head (4096 + end) 0 (omega arith) in
              let n : 4096 + e ≡ 4096 + end = sym m ∙ ap (λ (j : ℕ). get_or marked j 0) s ∙ t in
              inr (s, omega (arith, n))
          go false p true q true r = let k = place_small h (yes_lt head h q) (yes_lt h end r) in absurd (omega (arith, m))
          go false p true q false r = inl (sym (drop_entry marked index end h (no_ge h end r) drop-marked) ∙ m)

      pub unindexed_marked : Unindexed marked end
      unindexed_marked = record { clear = λ i h. drop_entry marked index end i h drop-marked ∙ (let k : head ≤ i = omega arith in unindexed.clear i k); ended = λ h e m. go h e (marks h e m) }
        where
          go : (h e : ℕ) → (get_or index h 0 ≡ 4096 + e) ⊎ ((h ≡ head) × (e ≡ end)) → e ≤ end
          go h e (inl o) = let k = unindexed.ended h e o in omega arith
          go h e (inr n) = let k = n.1 in omega arith

      module _ (index_in : IndexIn file index) (records : records_of run ≡ take (end - suc head) (drop (suc head) (records_of file))) where
        pub index_marked : IndexIn file marked
        index_marked h e m = go (marks h e m)
          where
            old : IndexedAt file index h e → e ≤ head → IndexedAt file marked h e
            old i l =
                let b : suc h ≤ e = i.before in
                record {
                  before = i.before;
                  inside = i.inside;
                  long = subst (λ (n : ℕ). e ≤ n) (sym marked-long) i.long;
                  indexed = λ r q. subst (Indexed r) (part_same index marked (suc h) e b (sym (take-marked e l))) (i.indexed r q);
                }

            new : IndexedAt file marked head end
            new =
                record {
                  before = before;
                  inside = inside;
                  long = (let l : end ≤ length index = omega arith in subst (λ (n : ℕ). end ≤ n) (sym marked-long) l);
                  indexed = λ r q. subst (Indexed r) (sym part_marked) (indexed-same run r (records ∙ sym q) places indexed);
                }

            go : (get_or index h 0 ≡ 4096 + e) ⊎ ((h ≡ head) × (e ≡ end)) → IndexedAt file marked h e
            go (inl o) = old (index_in h e o) (unindexed.ended h e o)
            go (inr n) = subst (λ (x : ℕ). IndexedAt file marked x e) (sym n.0) (subst (λ (x : ℕ). IndexedAt file marked head x) (sym n.1) new)
