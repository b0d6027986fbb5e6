-- Pairs among the records that stand at places.
use mathlib.Core.Bool.{◌&&◌, cond, true}
use Prim.Native.Nat.{◌/◌}
use lib.Dec.{eqb}
use lib.ListN.{drop}
use Rattle.std.proofs.Common.{◌∙◌, ◌≡◌, ◌||◌, ◌+◌, ◌-◌, ◌<◌, ◌≤◌, ap, refl, sym, arith, false, Bool, ℕ, suc, zero, List, [], ◌∷◌, ◌++◌, ℤ, length, map, replicate}
use Rattle.lists.specs.Integers.{elem_z, eq_z}
use Rattle.lists.specs.Lists.{any, span, upto}
use Rattle.lists.proofs.Lists.{any_ext, map_append}
use Rattle.lists.proofs.All.{All_of}
use Rattle.spec.specs.Record.{Record, entry_of, record_at, records_of}
use Rattle.spec.specs.Spec.{Key, Pair}
use Rattle.spec.proofs.Fields.{records_from}
use Rattle.registry.specs.Check.{is_pair}
use Rattle.registry.proofs.Looked.{eq_z-sym}
use Rattle.compose.specs.Code.{between, marked, paired_at, pairs_at}
use Rattle.compose.proofs.Tabled.{any_or, cells_no, cells_yes, row-none}

-- the numbers from low to before k, and one more
span_more : (a n : ℕ) → span a (suc n) ≡ span a n ++ ((a + n) ∷ [])
span_more a zero = let e : a + 0 ≡ a = omega arith in ap (λ (j : ℕ). j ∷ []) (sym e)
span_more a (suc n) =
    let e : suc a + n ≡ a + suc n = omega arith in
    ap (λ (l : List ℕ). a ∷ l) (span_more (suc a) n ∙ ap (λ (j : ℕ). span (suc a) n ++ (j ∷ [])) e)

between_more : (low k : ℕ) → low ≤ k → between low (k + 1) ≡ between low k ++ (k ∷ [])
between_more low k h =
    let e : k + 1 - low ≡ suc (k - low) = omega arith in
    let f : low + (k - low) ≡ k = omega arith in
    ap (span low) e ∙ span_more low (k - low) ∙ ap (λ (j : ℕ). span low (k - low) ++ (j ∷ [])) f

between_next : (k high : ℕ) → k < high → between k high ≡ k ∷ between (k + 1) high
between_next k high h =
    let e : high - k ≡ suc (high - (k + 1)) = omega arith in
    let f : suc k ≡ k + 1 = omega arith in
    ap (span k) e ∙ ap (λ (j : ℕ). k ∷ span j (high - (k + 1))) f

between_none : (low high : ℕ) → high ≤ low → between low high ≡ []
between_none low high h = let e : high - low ≡ 0 = omega arith in ap (span low) e

pub between_all : (n : ℕ) → between 0 n ≡ upto n
between_all n = let e : n - 0 ≡ n = omega arith in ap (span 0) e

any_false : (list : List ℤ) → any (λ (w : ℤ). false) list ≡ false
any_false [] = refl
any_false (w ∷ list) = any_false list

any_equal : (q : ℤ) (list : List ℤ) → any (λ w. eq_z w q) list ≡ elem_z q list
any_equal q list = any_ext (All_of (λ (w : ℤ). eq_z-sym w q) list)

module _ (f : ℕ → Record) (v : ℤ) (list : List ℤ) where
  -- a value of the list is paired with v at one of the places from k to before high
  abbrev pub among : (k high : ℕ) → Bool
  among k high = any (λ w. any (pairs_at v w) (map f (between k high))) list

  pub among_end : (k high : ℕ) → high ≤ k → among k high ≡ false
  among_end k high h = ap (λ (ns : List ℕ). any (λ w. any (pairs_at v w) (map f ns)) list) (between_none k high h) ∙ any_false list

  -- the place k, and those behind it
  module _ (k high : ℕ) (h : k < high) where
    among_or : among k high ≡ (any (λ w. pairs_at v w (f k)) list || among (k + 1) high)
    among_or =
        ap (λ (ns : List ℕ). any (λ w. any (pairs_at v w) (map f ns)) list) (between_next k high h)
        ∙ any_or (λ w. pairs_at v w (f k)) (λ w. any (pairs_at v w) (map f (between (k + 1) high))) list

    pub among_pair : (q : ℤ) → ((w : ℤ) → pairs_at v w (f k) ≡ eq_z w q) → among k high ≡ (elem_z q list || among (k + 1) high)
    among_pair q e = among_or ∙ ap (λ (b : Bool). b || among (k + 1) high) (any_ext (All_of e list) ∙ any_equal q list)

    pub among_other : ((w : ℤ) → pairs_at v w (f k) ≡ false) → among k high ≡ among (k + 1) high
    among_other e = among_or ∙ ap (λ (b : Bool). b || among (k + 1) high) (any_ext (All_of e list) ∙ any_false list)

  -- ---- the cells that are marked for the places from low to before k
  abbrev pub cells_to : (low k : ℕ) → List ℕ
  cells_to low k = paired_at v (map f (between low k)) list

  pub cells_none : (low : ℕ) → replicate (length list) 0 ≡ cells_to low low
  cells_none low = row-none list ∙ ap (λ (ns : List ℕ). paired_at v (map f ns) list) (sym (between_none low low (omega arith)))

  module _ (low k : ℕ) (h : low ≤ k) where
    cells_next : paired_at v (map f (between low k) ++ (f k ∷ [])) list ≡ cells_to low (k + 1)
    cells_next = ap (λ (ms : List Record). paired_at v ms list) (sym (ap (map f) (between_more low k h) ∙ map_append f (between low k) (k ∷ [])))

    pub cells_pair : (q : ℤ) → ((w : ℤ) → pairs_at v w (f k) ≡ eq_z w q) → marked q list (cells_to low k) ≡ cells_to low (k + 1)
    cells_pair q e = cells_yes (pairs_at v) (map f (between low k)) (f k) q e list ∙ cells_next

    pub cells_other : ((w : ℤ) → pairs_at v w (f k) ≡ false) → cells_to low k ≡ cells_to low (k + 1)
    cells_other e = cells_no (pairs_at v) (map f (between low k)) (f k) e list ∙ cells_next

-- ---- members read through
-- A record is a pair of parent value v.
abbrev pub pair_of : ℤ → Record → Bool
pair_of v m = eqb m.code 4 && eq_z m.p v

pair_is : (v w : ℤ) (m : Record) → is_pair v w (entry_of m) ≡ (pair_of v m && eq_z w m.q)
pair_is v w m = go (eqb m.code 4)
  where
    go : (b : Bool) → is_pair v w (cond b (Pair m.p m.q) (Key m.p)) ≡ ((b && eq_z m.p v) && eq_z w m.q)
    go true = ap (λ (t : Bool). t && eq_z w m.q) (eq_z-sym v m.p)
    go false = refl

-- Some value of the list is paired with v by one of the members.
abbrev pub child_among : ℤ → List ℤ → List Record → Bool
child_among v list ms = any (λ w. any (is_pair v w) (map entry_of ms)) list

any_with : (t : Bool) (q : ℤ) (list : List ℤ) → any (λ w. t && eq_z w q) list ≡ (t && elem_z q list)
any_with true q list = any_equal q list
any_with false q list = any_false list

child_of : (v : ℤ) (m : Record) (list : List ℤ) → any (λ w. is_pair v w (entry_of m)) list ≡ (pair_of v m && elem_z m.q list)
child_of v m list = any_ext (All_of (λ w. pair_is v w m) list) ∙ any_with (pair_of v m) m.q list

child_more : (v : ℤ) (list : List ℤ) (m : Record) (ms : List Record) → child_among v list (m ∷ ms) ≡ ((pair_of v m && elem_z m.q list) || child_among v list ms)
child_more v list m ms = any_or (λ w. is_pair v w (entry_of m)) (λ w. any (is_pair v w) (map entry_of ms)) list ∙ ap (λ (b : Bool). b || child_among v list ms) (child_of v m list)

-- Record i, and those behind it.
pub child_at_lem : (v : ℤ) (list : List ℤ) (file : List ℕ) (i : ℕ) → i < length file / 32
    → child_among v list (drop i (records_of file)) ≡ ((pair_of v (record_at file i) && elem_z (record_at file i).q list) || child_among v list (drop (suc i) (records_of file)))
child_at_lem v list file i h = ap (child_among v list) (records_from file i h) ∙ child_more v list (record_at file i) (drop (suc i) (records_of file))
