-- Runs of records: the part of a file that they are, and the turns of the loops over them.
use mathlib.Core.Bool.{Bool, ◌||◌, false, true}
use mathlib.Core.List.{List, [], ◌∷◌, map}
use mathlib.Core.Path.{◌∙◌, ◌≡◌, ap, ap₂, refl, sym}
use Prim.Native.Nat.{◌*◌, ◌+◌, ◌-◌, ◌/◌, ◌<◌, ◌≤◌, suc, zero, ℕ}
use native.Mathlib.Numerals.{add-one}
use native.Mathlib.Omega.{arith}
use lib.Dec.{eqb}
use lib.IntN.{ℤ}
use lib.ListN.{drop, drop_of_length-le, length, length-append, length-drop, length-take, take, take-append-drop}
use lib.Seq.{drop-drop, take_at, take-nil, take-take}
use mir.Syntax.{w64}
use mir.Val.{SFits, of_z}
use Rattle.lists.specs.Integers.{elem_z, eq_z}
use Rattle.lists.proofs.Lists.{any_append, map_append}
use Rattle.lists.proofs.Tests.{eqb_ext, or_assoc, or_false}
use Rattle.lists.proofs.Words.{eq_bits}
use Rattle.spec.specs.Code.{ps_of}
use Rattle.spec.specs.Kind.{is_member}
use Rattle.spec.specs.Record.{Record, chunks, groups, member_run, parts_of, record_at, record_of, records_of}
use Rattle.spec.proofs.Fields.{length_records, records_from}
use Rattle.spec.proofs.Groups.{flat, records_flat}

drop-take : (k n m : ℕ) (l : List ℕ) → k + n ≡ m → drop k (take m l) ≡ take n (drop k l)
drop-take zero n m l e = let q : m ≡ n = omega arith in ap (λ (j : ℕ). take j l) q
drop-take (suc k) n zero l e = absurd (omega arith)
drop-take (suc k) n (suc m) [] e = sym (take-nil n)
drop-take (suc k) n (suc m) (x ∷ l) e = drop-take k n m l (omega arith)

-- The first record, and the records after it.
records_cons : (l : List ℕ) → 32 ≤ length l → records_of l ≡ record_of (take 32 l) ∷ records_of (drop 32 l)
unfolding records_of parts_of
records_cons l h =
    let e : length l / 32 ≡ suc (length (drop 32 l) / 32) = omega (arith, length-drop 32 l) in
    ap (λ (n : ℕ). map record_of (chunks n l)) e

-- m records from record i on are so many bytes.
run_records : (m i : ℕ) (file : List ℕ) → i + m ≤ length file / 32 → records_of (take (m * 32) (drop (i * 32) file)) ≡ take m (drop i (records_of file))
unfolding records_of parts_of
run_records zero i file h = refl
run_records (suc m) i file h =
    let bytes = drop (i * 32) file in
    let long : 32 ≤ length (take (suc m * 32) bytes) = omega (arith, length-drop (i * 32) file, length-take (suc m * 32) bytes) in
    records_cons (take (suc m * 32) bytes) long
    ∙ ap₂ (λ (r : List ℕ) (l : List ℕ). record_of r ∷ records_of l) (take-take 32 (suc m * 32) bytes (omega arith))
    (drop-take 32 (m * 32) (suc m * 32) bytes (omega arith) ∙ ap (λ (l : List ℕ). take (m * 32) l) (drop-drop 32 (i * 32) file ∙ ap (λ (k : ℕ). drop k file) (let e : i * 32 + 32 ≡ suc i * 32 = omega arith in e)))
    ∙ ap (λ (l : List Record). record_at file i ∷ l) (run_records m (suc i) file (omega arith))
    ∙ ap (take (suc m)) (sym (records_from file i (omega arith)))

pub part_records : (file : List ℕ) (from to : ℕ) → from ≤ to → to ≤ length file / 32 → records_of (take (to * 32 - from * 32) (drop (from * 32) file)) ≡ take (to - from) (drop from (records_of file))
part_records file from to h k =
    let e : to * 32 - from * 32 ≡ (to - from) * 32 = omega arith in
    ap (λ (n : ℕ). records_of (take n (drop (from * 32) file))) e ∙ run_records (to - from) from file (omega arith)

-- ---- the members after a head
-- A run is the front of its records.
pub run_front : (rs : List Record) → member_run rs ≡ take (length (member_run rs)) rs
run_front rs = sym (ap (take (length (member_run rs))) (records_flat rs) ∙ take_at (member_run rs) (flat (groups rs)) (length (member_run rs)) refl)

run_le : (rs : List Record) → length (member_run rs) ≤ length rs
run_le rs = omega (arith, ap length (records_flat rs), length-append (member_run rs) (flat (groups rs)))

module _ (file : List ℕ) where
  -- How many members there are from record i on.
  abbrev pub run_length : ℕ → ℕ
  run_length i = length (member_run (drop i (records_of file)))

  pub run_inside : (i : ℕ) → i ≤ length file / 32 → i + run_length i ≤ length file / 32
  run_inside i h = omega (arith, run_le (drop i (records_of file)), length-drop i (records_of file), length_records file)

  pub run_more : (i : ℕ) → i < length file / 32 → is_member (record_at file i).kind ≡ true → run_length i ≡ suc (run_length (i + 1))
  run_more i h t = rw (add-one, records_from file i h) (rw t)

  pub run_stop : (i : ℕ) → i < length file / 32 → is_member (record_at file i).kind ≡ false → run_length i ≡ 0
  run_stop i h t = rw (records_from file i h) (rw t)

  pub run_end : (i : ℕ) → length file / 32 ≤ i → run_length i ≡ 0
  run_end i h = let e : length (records_of file) ≤ i = omega (arith, length_records file) in rw (drop_of_length-le (records_of file) e)

-- ---- the search of a run for a value
-- A test of bits, of the numbers: x was read and is p.
pub read_eq : (v x p : ℤ) → SFits w64 v → SFits w64 x → x ≡ p → eqb (of_z w64 x) (of_z w64 v) ≡ eq_z v p
read_eq v x p f g e = eqb_ext (of_z w64 x) (of_z w64 v) (of_z w64 v) (of_z w64 x) sym sym ∙ eq_bits v x f g ∙ ap (eq_z v) e

or_four : (a b c d : Bool) → (a || (b || (c || (d || false)))) ≡ (a || b || c || d)
or_four true b c d = refl
or_four false true c d = refl
or_four false false true d = refl
or_four false false false d = or_false d

module _ (v : ℤ) (run : List ℕ) where
  -- The value is the p of a record from i on.
  abbrev pub has_from : ℕ → Bool
  has_from i = elem_z v (ps_of (drop i (records_of run)))

  pub has_here : (i : ℕ) → i < length run / 32 → eq_z v (record_at run i).p ≡ true → has_from i ≡ true
  has_here i h t = rw (records_from run i h) (rw t)

  pub has_past : (i : ℕ) → i < length run / 32 → eq_z v (record_at run i).p ≡ false → has_from i ≡ has_from (i + 1)
  has_past i h t = rw (add-one, records_from run i h) (rw t)

  pub has_end : (i : ℕ) → length run / 32 ≤ i → has_from i ≡ false
  has_end i h = let e : length (records_of run) ≤ i = omega (arith, length_records run) in rw (drop_of_length-le (records_of run) e)

  -- The value is the p of one of the four records from i on.
  abbrev pub has_in_four : ℕ → Bool
  has_in_four i = elem_z v (ps_of (take 4 (drop i (records_of run))))

  pub four_at : (i : ℕ) → i + 4 ≤ length run / 32
      → has_in_four i ≡ (eq_z v (record_at run i).p || eq_z v (record_at run (i + 1)).p || eq_z v (record_at run (i + 2)).p || eq_z v (record_at run (i + 3)).p)
  four_at i h =
      ap (λ (l : List Record). elem_z v (ps_of (take 4 l))) (at i (i + 1) (omega arith) (omega arith))
      ∙ ap (λ (l : List Record). elem_z v (ps_of (record_at run i ∷ take 3 l))) (at (i + 1) (i + 2) (omega arith) (omega arith))
      ∙ ap (λ (l : List Record). elem_z v (ps_of (record_at run i ∷ record_at run (i + 1) ∷ take 2 l))) (at (i + 2) (i + 3) (omega arith) (omega arith))
      ∙ ap (λ (l : List Record). elem_z v (ps_of (record_at run i ∷ record_at run (i + 1) ∷ record_at run (i + 2) ∷ take 1 l))) (at (i + 3) (i + 4) (omega arith) (omega arith))
      ∙ or_four (eq_z v (record_at run i).p) (eq_z v (record_at run (i + 1)).p) (eq_z v (record_at run (i + 2)).p) (eq_z v (record_at run (i + 3)).p)
    where
      at : (j k : ℕ) → j < length run / 32 → suc j ≡ k → drop j (records_of run) ≡ record_at run j ∷ drop k (records_of run)
      at j k l e = records_from run j l ∙ ap (λ (n : ℕ). record_at run j ∷ drop n (records_of run)) e

  has_four : (i : ℕ) → has_from i ≡ (has_in_four i || has_from (i + 4))
  has_four i =
      let left = drop i (records_of run) in
      ap (λ (l : List Record). elem_z v (ps_of l)) (sym (take-append-drop 4 left))
      ∙ ap (elem_z v) (map_append (λ (m : Record). m.p) (take 4 left) (drop 4 left))
      ∙ any_append (eq_z v) (ps_of (take 4 left)) (ps_of (drop 4 left))
      ∙ ap (λ (l : List Record). has_in_four i || elem_z v (ps_of l)) (drop-drop 4 i (records_of run))

  -- The turns by eight.
  has_eight : (i : ℕ) → has_from i ≡ (has_in_four i || has_in_four (i + 4) || has_from (i + 8))
  has_eight i =
      let e : i + 4 + 4 ≡ i + 8 = omega arith in
      has_four i ∙ ap (λ (b : Bool). has_in_four i || b) (has_four (i + 4)) ∙ or_assoc (has_in_four i) (has_in_four (i + 4)) (has_from (i + 4 + 4)) ∙ ap (λ (j : ℕ). has_in_four i || has_in_four (i + 4) || has_from j) e

  pub eight_here : (i : ℕ) → (has_in_four i || has_in_four (i + 4)) ≡ true → has_from i ≡ true
  eight_here i t = has_eight i ∙ ap (λ (b : Bool). b || has_from (i + 8)) t

  pub eight_past : (i : ℕ) → (has_in_four i || has_in_four (i + 4)) ≡ false → has_from i ≡ has_from (i + 8)
  eight_past i t = has_eight i ∙ ap (λ (b : Bool). b || has_from (i + 8)) t
