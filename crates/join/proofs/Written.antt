-- What the code writes: bytes from the front on, one renumbered record, a range of them; and the numbers of the refusals of a joined file.
use mathlib.Core.List.{List, [], ◌++◌, ◌∷◌, append_assoc, append-nil, map}
use mathlib.Core.Path.{◌∙◌, ◌≡◌, ap, ap₂, refl, sym}
use Prim.Native.Nat.{◌*◌, ◌+◌, ◌-◌, ◌/◌, ◌<◌, ◌≤◌, suc, zero, ℕ}
use native.Mathlib.Nat.{mul-le-mul}
use native.Mathlib.Omega.{arith}
use borrow.Rule.Slice.PartMut.{put_mid}
use lib.ListN.{drop, get_or, length, length-append, length-drop, length-map, set, take}
use lib.Seq.{drop-drop, get_or-drop, length-take-le, take_at, take-suc}
use Rattle.lists.proofs.Lists.{concat_map_append, map_append}
use Rattle.spec.specs.Code.{as_row}
use Rattle.spec.specs.Kind as kinds
use Rattle.spec.specs.Kind.{kind_of, row_of}
use Rattle.spec.specs.Record.{chunks, parts_of, record_of, records_of}
use Rattle.spec.specs.declared.kinds.Row as code
use Rattle.spec.proofs.Fields.{length_records}
use Rattle.spec.proofs.Files.{laid}
use Rattle.join.specs.Code.{add_use, bytes_at, moved_range, total_by}
use Rattle.join.specs.Join.{add_if, move_bytes, moves}

-- ---- bytes written part by part
put_mid_lem : (at k m : ℕ) (out ys : List ℕ) → at ≤ length out → length ys ≡ m → take (at + m) (put_mid at k out ys) ≡ take at out ++ ys
put_mid_lem at k m out ys o y =
    let front : length (take at out ++ ys) ≡ at + m = omega (arith, length-append (take at out) ys, length-take-le at out o) in
    ap (take (at + m)) (sym (append_assoc (take at out) ys (drop k (drop at out)))) ∙ take_at (take at out ++ ys) (drop k (drop at out)) (at + m) front

-- ---- one record
-- The bytes copied with their two numbers moved.
pub record_moved : (bytes : List ℕ) (row : code.Row) (n x y : ℕ) (out : List ℕ) → as_row row ≡ row_of (kind_of (get_or bytes 0 0)) (get_or bytes 2 0)
    → out ≡ bytes → x ≡ add_use row.a n (get_or bytes 1 0) → y ≡ add_use row.b n (get_or bytes 2 0) → set (set out 1 x) 2 y ≡ move_bytes n bytes
unfolding move_bytes
record_moved bytes row n x y out e o a b =
    ap (λ (l : List ℕ). set (set l 1 x) 2 y) o
    ∙ ap₂ (λ (u v : ℕ). set (set bytes 1 u) 2 v) (a ∙ ap (λ (w : kinds.Row). add_if (moves w.a) n (get_or bytes 1 0)) e) (b ∙ ap (λ (w : kinds.Row). add_if (moves w.b) n (get_or bytes 2 0)) e)

-- ---- a range of records
-- Part i of a file is the bytes of record i.
pub part_at : (file : List ℕ) (i : ℕ) → i < length file / 32 → get_or (parts_of file) i [] ≡ bytes_at file i
unfolding parts_of
part_at file i h = chunk (length file / 32) i file h
  where
    chunk : (n i : ℕ) (bytes : List ℕ) → i < n → get_or (chunks n bytes) i [] ≡ take 32 (drop (i * 32) bytes)
    chunk zero i bytes h = absurd (omega arith)
    chunk (suc n) zero bytes h = refl
    chunk (suc n) (suc i) bytes h =
        let e : 32 + i * 32 ≡ suc i * 32 = omega arith in
        chunk n i (drop 32 bytes) (omega arith) ∙ ap (take 32) (drop-drop (i * 32) 32 bytes ∙ ap (λ (k : ℕ). drop k bytes) e)

pub length_parts : (file : List ℕ) → length (parts_of file) ≡ length file / 32
unfolding records_of
length_parts file = sym (length-map (parts_of file) record_of) ∙ length_records file

module _ (n : ℕ) (file : List ℕ) (from : ℕ) where
  pub range_none : moved_range n file from from ≡ []
  range_none = let e : from - from ≡ 0 = omega arith in ap (λ (k : ℕ). laid (map (move_bytes n) (take k (drop from (parts_of file))))) e

  range_more : (i : ℕ) → from ≤ i → i < length file / 32 → moved_range n file from (i + 1) ≡ moved_range n file from i ++ move_bytes n (bytes_at file i)
  range_more i h l =
      let parts = drop from (parts_of file) in
      let k : i + 1 - from ≡ suc (i - from) = omega arith in
      let m : from + (i - from) ≡ i = omega arith in
      let long : i - from < length parts = omega (arith, length-drop from (parts_of file), length_parts file) in
      let part : get_or parts (i - from) [] ≡ bytes_at file i = get_or-drop from (parts_of file) (i - from) [] ∙ ap (λ (j : ℕ). get_or (parts_of file) j []) m ∙ part_at file i l in
      ap (λ (j : ℕ). laid (map (move_bytes n) (take j parts))) k
      ∙ ap (λ (ps : List (List ℕ)). laid (map (move_bytes n) ps)) (take-suc parts (i - from) [] long ∙ ap (λ (b : List ℕ). take (i - from) parts ++ (b ∷ [])) part)
      ∙ ap laid (map_append (move_bytes n) (take (i - from) parts) (bytes_at file i ∷ []))
      ∙ concat_map_append (λ (b : List ℕ). b) (map (move_bytes n) (take (i - from) parts)) (move_bytes n (bytes_at file i) ∷ [])
      ∙ ap (λ (b : List ℕ). moved_range n file from i ++ b) (append-nil (move_bytes n (bytes_at file i)))

  -- A turn: record i is put behind those before it.
  pub range_turn : (i at k : ℕ) (out ys : List ℕ) → from ≤ i → i < length file / 32 → at ≤ length out → length ys ≡ 32 → take at out ≡ moved_range n file from i → ys ≡ move_bytes n (bytes_at file i)
      → take (at + 32) (put_mid at k out ys) ≡ moved_range n file from (i + 1)
  range_turn i at k out ys h l o y t e = put_mid_lem at k 32 out ys o y ∙ ap₂ ◌++◌ t e ∙ sym (range_more i h l)

-- ---- the total of a joined file
pub total_first : (n m x y : ℕ) → ¬ (n ≡ 0) → m ≡ 0 → x ≡ total_by n m x y
total_first zero m x y h e = absurd (h refl)
total_first (suc n) zero x y h e = refl
total_first (suc n) (suc m) x y h e = absurd (omega arith)

pub total_both : (n m x y : ℕ) → ¬ (n ≡ 0) → ¬ (m ≡ 0) → x * y ≡ total_by n m x y
total_both zero m x y h k = absurd (h refl)
total_both (suc n) zero x y h k = absurd (k refl)
total_both (suc n) (suc m) x y h k = refl

pub totals_times : (x y : ℕ) → x ≤ 1000000000 → y ≤ 1000000000 → x * y ≤ 1000000000 * 1000000000
totals_times x y h k = mul-le-mul h k
