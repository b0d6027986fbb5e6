-- The parts of record i, as the bytes of the file where it lies; and the records from i on.
use mathlib.Core.List.{List, [], ◌∷◌, map}
use mathlib.Core.Path.{◌∙◌, ◌≡◌, ap, ap₂, refl, sym}
use Prim.Native.Nat.{◌*◌, ◌+◌, ◌-◌, ◌/◌, ◌<◌, ◌≤◌, suc, zero, ℕ}
use native.Mathlib.Nat.{add-zero, sub-zero}
use native.Mathlib.Omega.{arith}
use lib.ListN.{drop, get_or, length, length-map, take}
use lib.Seq.{drop-drop, get_or-drop, get_or-take, take-take}
use Rattle.lists.specs.Integers.{little_endian, signed64}
use Rattle.spec.specs.Kind.{kind_of}
use Rattle.spec.specs.Record.{Record, chunks, parts_of, record_at, record_of, records_of, word_at}

part_of_part : (k n m : ℕ) (l : List ℕ) → k + n ≤ m → take n (drop k (take m l)) ≡ take n (drop k l)
part_of_part zero n m l h = take-take n m l (omega arith)
part_of_part (suc k) n zero l h = absurd (omega arith)
part_of_part (suc k) n (suc m) [] h = refl
part_of_part (suc k) n (suc m) (x ∷ l) h = part_of_part k n m l (omega arith)

module _ (file : List ℕ) (i : ℕ) where
  byte_at : (k : ℕ) → k < 32 → get_or (take 32 (drop (i * 32) file)) k 0 ≡ get_or file (i * 32 + k) 0
  byte_at k h = get_or-take 32 (drop (i * 32) file) k 0 h ∙ get_or-drop (i * 32) file k 0

  bytes_at_lem : (k n : ℕ) → k + n ≤ 32 → take n (drop k (take 32 (drop (i * 32) file))) ≡ take n (drop (i * 32 + k) file)
  bytes_at_lem k n h = part_of_part k n 32 (drop (i * 32) file) h ∙ ap (take n) (drop-drop k (i * 32) file)

  pub code_of : (record_at file i).code ≡ get_or file (i * 32) 0
  unfolding record_of
  code_of = byte_at 0 (omega arith) ∙ ap (λ (k : ℕ). get_or file k 0) (add-zero (i * 32))

  pub kind_of_lem : (record_at file i).kind ≡ kind_of (record_at file i).code
  unfolding record_of
  kind_of_lem = refl

  pub a_of : (record_at file i).a ≡ get_or file (i * 32 + 1) 0
  unfolding record_of
  a_of = byte_at 1 (omega arith)

  pub b_of : (record_at file i).b ≡ get_or file (i * 32 + 2) 0
  unfolding record_of
  b_of = byte_at 2 (omega arith)

  pub padding_of : (record_at file i).padding ≡ little_endian (take 5 (drop (i * 32 + 3) file))
  unfolding record_of
  padding_of = ap little_endian (bytes_at_lem 3 5 (omega arith))

  word_of : (k : ℕ) → k + 8 ≤ 32 → word_at (take 32 (drop (i * 32) file)) k ≡ word_at file (i * 32 + k)
  word_of k h = ap (λ (l : List ℕ). signed64 (little_endian l)) (bytes_at_lem k 8 h)

  pub p_of : (record_at file i).p ≡ word_at file (i * 32 + 8)
  unfolding record_of
  p_of = word_of 8 (omega arith)

  pub q_of : (record_at file i).q ≡ word_at file (i * 32 + 16)
  unfolding record_of
  q_of = word_of 16 (omega arith)

  pub r_of : (record_at file i).r ≡ word_at file (i * 32 + 24)
  unfolding record_of
  r_of = word_of 24 (omega arith)

-- Where the parts of a record lie.
pub ruleset parts = (code_of, kind_of_lem, a_of, b_of, p_of, q_of, r_of)

-- ---- the records of a file
chunk_drop : (n i : ℕ) (bytes : List ℕ) → i ≤ n → drop i (chunks n bytes) ≡ chunks (n - i) (drop (i * 32) bytes)
chunk_drop n zero bytes h = ap (λ (k : ℕ). chunks k bytes) (sym (sub-zero n))
chunk_drop zero (suc i) bytes h = absurd (omega arith)
chunk_drop (suc n) (suc i) bytes h =
    let e : 32 + i * 32 ≡ suc i * 32 = omega arith in
    let m : n - i ≡ suc n - suc i = omega arith in
    chunk_drop n i (drop 32 bytes) (omega arith) ∙ ap₂ (λ (k : ℕ) (l : List ℕ). chunks k l) m (drop-drop (i * 32) 32 bytes ∙ ap (λ (k : ℕ). drop k bytes) e)

pub length_records : (file : List ℕ) → length (records_of file) ≡ length file / 32
unfolding records_of parts_of
length_records file = length-map (chunks (length file / 32) file) record_of ∙ length-chunks (length file / 32) file
  where
    length-chunks : (n : ℕ) (bytes : List ℕ) → length (chunks n bytes) ≡ n
    length-chunks zero bytes = refl
    length-chunks (suc n) bytes = ap suc (length-chunks n (drop 32 bytes))

-- Record i and the records after it.
pub records_from : (file : List ℕ) (i : ℕ) → i < length file / 32 → drop i (records_of file) ≡ record_at file i ∷ drop (suc i) (records_of file)
unfolding records_of parts_of
records_from file i h = drop-map i parts ∙ ap (map record_of) (chunk_drop (length file / 32) i file (omega arith) ∙ ap (λ (n : ℕ). chunks n (drop (i * 32) file)) (let e : length file / 32 - i ≡ suc (length file / 32 - suc i) = omega arith in e))
    ∙ ap (λ l. record_at file i ∷ map record_of l) rest ∙ ap (λ l. record_at file i ∷ l) (sym (drop-map (suc i) parts))
  where
    parts : List (List ℕ)
    parts = chunks (length file / 32) file

    drop-map : (k : ℕ) (l : List (List ℕ)) → drop k (map record_of l) ≡ map record_of (drop k l)
    drop-map zero l = refl
    drop-map (suc k) [] = refl
    drop-map (suc k) (x ∷ l) = drop-map k l

    rest : chunks (length file / 32 - suc i) (drop 32 (drop (i * 32) file)) ≡ drop (suc i) parts
    rest =
        let e : i * 32 + 32 ≡ suc i * 32 = omega arith in
        ap (chunks (length file / 32 - suc i)) (drop-drop 32 (i * 32) file ∙ ap (λ (k : ℕ). drop k file) e) ∙ sym (chunk_drop (length file / 32) (suc i) file h)

pub record_get_d : (d : Record) (file : List ℕ) (i : ℕ) → i < length file / 32 → get_or (records_of file) i d ≡ record_at file i
record_get_d d file i h = ap (λ (k : ℕ). get_or (records_of file) k d) (sym (add-zero i)) ∙ sym (get_or-drop i (records_of file) 0 d) ∙ ap (λ l. get_or l 0 d) (records_from file i h)
