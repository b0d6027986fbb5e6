-- What the code computes on the way, in terms of the definitions.
use Rattle.std.specs.Prelude.{◌||◌, cond, List, map, ℕ, zero, suc, ◌*◌, ◌-◌, ◌/◌, ◌≤◌, ◌<◌, ltb, drop, get_or, length, take, Result, Ok, Err}
use Rattle.std.proofs.Math.Option.{Option, none, some}
use Rattle.lists.specs.Lists.{concat_map}
use Rattle.spec.specs.Code.{as_refused, as_use}
use Rattle.spec.specs.Kind.{kind_of, row_of}
use Rattle.spec.specs.Record.{parts_of}
use Rattle.spec.specs.Refusal.{Answer, accepted, refused}
use Rattle.spec.specs.declared.kinds.Use.{Use}
use Rattle.join.specs.Join.{JoinRefused, Which, add_if, first, joined, move_bytes, moves, second}
use Rattle.join.specs.declared.join.Which as code
use Rattle.join.specs.declared.join.Which.TheVariants as whiches
use Rattle.join.specs.declared.join.JoinRefusal.{JoinRefusal}

-- The bytes of record i.
abbrev pub bytes_at : List ℕ → ℕ → List ℕ
bytes_at file i = take 32 (drop (i * 32) file)

-- The field numbers of a record, moved up by n, are still bytes.
pub record MovesIn (n : ℕ) (bytes : List ℕ) : Type 0 where
  pub a_byte : add_if (moves (row_of (kind_of (get_or bytes 0 0)) (get_or bytes 2 0)).a) n (get_or bytes 1 0) < 256
  pub b-byte : add_if (moves (row_of (kind_of (get_or bytes 0 0)) (get_or bytes 2 0)).b) n (get_or bytes 2 0) < 256

-- The records from..to, renumbered, laid end to end.
abbrev pub moved_range : ℕ → List ℕ → ℕ → ℕ → List ℕ
moved_range n file from to = concat_map (λ bytes. bytes) (map (move_bytes n) (take (to - from) (drop from (parts_of file))))

-- Those records lie in the file, and their moved field numbers are bytes.
pub record RangeIn (file : List ℕ) (from to n : ℕ) : Type 0 where
  pub rising : from ≤ to
  pub inside : to ≤ length file / 32
  pub moves_in : (i : ℕ) → from ≤ i → i < to → MovesIn n (bytes_at file i)

-- A number of a record, moved up by n where its use is that of a field's number.
abbrev pub add_use : Use → ℕ → ℕ → ℕ
add_use used n x = add_if (moves (as_use used)) n x

-- The total of a joined file with n and m fields.
abbrev pub total_by : (n m x y : ℕ) → ℕ
total_by zero m x y = y
total_by (suc n) zero x y = x
total_by (suc n) (suc m) x y = x * y

-- 5, 1, 10, 14, or 0.
abbrev pub joined_number : (fields constraints len total room : ℕ) → ℕ
joined_number fields constraints len total room =
    cond (ltb 32 fields || ltb 256 constraints) 5 (cond (ltb 65536 len) 1 (cond (ltb 1000000000 total) 10 (cond (ltb room len) 14 0)))

abbrev pub refusal_of : Which → ℕ → ℕ → JoinRefused
refusal_of which number at = record { which = which; why = record { number = number; at = at } }

abbrev pub as_which : code.Which → Which
as_which whiches.First = first
as_which whiches.Second = second
as_which whiches.Both = joined

abbrev pub as_join_refused : JoinRefusal → JoinRefused
as_join_refused r = record { which = as_which r.which; why = as_refused r.why }

abbrev pub as_join_fault : Result (Unit {0}) JoinRefusal → Option JoinRefused
as_join_fault (Ok x) = none
as_join_fault (Err r) = some (as_join_refused r)

abbrev pub as_joined : Result ℕ JoinRefusal → Answer JoinRefused ℕ
as_joined (Ok n) = accepted n
as_joined (Err r) = refused (as_join_refused r)
