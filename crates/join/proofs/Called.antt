-- What a call of join wrote multiplies.
use mathlib.Core.List.{List}
use mathlib.Core.Option.{Option, none, some}
use mathlib.Core.Path.{◌∙◌, ◌≡◌, ap, refl, subst, sym}
use Prim.Native.Nat.{◌<◌, ◌≤◌, ℕ}
use native.Mathlib.Omega.{arith}
use lib.ListN.{drop, length, take}
use lib.Seq.{take_at}
use Rattle.spec.specs.Record.{decoded}
use Rattle.spec.specs.Refusal.{Answer, accepted, answer, refused}
use Rattle.compose.specs.Tuples.{Engine}
use Rattle.classifier.specs.Count.{Accepts}
use Rattle.join.specs.Join.{JoinRefused, join_answer, join_bytes, join_fault, join_output}
use Rattle.join.proofs.Faults.{output_joined}
use Rattle.join.proofs.Multiplies.{Multiplies, join_multiplies, joinable}

-- An accepted call was not refused, and answered the length of the joined file.
accepted-none : (o : Option JoinRefused) (m n : ℕ) → answer o m ≡ accepted n → (o ≡ none) × (m ≡ n)
accepted-none none m n e = (refl, ap length_in e)
  where
    length_in : Answer JoinRefused ℕ → ℕ
    length_in (accepted k) = k
    length_in (refused r) = m
accepted-none (some r) m n e = let z : ◌≡◌ {A = ℕ} 0 1 = cc in absurd (omega arith)

pub answered : (f g : List ℕ) (room n : ℕ) → join_answer room f g ≡ accepted n → (join_fault room f g ≡ none) × (length (join_bytes f g) ≡ n)
unfolding join_answer
answered f g room n e = accepted-none (join_fault room f g) (length (join_bytes f g)) n e

-- No file is longer than 65,536 bytes, so no joined one is.
pub answered_short : (f g : List ℕ) (room n : ℕ) → join_answer room f g ≡ accepted n → n ≤ 65536
answered_short f g room n e =
    let a = answered f g room n e in
    subst (λ (k : ℕ). k ≤ 65536) a.1 (joinable room f g a.0).short

-- The n bytes that it wrote, where n is its answer, are the joined file.
pub written : (f g old : List ℕ) (n : ℕ) → join_answer (length old) f g ≡ accepted n → take n (join_output f g old) ≡ join_bytes f g
written f g old n e =
    let a = answered f g (length old) n e in
    ap (take n) (sym (output_joined f g old a.0)) ∙ take_at (join_bytes f g) (drop (length (join_bytes f g)) old) n a.1

pub written_multiplies : (e : Engine) (f g old : List ℕ) (n : ℕ) → Accepts e f → Accepts e g → 0 < length (decoded f).fields → 0 < length (decoded g).fields → join_answer (length old) f g ≡ accepted n
    → (take n (join_output f g old) ≡ join_bytes f g) × Multiplies e f g (take n (join_output f g old))
written_multiplies e f g old n af ag nf ng a =
    let w = written f g old n a in
    (w, subst (Multiplies e f g) (sym w) (join_multiplies e f g (length old) af ag nf ng (answered f g (length old) n a).0))
