-- Pairs and keys of a cross, as the records that they are.
use mathlib.Core.Bool.{Bool, ◌&&◌, cond, false, true}
use mathlib.Core.List.{List, map}
use mathlib.Core.Path.{◌∙◌, ◌≡◌, refl, sym}
use lib.Dec.{eqb}
use lib.IntN.{ℤ}
use Rattle.lists.specs.Integers.{elem_z, eq_z}
use Rattle.lists.specs.Lists.{any}
use Rattle.lists.proofs.All.{All_of}
use Rattle.lists.proofs.Lists.{any_ext, any-map}
use Rattle.spec.specs.Code.{ps_of}
use Rattle.spec.specs.Record.{Record, entry_of}
use Rattle.spec.specs.Spec.{Key, Pair}
use Rattle.registry.specs.Check.{is_key, is_pair}

abbrev pub pairs : ℤ → ℤ → Record → Bool
pairs v w m = eqb m.code 4 && eq_z v m.p && eq_z w m.q

pub pairs_entry : (v w : ℤ) (m : Record) → pairs v w m ≡ is_pair v w (entry_of m)
pairs_entry v w m = go (eqb m.code 4)
  where
    go : (b : Bool) → (b && eq_z v m.p && eq_z w m.q) ≡ is_pair v w (cond b (Pair m.p m.q) (Key m.p))
    go true = refl
    go false = refl

pub any_pair : (v w : ℤ) (ms : List Record) → any (is_pair v w) (map entry_of ms) ≡ any (pairs v w) ms
any_pair v w ms = any-map (is_pair v w) entry_of ms ∙ any_ext (All_of (λ m. sym (pairs_entry v w m)) ms)

-- A pair's p is a key too.
pub any_key : (v : ℤ) (ms : List Record) → any (is_key v) (map entry_of ms) ≡ elem_z v (ps_of ms)
any_key v ms = any-map (is_key v) entry_of ms ∙ any_ext (All_of (λ m. go m (eqb m.code 4)) ms) ∙ sym (any-map (eq_z v) (λ m. m.p) ms)
  where
    go : (m : Record) (b : Bool) → is_key v (cond b (Pair m.p m.q) (Key m.p)) ≡ eq_z v m.p
    go m true = refl
    go m false = refl
