-- What a constraint asks of a row of values (src/verify/registry.rs). Filters of allowed lists and checks of rows share `meets`.
use Rattle.std.specs.Prelude.{Bool, true, false, not, ◌&&◌, ◌||◌, List, ℕ, get_or, eqb, ℤ, pos}
use Rattle.std.specs.Int.Signed.{lt_z, le_z}
use Rattle.lists.specs.Lists.{any}
use Rattle.lists.specs.Integers.{eq_z, elem_z, and_z, low_bit}
use Rattle.spec.specs.Spec.{Test, Range, Even, Lt, Gt, Le, Ge, Oneof, Bitmask, Entry, Pair, Key, ConstraintSpec, Check, Eq, Neq, Cross, Enable}

-- Range includes p and q; lt to ge compare the value with p; bitmask: the value AND the mask, in two's complement, is q.
abbrev pub meets : Test → ℤ → Bool
meets (Range p q) v = le_z p v && le_z v q
meets Even v = eqb (low_bit v) 0
meets (Lt p) v = lt_z v p
meets (Gt p) v = lt_z p v
meets (Le p) v = le_z v p
meets (Ge p) v = le_z p v
meets (Oneof items) v = elem_z v items
meets (Bitmask mask q) v = eq_z (pos (and_z v mask)) q

-- A pair's p is a key too.
abbrev pub is_key : ℤ → Entry → Bool
is_key v (Pair p q) = eq_z v p
is_key v (Key p) = eq_z v p

abbrev pub is_pair : ℤ → ℤ → Entry → Bool
is_pair v w (Pair p q) = eq_z v p && eq_z w q
is_pair v w (Key p) = false

-- A cross lets a parent value that is no key have any child value, and a key only those paired with it.
abbrev pub cross_allows : List Entry → ℤ → ℤ → Bool
cross_allows entries v w = not (any (is_key v) entries) || any (is_pair v w) entries

-- The value of field f in a row.
abbrev pub value_at : List ℤ → ℕ → ℤ
value_at row f = get_or row f (pos 0)

-- Whether a row meets a constraint; enable records are always true.
abbrev pub holds : List ℤ → ConstraintSpec → Bool
holds row (Check f t) = meets t (value_at row f)
holds row (Eq a b) = eq_z (value_at row a) (value_at row b)
holds row (Neq a b) = not (eq_z (value_at row a) (value_at row b))
holds row (Cross parent child entries) = cross_allows entries (value_at row parent) (value_at row child)
holds row (Enable e f trigger writes) = true
