-- A constraint by its kind: the test of one value that it is, or of two.
use mathlib.Core.Bool.{Bool, and-true, false, false≢true, true, true≢false}
use mathlib.Core.List.{List, map}
use mathlib.Core.Path.{◌≡◌, refl, sym}
use lib.IntN.{negsuc, pos, ℤ}
use Rattle.lists.specs.Lists.{all}
use Rattle.spec.specs.Kind.{ConstraintKind, Kind, bitmask, constraint, cross, enable_mask, enable_set, eq, even, field, ge, gt, le, lt, member, neq, oneof, projector, range, unknown}
use Rattle.spec.specs.Record.{Record, constraint_in, entry_of}
use Rattle.spec.specs.Refusal.{negative}
use Rattle.registry.specs.Check.{cross_allows, holds, value_at}
use Rattle.registry.specs.Code.{mask_by, passes, test_by, test_in}

pub mask-natural : (p : ℤ) → mask_by bitmask p ≡ true → negative p ≡ false
mask-natural (pos n) e = refl
mask-natural (negsuc n) e = absurd (false≢true e)

-- Whether a kind looks at two values.
abbrev two_by : ConstraintKind → Bool
two_by range = false
two_by even = false
two_by eq = true
two_by neq = true
two_by lt = false
two_by gt = false
two_by le = false
two_by ge = false
two_by oneof = false
two_by cross = true
two_by enable_mask = false
two_by bitmask = false
two_by enable_set = false

abbrev pub of_two : Kind → Bool
of_two field = false
of_two unknown = false
of_two (constraint k) = two_by k
of_two (projector k) = false
of_two (member k) = false

-- The check of a row, by the values that it looks at.
module _ (row : List ℤ) (h : Record) (ms : List Record) where
  abbrev pub checked : Kind → Bool
  checked k = all (holds row) (constraint_in k h ms)

  one_by : (k : ConstraintKind) → two_by k ≡ false → passes (test_by k h.p h.q ms) (value_at row h.a) ≡ checked (constraint k)
  one_by range e = sym (and-true _)
  one_by even e = sym (and-true _)
  one_by eq e = absurd (true≢false e)
  one_by neq e = absurd (true≢false e)
  one_by lt e = sym (and-true _)
  one_by gt e = sym (and-true _)
  one_by le e = sym (and-true _)
  one_by ge e = sym (and-true _)
  one_by oneof e = sym (and-true _)
  one_by cross e = absurd (true≢false e)
  one_by enable_mask e = refl
  one_by bitmask e = sym (and-true _)
  one_by enable_set e = refl

  pub of_one : (k : Kind) → of_two k ≡ false → passes (test_in k h.p h.q ms) (value_at row h.a) ≡ checked k
  of_one field e = refl
  of_one unknown e = refl
  of_one (constraint k) e = one_by k e
  of_one (projector k) e = refl
  of_one (member k) e = refl

  pub of_cross : cross_allows (map entry_of ms) (value_at row h.a) (value_at row h.b) ≡ checked (constraint cross)
  of_cross = sym (and-true _)
