-- The code's tests of a record are those of the definitions.
use mathlib.Core.Bool.{Bool, ◌&&◌, ◌||◌, false, not, true, true≢false}
use mathlib.Core.List.{List, [], ◌∷◌}
use mathlib.Core.Path.{◌∙◌, ◌≡◌, ap, refl}
use Prim.Native.Nat.{◌/◌, ◌<◌, suc, zero, ℕ}
use native.Mathlib.Omega.{arith}
use lib.Dec.{ltb}
use lib.IntN.{negsuc, pos, ℤ}
use lib.ListN.{length}
use lib.Signed.{lt_z}
use Rattle.lists.specs.Lists.{is_empty}
use Rattle.lists.proofs.Tests.{ltb_no, ltb_yes, or_split}
use Rattle.spec.specs.declared.kinds.Row as code
use Rattle.spec.specs.Code.{InScale, as_row, blank_in, is_field_kind, stray_code}
use Rattle.spec.specs.Kind.{Kind, Row, constraint, field, field_row, is_natural, member, projector, row_of, unknown}
use Rattle.spec.specs.Record.{Record, records_of}
use Rattle.spec.specs.Refusal.{blank_field, negative, off_scale, on_scale, stray_by, stray_byte}
use Rattle.spec.proofs.Fields.{length_records}

-- ---- the tests
pub negative_lt : (x : ℤ) → lt_z x (pos 0) ≡ negative x
negative_lt (pos n) = ltb_no n 0 (omega arith)
negative_lt (negsuc n) = refl

pub stray_code_lem : (w : code.Row) (h : Record) → stray_code w h ≡ stray_by (as_row w) h
stray_code_lem w h = refl

-- the same of the row that was looked up for a record
pub stray_row : (w : code.Row) (k : Kind) (h : Record) → as_row w ≡ row_of k h.b → stray_code w h ≡ stray_byte k h
stray_row w k h read = stray_code_lem w h ∙ ap (λ (v : Row). stray_by v h) read

pub blank_class : (k : Kind) (h : Record) → blank_field k h ≡ blank_in (is_field_kind k) h
blank_class field h = refl
blank_class unknown h = refl
blank_class (constraint k) h = refl
blank_class (projector k) h = refl
blank_class (member k) h = refl

-- what a record that is not refused 7 says of p, q and r
pub not_off : (k : Kind) (h : Record) → off_scale k h ≡ false → (on_scale h.p ≡ true) × (on_scale h.q ≡ true) × (on_scale h.r ≡ true) × ((is_natural (row_of k h.b).r && negative h.r) ≡ false)
not_off k h e =
    let d = or_split (not (on_scale h.p) || not (on_scale h.q) || not (on_scale h.r) || (is_natural (row_of k h.b).p && negative h.p)) (is_natural (row_of k h.b).r && negative h.r) e in
    let c = or_split (not (on_scale h.p) || not (on_scale h.q) || not (on_scale h.r)) (is_natural (row_of k h.b).p && negative h.p) d.0 in
    let b = or_split (not (on_scale h.p) || not (on_scale h.q)) (not (on_scale h.r)) c.0 in
    let a = or_split (not (on_scale h.p)) (not (on_scale h.q)) b.0 in
    (unnot (on_scale h.p) a.0, unnot (on_scale h.q) a.1, unnot (on_scale h.r) b.1, d.1)
  where
    unnot : (b : Bool) → not b ≡ false → b ≡ true
    unnot true e = refl
    unnot false e = absurd (true≢false e)

pub field_in_scale : (h : Record) → h.b < 2 → off_scale field h ≡ false → InScale h.p h.q h.r
field_in_scale h l e = let n = not_off field h e in record { p_in = n.0; q_in = n.1; r_in = n.2; r-natural = step h.b l n.3 }
  where
    step : (b : ℕ) → b < 2 → (is_natural (field_row b).r && negative h.r) ≡ false → negative h.r ≡ false
    step zero l e = e
    step (suc zero) l e = e
    step (suc (suc b)) l e = absurd (omega arith)

-- ---- whole lists
-- less than one record
pub no_records : (bytes : List ℕ) → ltb (length bytes) 32 ≡ is_empty (records_of bytes)
no_records bytes = go (records_of bytes) (length_records bytes)
  where
    go : (rs : List Record) → length rs ≡ length bytes / 32 → ltb (length bytes) 32 ≡ is_empty rs
    go [] e = ltb_yes (length bytes) 32 (omega arith)
    go (r ∷ rs) e = ltb_no (length bytes) 32 (omega arith)
