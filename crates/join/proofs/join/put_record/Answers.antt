-- `join::join::put_record` meets its contract: the record is copied, and its two numbers are moved.
use mathlib.Core.Path.{◌∙◌, ◌≡◌, ap, ap₂}
use Prim.Native.Nat.{◌*◌, ◌+◌, ◌-◌, ℕ}
use native.Mathlib.Omega.{arith}
use lib.ListN.{drop, take}
use Rattle.spec.specs.Kind.{row_of}
use Rattle.join.specs.Join.{move_bytes}
use Rattle.join.proofs.Written.{record_moved}
use Rattle.join.proofs.join.put_record.Goals as goal

pub returns : goal.returns
returns c =
    let from = c.args.i * 32 in
    let e : from + 32 - from ≡ 32 = omega arith in
    record_moved _ c.row_of-row.result c.args.by _ _ _ (c.row_of-row.ensures ∙ ap₂ row_of c.from.ensures.0 c.from-2.ensures) c.copy_from_slice.ensures.after c.moved.ensures c.moved-2.ensures
    ∙ ap (λ (n : ℕ). move_bytes c.args.by (take n (drop from c.args.file.now))) e
