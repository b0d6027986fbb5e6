-- `join::join::put_records` meets its contract: each turn puts a record behind those before it.
use mathlib.Core.Path.{◌∙◌, ◌≡◌, ap, sym}
use Prim.Native.Nat.{◌*◌, ◌+◌, ◌-◌, ℕ}
use native.Mathlib.Omega.{arith}
use borrow.Rule.Slice.PartMut.{mid_len, put_mid, same_len_mid}
use lib.ListN.{length, take}
use lib.Seq.{take_all}
use Rattle.join.specs.Code.{moved_range}
use Rattle.join.proofs.Written.{range_none, range_turn}
use Rattle.join.proofs.join.put_records.Goals as goal

pub loop-i-init : goal.loop-i-init
loop-i-init c =
    let z : (c.args.from - c.args.from) * 32 ≡ 0 = omega arith in
    (c.requires.1, ap (λ (k : ℕ). take k c.args.out.now) z ∙ sym (range_none c.args.by c.args.file.now c.args.from))

pub put_record-requires : goal.put_record-requires
put_record-requires c =
    let at = (c.loop-i.i - c.args.from) * 32 in
    let inside = c.requires.0.inside in
    let rising = c.requires.0.rising in
    (omega arith, mid_len at (at + 32) c.loop-i.out (omega (arith, c.loop-i.invariant.0)) ∙ omega arith, c.requires.0.moves_in c.loop-i.i c.loop-i.auto.i c.loop-i-test.true)

pub loop-i-preserved : goal.loop-i-preserved
loop-i-preserved c =
    let l = c.loop-i in
    let at = (l.i - c.args.from) * 32 in
    let p = c.put_record in
    let inside = c.requires.0.inside in
    let rising = c.requires.0.rising in
    let m = mid_len at (at + 32) l.out (omega (arith, l.invariant.0)) in
    let y : length p.new.out ≡ 32 = p.auto.out ∙ m ∙ omega arith in
    let e : (l.i + 1 - c.args.from) * 32 ≡ at + 32 = omega arith in
    (same_len_mid at (at + 32 - at) l.out p.new.out p.auto.out ∙ l.invariant.0, ap (λ (k : ℕ). take k (put_mid at (at + 32 - at) l.out p.new.out)) e ∙ range_turn c.args.by c.args.file.now c.args.from l.i at (at + 32 - at) l.out p.new.out l.auto.i (omega arith) (omega (arith, l.invariant.0)) y l.invariant.1 p.ensures)

pub returns : goal.returns
returns c =
    let l = c.loop-i in
    let rising = c.requires.0.rising in
    let e : l.i ≡ c.args.to = omega arith in
    sym (take_all ((l.i - c.args.from) * 32) l.out (omega (arith, l.invariant.0))) ∙ l.invariant.1 ∙ ap (moved_range c.args.by c.args.file.now c.args.from) e
