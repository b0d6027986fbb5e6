-- `join::join::write_joined` meets its contract: the output is cut into its five parts, and each is written whole.
use mathlib.Core.List.{List, ◌++◌}
use mathlib.Core.Path.{◌∙◌, ◌≡◌, ap₂, sym}
use Prim.Native.Nat.{◌*◌, ◌+◌, ◌<◌, ◌≤◌, ℕ}
use native.Mathlib.Omega.{arith}
use lib.ListN.{length}
use Rattle.spec.specs.declared.validate.Accepted.{Accepted}
use Rattle.spec.specs.declared.validate.Shape as code
use Rattle.join.specs.Join.{join_bytes}
use Rattle.join.proofs.Faults.{Shaped, accepted_shaped, constraints_in_lem, fields_in, join-length, join_ranges}
use Rattle.join.proofs.join.write_joined.Goals as goal

-- the two shapes, where their records stand, and the length of the output
record Placed (f g out : List ℕ) (s t : code.Shape) : Type 0 where
  first : Shaped f s
  second : Shaped g t
  rising₁ : s.constraints_at ≤ s.projector_at
  rising₂ : t.constraints_at ≤ t.projector_at
  below₁ : s.projector_at < 2048
  below₂ : t.projector_at < 2048
  long : length out ≡ (s.projector_at + t.projector_at + 1) * 32

module _ (a b : Accepted) (out : List ℕ) where
  placed : (a.shape.fields + b.shape.fields ≤ 32) × (length out ≡ length (join_bytes a.file.now b.file.now)) → Placed a.file.now b.file.now out a.shape b.shape
  placed r =
      let u = accepted_shaped a in
      let v = accepted_shaped b in
      let i = u.ranges.inside in
      let j = v.ranges.inside in
      let l = u.short in
      let m = v.short in
      record { first = u; second = v; rising₁ = u.ranges.rising; rising₂ = v.ranges.rising; below₁ = omega arith; below₂ = omega arith; long = r.1 ∙ join-length u v }

pub overflow_mul-s : goal.overflow_mul-s
overflow_mul-s c = let w = placed c.args.first c.args.second c.args.out.now c.requires in omega (arith, w.rising₁, w.below₁)

pub split_at_mut-fields-requires : goal.split_at_mut-fields-requires
split_at_mut-fields-requires c = let w = placed c.args.first c.args.second c.args.out.now c.requires in omega (arith, w.rising₁, w.long)

pub overflow_mul-t : goal.overflow_mul-t
overflow_mul-t c = let w = placed c.args.first c.args.second c.args.out.now c.requires in omega (arith, w.rising₂, w.below₂)

pub split_at_mut-more_fields-requires : goal.split_at_mut-more_fields-requires
split_at_mut-more_fields-requires c = let w = placed c.args.first c.args.second c.args.out.now c.requires in omega (arith, w.rising₁, w.rising₂, w.long, c.split_at_mut-fields.ensures.back_len)

pub overflow_sub-s : goal.overflow_sub-s
overflow_sub-s c = (placed c.args.first c.args.second c.args.out.now c.requires).rising₁

pub overflow_mul-s-2 : goal.overflow_mul-s-2
overflow_mul-s-2 c = let w = placed c.args.first c.args.second c.args.out.now c.requires in omega (arith, w.below₁)

pub split_at_mut-rules-requires : goal.split_at_mut-rules-requires
split_at_mut-rules-requires c =
    let w = placed c.args.first c.args.second c.args.out.now c.requires in
    omega (arith, w.rising₁, w.rising₂, w.long, c.split_at_mut-fields.ensures.back_len, c.split_at_mut-more_fields.ensures.back_len)

pub overflow_sub-t : goal.overflow_sub-t
overflow_sub-t c = (placed c.args.first c.args.second c.args.out.now c.requires).rising₂

pub overflow_mul-t-2 : goal.overflow_mul-t-2
overflow_mul-t-2 c = let w = placed c.args.first c.args.second c.args.out.now c.requires in omega (arith, w.below₂)

pub split_at_mut-more_rules-requires : goal.split_at_mut-more_rules-requires
split_at_mut-more_rules-requires c =
    let w = placed c.args.first c.args.second c.args.out.now c.requires in
    omega (arith, w.rising₁, w.rising₂, w.long, c.split_at_mut-fields.ensures.back_len, c.split_at_mut-more_fields.ensures.back_len, c.split_at_mut-rules.ensures.back_len)

pub put_records-requires : goal.put_records-requires
put_records-requires c = (fields_in (placed c.args.first c.args.second c.args.out.now c.requires).first 0 (omega arith), omega (arith, c.split_at_mut-fields.ensures.front_len))

pub put_records-requires-2 : goal.put_records-requires-2
put_records-requires-2 c =
    let w = placed c.args.first c.args.second c.args.out.now c.requires in
    (fields_in w.second c.args.first.shape.fields w.first.fields-few, omega (arith, c.split_at_mut-more_fields.ensures.front_len))

pub put_records-requires-3 : goal.put_records-requires-3
put_records-requires-3 c = (constraints_in_lem (placed c.args.first c.args.second c.args.out.now c.requires).first 0 (omega arith), c.split_at_mut-rules.ensures.front_len)

pub put_records-requires-4 : goal.put_records-requires-4
put_records-requires-4 c =
    let w = placed c.args.first c.args.second c.args.out.now c.requires in
    (constraints_in_lem w.second c.args.first.shape.fields w.first.fields-few, c.split_at_mut-more_rules.ensures.front_len)

pub put_sum-requires : goal.put_sum-requires
put_sum-requires c =
    let w = placed c.args.first c.args.second c.args.out.now c.requires in
    omega (arith, w.rising₁, w.rising₂, w.long, c.split_at_mut-fields.ensures.back_len, c.split_at_mut-more_fields.ensures.back_len, c.split_at_mut-rules.ensures.back_len, c.split_at_mut-more_rules.ensures.back_len)

pub returns : goal.returns
returns c =
    let w = placed c.args.first c.args.second c.args.out.now c.requires in
    ap₂ ◌++◌ c.put_records.ensures (ap₂ ◌++◌ c.put_records-2.ensures (ap₂ ◌++◌ c.put_records-3.ensures (ap₂ ◌++◌ c.put_records-4.ensures c.put_sum.ensures)))
    ∙ sym (join_ranges w.first w.second)
