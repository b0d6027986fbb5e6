-- The number of a record's refusal is the lowest that applies to it.
use mathlib.Core.Bool.{false, true}
use mathlib.Core.List.{List, [], ◌++◌, ◌∷◌}
use mathlib.Core.Option.{some}
use mathlib.Core.Path.{◌∙◌, ◌≡◌, ap, refl}
use Prim.Native.Nat.{◌+◌, suc, zero, ℕ}
use Rattle.spec.specs.Kind.{Kind}
use Rattle.spec.specs.Record.{Group, Record}
use Rattle.spec.specs.Refusal.{Context, Refused, ◌▷◌, after, bad_packing, belongs, blank_field, first_true, group_fault, groups_fault, head_tests, list_fault, member_fault, member_tests, members_fault, misfiled, no_such_field, not_due, off_scale, out_of_order, overfull, refuse, size_of, stray_byte, unknown_kind}

-- The number that a head is refused with, 0 for none.
pub record HeadNumber (k : Kind) (c : Context) (h : Record) (n : ℕ) : Type 0 where
  pub two : unknown_kind k h ≡ true → n ≡ 2
  pub three : unknown_kind k h ≡ false → stray_byte k h ≡ true → n ≡ 3
  pub four : unknown_kind k h ≡ false → stray_byte k h ≡ false → out_of_order k c h ≡ true → n ≡ 4
  pub five : unknown_kind k h ≡ false → stray_byte k h ≡ false → out_of_order k c h ≡ false → overfull k c ≡ true → n ≡ 5
  pub six : unknown_kind k h ≡ false → stray_byte k h ≡ false → out_of_order k c h ≡ false → overfull k c ≡ false → no_such_field k c.fields h ≡ true → n ≡ 6
  pub seven : unknown_kind k h ≡ false → stray_byte k h ≡ false → out_of_order k c h ≡ false → overfull k c ≡ false → no_such_field k c.fields h ≡ false → off_scale k h ≡ true → n ≡ 7
  pub eight : unknown_kind k h ≡ false → stray_byte k h ≡ false → out_of_order k c h ≡ false → overfull k c ≡ false → no_such_field k c.fields h ≡ false → off_scale k h ≡ false → blank_field k h ≡ true → n ≡ 8

pub head_number : (k : Kind) (c : Context) (h : Record) → HeadNumber k c h (first_true 2 (head_tests k c h))
head_number k c h = record {
  two = λ a. rw a;
  three = λ a b. rw (a, b);
  four = λ a b d. rw (a, b, d);
  five = λ a b d e. rw (a, b, d, e);
  six = λ a b d e f. rw (a, b, d, e, f);
  seven = λ a b d e f g. rw (a, b, d, e, f, g);
  eight = λ a b d e f g i. rw (a, b, d, e, f, g, i);
}

-- The number that a member m of head h is refused with; n fields stand before it.
pub record MemberNumber (k : Kind) (n : ℕ) (h : Record) (before : List Record) (m : Record) (number : ℕ) : Type 0 where
  pub three : stray_byte k m ≡ true → number ≡ 3
  pub four : stray_byte k m ≡ false → not_due k h.a m ≡ true → number ≡ 4
  pub six : stray_byte k m ≡ false → not_due k h.a m ≡ false → no_such_field k n m ≡ true → number ≡ 6
  pub seven : stray_byte k m ≡ false → not_due k h.a m ≡ false → no_such_field k n m ≡ false → off_scale k m ≡ true → number ≡ 7
  pub nine : stray_byte k m ≡ false → not_due k h.a m ≡ false → no_such_field k n m ≡ false → off_scale k m ≡ false → bad_packing k before m ≡ true → number ≡ 9

pub member-number : (k : Kind) (n : ℕ) (h : Record) (before : List Record) (m : Record) → MemberNumber k n h before m (first_true 2 (member_tests k n h before m))
member-number k n h before m = record {
  three = λ a. rw a;
  four = λ a b. rw (a, b);
  six = λ a b c. rw (a, b, c);
  seven = λ a b c d. rw (a, b, c, d);
  nine = λ a b c d e. rw (a, b, c, d, e);
}

-- A fault of a whole list is judged before a member that the list does not take.
pub list-before_stray : (n : ℕ) (h : Record) (i : ℕ) (before : List Record) (m : Record) (ms : List Record) (j : ℕ) → belongs h m ≡ false → ¬ (list_fault h.kind h before ≡ 0)
    → members_fault n h i before (m ∷ ms) j ≡ refuse (list_fault h.kind h before) i
list-before_stray n h i before m ms j e f = ap (λ b. member_fault n h i b before m j (members_fault n h i (before ++ (m ∷ [])) ms (suc j))) e ∙ go (list_fault h.kind h before) f
  where
    go : (k : ℕ) → ¬ (k ≡ 0) → refuse k i ▷ misfiled m j ≡ refuse k i
    go zero f = absurd (f refl)
    go (suc k) f = refl

-- The first faulty group counts.
pub first_group : (c : Context) (i : ℕ) (g : Group) (gs : List Group) (r : Refused) → group_fault c i g ≡ some r → groups_fault c i (g ∷ gs) ≡ some r
first_group c i g gs r e = ap (λ o. o ▷ groups_fault (after c g) (i + size_of g) gs) e
