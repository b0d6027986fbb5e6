-- `compose::filters::compact_ascending` meets its contract. The invariant: those of the first i values that are among the items stand in front, and the value at i is one of them.
use mathlib.Core.Bool.{Bool, cond, false, true}
use mathlib.Core.List.{List}
use mathlib.Core.Path.{◌∙◌, ◌≡◌, ap, refl, subst, sym}
use Prim.Native.Nat.{◌+◌, ◌-◌, ◌<◌, suc, zero, ℕ}
use native.Mathlib.Nat.{add-zero, zero-add}
use native.Mathlib.Omega.{arith}
use borrow.Author.Rules.{rules}
use lib.IntN.{pos, ℤ}
use lib.ListN.{drop, get_or, length, length-drop, set, take}
use lib.Seq.{get_or-drop, take_all}
use mir.Syntax.{w64}
use mir.ValLaws.{to_z-of_z}
use Rattle.compose.proofs.Ascending.{ascending_drop}
use Rattle.compose.proofs.Narrowing.{Moved, is_item, moved_kept, moved_none, moved_past, moved_read, rest_more}
use Rattle.compose.specs.Code.{is_ascending}
use Rattle.compose.specs.Walk.{least}
use Rattle.compose.proofs.filters.compact_ascending.Goals as goal

module _ (p : ℤ → Bool) (l₀ l : List ℤ) (w : ℕ) where
  -- the first j values were moved, and the next one passes
  abbrev Next : ℕ → Type 0
  Next j = Moved p l₀ l₀ l w j × (j < length l₀ → p (get_or l₀ j (pos 0)) ≡ true)

  same_from : (i : ℕ) → Moved p l₀ l₀ l w i → drop i l ≡ drop i l₀
  same_from i m = let b = m.behind in let e : w + (i - w) ≡ i = omega arith in rw e at (rest_more l₀ l w m.rest (i - w))

  next-is : (i k a : ℕ) → i + a + k ≡ length l₀ → Moved p l₀ l₀ l w (i + a) → Next (i + least (λ b. p (get_or (drop i l) b (pos 0))) a k)
  next-is i zero a e m = (m, λ h. absurd (omega arith))
  next-is i (suc k) a e m = go (p (get_or (drop i l) a (pos 0))) refl (next-is i k (suc a) (omega arith))
    where
      here : p (get_or (drop i l) a (pos 0)) ≡ p (get_or l₀ (i + a) (pos 0))
      here = ap p (get_or-drop i l a (pos 0) ∙ moved_read p l₀ l w (i + a) m)

      go : (b : Bool) → p (get_or (drop i l) a (pos 0)) ≡ b → (Moved p l₀ l₀ l w (i + suc a) → Next (i + least (λ b. p (get_or (drop i l) b (pos 0))) (suc a) k)) → Next (i + cond b a (least (λ b. p (get_or (drop i l) b (pos 0))) (suc a) k))
      go true t f = (m, λ h. sym here ∙ t)
      go false t f = let n : i + a + 1 ≡ i + suc a = omega arith in f (rw n at (moved_past p l₀ l₀ l w (i + a) m (omega arith) (sym here ∙ t)))

pub loop-i-init : goal.loop-i-init
loop-i-init c =
    let l = c.args.list.now in
    let p = is_item c.args.items.run.now in
    subst (Next p l l 0) (zero-add _ ∙ sym c.next_item-i.ensures) (next-is p l l 0 0 (length l) 0 (omega arith) (moved_none p l l refl))

-- x, the value at i, moved to the front
module _ (p : ℤ → Bool) (l₀ l : List ℤ) (w i : ℕ) (n : Next p l₀ l w i) (h : i < length l₀) (x : ℤ) (e : x ≡ get_or l i (pos 0)) where
  abbrev left : List ℤ
  left = set l w x

  kept : Moved p l₀ l₀ left (w + 1) (i + 1)
  kept = rw (e ∙ moved_read p l₀ l w i n.0) (moved_kept p l₀ l₀ l w i n.0 h (n.1 h))

  -- what is lent on
  part_is : take (length left - (i + 1)) (drop (i + 1) left) ≡ drop (i + 1) left
  part_is = take_all (length left - (i + 1)) (drop (i + 1) left) (omega (arith, length-drop (i + 1) left))

  part_up : is_ascending l₀ ≡ true → is_ascending (take (length left - (i + 1)) (drop (i + 1) left)) ≡ true
  part_up up = ap is_ascending (part_is ∙ same_from p l₀ left (w + 1) (i + 1) kept) ∙ ascending_drop l₀ up (i + 1)

  -- the next value that is to be moved
  further : (next : ℕ) → next ≡ least (λ b. p (get_or (take (length left - (i + 1)) (drop (i + 1) left)) b (pos 0))) 0 (length (take (length left - (i + 1)) (drop (i + 1) left))) → Next p l₀ left (w + 1) (i + 1 + next)
  further next r =
      let d = drop (i + 1) left in
      subst (λ (n : ℕ). Next p l₀ left (w + 1) (i + 1 + n)) (sym (r ∙ ap (λ (z : List ℤ). least (λ b. p (get_or z b (pos 0))) 0 (length z)) part_is))
      (next-is p l₀ left (w + 1) (i + 1) (length d) 0 (omega (arith, kept.long, kept.inside, length-drop (i + 1) left)) (rw (add-zero (i + 1)) kept))

pub invariant_of-rest : goal.invariant_of-rest
invariant_of-rest c =
    let l = c.loop-i in
    record { ascends = part_up (is_item c.args.items.run.now) c.args.list.now l.list l.kept l.i l.invariant (omega (arith, l.invariant.0.long)) _ (to_z-of_z w64 (get_or l.list l.i (pos 0)) (search rules)) c.requires }

pub overflow_add-i : goal.overflow_add-i
overflow_add-i c =
    let l = c.loop-i in
    let n = (further (is_item c.args.items.run.now) c.args.list.now l.list l.kept l.i l.invariant (omega (arith, l.invariant.0.long)) _ (to_z-of_z w64 (get_or l.list l.i (pos 0)) (search rules)) c.next_item.result.0 c.next_item.ensures).0.inside in
    omega arith

pub loop-i-preserved : goal.loop-i-preserved
loop-i-preserved c =
    let l = c.loop-i in
    further (is_item c.args.items.run.now) c.args.list.now l.list l.kept l.i l.invariant (omega (arith, l.invariant.0.long)) _ (to_z-of_z w64 (get_or l.list l.i (pos 0)) (search rules)) c.next_item.result.0 c.next_item.ensures
