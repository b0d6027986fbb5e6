-- Judging record by record: what is left, turn by turn.
use mathlib.Core.Bool.{Bool, cond, false, true}
use mathlib.Core.List.{List, [], ◌++◌, ◌∷◌}
use mathlib.Core.Option.{Option, none}
use mathlib.Core.Path.{◌∙◌, ◌≡◌, ap, refl, sym}
use Prim.Native.Nat.{◌+◌, suc, ℕ}
use native.Mathlib.Nat.{add-suc, add-zero, suc-add}
use lib.Dec.{eqb}
use lib.ListN.{length}
use Rattle.spec.specs.Code.{left}
use Rattle.spec.specs.Kind.{is_member}
use Rattle.spec.specs.Record.{Record, group, groups, member_run, unless_member, while_member}
use Rattle.spec.specs.Refusal.{Context, Refused, ◌▷◌, after_head, belongs, context, first_true, groups_fault, head_tests, lead_fault, list_fault, member_fault, member_tests, members_fault, misfiled, records_fault, refuse, stray_byte}
use Rattle.spec.proofs.Refusals.{▷_assoc}

-- a misfiled member ends the judging
misfiled_stops : (m : Record) (i : ℕ) (rest : Option Refused) → misfiled m i ▷ rest ≡ misfiled m i
misfiled_stops m i rest = go (stray_byte m.kind m)
  where
    go : (b : Bool) → refuse (first_true 2 (false ∷ b ∷ true ∷ [])) i ▷ rest ≡ refuse (first_true 2 (false ∷ b ∷ true ∷ [])) i
    go true = refl
    go false = refl

-- a head and what follows it
opened : (c : Context) (m : Record) (ms : List Record) (j : ℕ)
    → groups_fault c j (group m (member_run ms) ∷ groups ms) ≡ refuse (first_true 2 (head_tests m.kind c m)) j ▷ left (after_head m.kind c) m j [] ms (suc j)
unfolding left
opened c m ms j =
    ▷_assoc (refuse (first_true 2 (head_tests m.kind c m)) j) (members_fault (after_head m.kind c).fields m j [] (member_run ms) (suc j)) _
    ∙ ap (λ (k : ℕ). refuse (first_true 2 (head_tests m.kind c m)) j ▷ (members_fault (after_head m.kind c).fields m j [] (member_run ms) (suc j) ▷ groups_fault (after_head m.kind c) k (groups ms)))
    (add-suc j (length (member_run ms)) ∙ sym (suc-add j (length (member_run ms))))

module _ (c : Context) (h : Record) (i : ℕ) (before : List Record) where
  -- no record is left
  pub left_end : (j : ℕ) → left c h i before [] j ≡ refuse (list_fault h.kind h before) i ▷ cond (eqb c.section 2) none (refuse 4 j)
  unfolding left
  left_end j = ap (λ (k : ℕ). refuse (list_fault h.kind h before) i ▷ cond (eqb c.section 2) none (refuse 4 k)) (add-zero j)

  module _ (m : Record) (ms : List Record) (j : ℕ) where
    -- a member that the open head takes
    pub left-member : is_member m.kind ≡ true → belongs h m ≡ true
        → left c h i before (m ∷ ms) j ≡ refuse (first_true 2 (member_tests m.kind c.fields h before m)) j ▷ left c h i (before ++ (m ∷ [])) ms (suc j)
    unfolding left
    left-member e b =
        cut e ∙ ap (λ (t : Bool). member_fault c.fields h i t before m j rest ▷ groups_fault c (j + suc (length (member_run ms))) (groups ms)) b
        ∙ ▷_assoc (refuse (first_true 2 (member_tests m.kind c.fields h before m)) j) rest _
        ∙ ap (λ (k : ℕ). refuse (first_true 2 (member_tests m.kind c.fields h before m)) j ▷ (rest ▷ groups_fault c k (groups ms))) (add-suc j (length (member_run ms)) ∙ sym (suc-add j (length (member_run ms))))
      where
        rest : Option Refused
        rest = members_fault c.fields h i (before ++ (m ∷ [])) (member_run ms) (suc j)

        cut : is_member m.kind ≡ true
            → members_fault c.fields h i before (member_run (m ∷ ms)) j ▷ groups_fault c (j + length (member_run (m ∷ ms))) (groups (m ∷ ms))
            ≡ member_fault c.fields h i (belongs h m) before m j rest ▷ groups_fault c (j + suc (length (member_run ms))) (groups ms)
        cut e = ap (λ (t : Bool). members_fault c.fields h i before (while_member t m (member_run ms)) j ▷ groups_fault c (j + length (while_member t m (member_run ms))) (unless_member t m (member_run ms) (groups ms))) e

    -- a member that it does not take
    pub left_stray : is_member m.kind ≡ true → belongs h m ≡ false → left c h i before (m ∷ ms) j ≡ refuse (list_fault h.kind h before) i ▷ misfiled m j
    unfolding left
    left_stray e b =
        ap (λ (t : Bool). members_fault c.fields h i before (while_member t m (member_run ms)) j ▷ groups_fault c (j + length (while_member t m (member_run ms))) (unless_member t m (member_run ms) (groups ms))) e
        ∙ ap (λ (t : Bool). member_fault c.fields h i t before m j (members_fault c.fields h i (before ++ (m ∷ [])) (member_run ms) (suc j)) ▷ groups_fault c (j + suc (length (member_run ms))) (groups ms)) b
        ∙ ▷_assoc (refuse (list_fault h.kind h before) i) (misfiled m j) _
        ∙ ap (λ o. refuse (list_fault h.kind h before) i ▷ o) (misfiled_stops m j _)

    -- the next head
    pub left_head : is_member m.kind ≡ false
        → left c h i before (m ∷ ms) j ≡ refuse (list_fault h.kind h before) i ▷ (refuse (first_true 2 (head_tests m.kind c m)) j ▷ left (after_head m.kind c) m j [] ms (suc j))
    unfolding left
    left_head e =
        ap (λ (t : Bool). members_fault c.fields h i before (while_member t m (member_run ms)) j ▷ groups_fault c (j + length (while_member t m (member_run ms))) (unless_member t m (member_run ms) (groups ms))) e
        ∙ ap (λ o. refuse (list_fault h.kind h before) i ▷ o) (ap (λ (k : ℕ). groups_fault c k (group m (member_run ms) ∷ groups ms)) (add-zero j) ∙ opened c m ms j)

-- ---- the first record
pub first_none : records_fault [] ≡ refuse 4 1
unfolding records_fault
first_none = refl

pub first_member : (m : Record) (ms : List Record) → is_member m.kind ≡ true → records_fault (m ∷ ms) ≡ misfiled m 1
unfolding records_fault
first_member m ms e = ap (λ (t : Bool). lead_fault (while_member t m (member_run ms)) (groups_fault (context 0 0 0) 1 (unless_member t m (member_run ms) (groups ms)))) e

pub first_head : (m : Record) (ms : List Record) → is_member m.kind ≡ false
    → records_fault (m ∷ ms) ≡ refuse (first_true 2 (head_tests m.kind (context 0 0 0) m)) 1 ▷ left (after_head m.kind (context 0 0 0)) m 1 [] ms 2
unfolding records_fault
first_head m ms e =
    ap (λ (t : Bool). lead_fault (while_member t m (member_run ms)) (groups_fault (context 0 0 0) 1 (unless_member t m (member_run ms) (groups ms)))) e
    ∙ opened (context 0 0 0) m ms 1
