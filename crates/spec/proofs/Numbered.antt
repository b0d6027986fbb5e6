-- The numbers of the refusals that a file alone is judged by: at most 10.
use mathlib.Core.Bool.{Bool, ◌&&◌, ◌||◌, cond, false, true}
use mathlib.Core.List.{List, [], ◌++◌, ◌∷◌}
use mathlib.Core.Option.{Option, none, some}
use Prim.Native.Nat.{◌+◌, ◌≤◌, suc, zero, ℕ}
use native.Mathlib.Omega.{arith}
use lib.Dec.{eqb}
use lib.ListN.{length}
use Rattle.lists.specs.Lists.{is_empty}
use Rattle.spec.specs.Domain.{too_many}
use Rattle.spec.specs.Kind.{Kind, ProjectorKind, constraint, decompose, field, identity, member, parity, projector, sum, unknown}
use Rattle.spec.specs.Record.{Group, Record, decoded, group, groups, member_run, records_of}
use Rattle.spec.specs.Refusal.{Context, Refused, ◌▷◌, after, bad_offset, belongs, context, file_fault, first_true, group_fault, groups_fault, head_tests, lead_fault, list_fault, member_fault, member_tests, members_fault, misfiled, projector_list_fault, ragged, records_fault, refuse, refuse_if, stray_byte}

-- 0 where nothing is refused.
abbrev pub number_of : Option Refused → ℕ
number_of none = 0
number_of (some r) = r.number

low_or : (a b : Option Refused) → number_of a ≤ 10 → number_of b ≤ 10 → number_of (a ▷ b) ≤ 10
low_or none b l m = m
low_or (some r) b l m = l

low_refuse : (n i : ℕ) → n ≤ 10 → number_of (refuse n i) ≤ 10
low_refuse zero i l = l
low_refuse (suc n) i l = l

low_if : (b : Bool) (n : ℕ) → n ≤ 10 → number_of (refuse_if b n) ≤ 10
low_if true n l = low_refuse n 0 l
low_if false n l = omega arith

low_cond : (b : Bool) (n m : ℕ) → n ≤ 10 → m ≤ 10 → cond b n m ≤ 10
low_cond true n m l k = l
low_cond false n m l k = k

low_first : (n : ℕ) (bs : List Bool) → n + length bs ≤ 11 → first_true n bs ≤ 10
low_first n [] l = omega arith
low_first n (b ∷ bs) l = low_cond b n (first_true (suc n) bs) (omega arith) (low_first (suc n) bs (omega arith))

low_projector : (k : ProjectorKind) (h : Record) (ms : List Record) → projector_list_fault k h ms ≤ 10
low_projector sum h ms = omega arith
low_projector identity h ms = omega arith
low_projector parity h ms = omega arith
low_projector decompose h ms = low_cond (is_empty ms || bad_offset ms h.q) 9 0 (omega arith) (omega arith)

low_list : (k : Kind) (h : Record) (ms : List Record) → list_fault k h ms ≤ 10
low_list field h ms = low_cond (eqb h.b 2 && is_empty ms) 8 0 (omega arith) (omega arith)
low_list unknown h ms = omega arith
low_list (constraint k) h ms = omega arith
low_list (projector k) h ms = low_projector k h ms
low_list (member k) h ms = omega arith

low_misfiled : (m : Record) (i : ℕ) → number_of (misfiled m i) ≤ 10
low_misfiled m i = low_refuse _ i (low_first 2 (false ∷ stray_byte m.kind m ∷ true ∷ []) (omega arith))

low_members : (n : ℕ) (h : Record) (i : ℕ) (before ms : List Record) (j : ℕ) → number_of (members_fault n h i before ms j) ≤ 10
low_members n h i before [] j = low_refuse _ i (low_list h.kind h before)
low_members n h i before (m ∷ ms) j = go (belongs h m) (low_members n h i (before ++ (m ∷ [])) ms (suc j))
  where
    go : (b : Bool) → number_of (members_fault n h i (before ++ (m ∷ [])) ms (suc j)) ≤ 10 → number_of (member_fault n h i b before m j (members_fault n h i (before ++ (m ∷ [])) ms (suc j))) ≤ 10
    go true rest = low_or (refuse (first_true 2 (member_tests m.kind n h before m)) j) _ (low_refuse _ j (low_first 2 (member_tests m.kind n h before m) (omega arith))) rest
    go false rest = low_or (refuse (list_fault h.kind h before) i) _ (low_refuse _ i (low_list h.kind h before)) (low_misfiled m j)

low_group : (c : Context) (i : ℕ) (g : Group) → number_of (group_fault c i g) ≤ 10
low_group c i (group h ms) =
    low_or (refuse (first_true 2 (head_tests h.kind c h)) i) _ (low_refuse _ i (low_first 2 (head_tests h.kind c h) (omega arith))) (low_members (after c (group h ms)).fields h i [] ms (suc i))

low_groups : (c : Context) (i : ℕ) (gs : List Group) → number_of (groups_fault c i gs) ≤ 10
low_groups c i [] = go (eqb c.section 2)
  where
    go : (b : Bool) → number_of (cond b none (refuse 4 i)) ≤ 10
    go true = omega arith
    go false = omega arith
low_groups c i (g ∷ gs) = low_or (group_fault c i g) _ (low_group c i g) (low_groups (after c g) _ gs)

low_lead : (ms : List Record) (rest : Option Refused) → number_of rest ≤ 10 → number_of (lead_fault ms rest) ≤ 10
low_lead [] rest l = l
low_lead (m ∷ ms) rest l = low_misfiled m 1

low_records : (rs : List Record) → number_of (records_fault rs) ≤ 10
unfolding records_fault
low_records rs = low_lead (member_run rs) (groups_fault (context 0 0 0) 1 (groups rs)) (low_groups (context 0 0 0) 1 (groups rs))

pub file_low : (file : List ℕ) → number_of (file_fault file) ≤ 10
unfolding file_fault
file_low file = low_or (refuse_if (ragged file) 1) _ (low_if (ragged file) 1 (omega arith)) (low_or (records_fault (records_of file)) _ (low_records (records_of file)) (low_if (too_many (decoded file)) 10 (omega arith)))
