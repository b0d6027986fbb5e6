-- Members that are passed at once: a plain member belongs to its head and has no fault, so it leaves what there was to judge.
use mathlib.Core.Bool.{Bool, ◌&&◌, false, true}
use mathlib.Core.List.{List}
use mathlib.Core.Option.{none}
use mathlib.Core.Path.{◌∙◌, ◌≡◌, ap, refl, subst, sym}
use mathlib.Core.Logic.{inl, inr}
use Prim.Native.Nat.{◌%◌, ◌*◌, ◌+◌, ◌-◌, ◌/◌, ◌<◌, ◌≤◌, suc, zero, ℕ}
use native.Mathlib.Nat.{add-zero}
use native.Mathlib.Omega.{arith}
use lib.Dec.{eqb, ltb}
use lib.IntN.{pos}
use lib.ListN.{drop, length, take}
use Rattle.lists.proofs.Tests.{eqb_yes, leb_no, no_ge, yes_lt}
use Rattle.spec.specs.Code.{InBytes, InList, IsPlain, Leads, lead_of, left_at}
use Rattle.spec.specs.Kind.{Kind, assign, disable, is_member, item, key, kind_of, member, pair, row_of, value}
use Rattle.spec.specs.Record.{Record, record_at, records_of}
use Rattle.spec.specs.Refusal.{first_true, member_tests, on_scale, refuse}
use Rattle.spec.specs.declared.plain.PlainList.{PlainList}
use Rattle.spec.specs.declared.plain.PlainList.TheVariants as plain
use Rattle.spec.specs.declared.scan.State.{State}
use Rattle.spec.proofs.Fields.{kind_of_lem}
use Rattle.spec.proofs.Turns.{at_member}

-- What is said of the numbers up to k and of those from k on.
pub said_on : (Said : ℕ → Type 0) (i k n : ℕ) → ((j : ℕ) → i ≤ j → j < k → Said j) → ((j : ℕ) → k ≤ j → j < n → Said j) → (j : ℕ) → i ≤ j → j < n → Said j
said_on Said i k n t e j g l = go (ltb j k) refl
  where
    go : (b : Bool) → ltb j k ≡ b → Said j
    go true q = t j g (yes_lt j k q)
    go false q = e j (no_ge j k q) l

-- One more number.
pub said_more : (Said : ℕ → Type 0) (i k : ℕ) → ((j : ℕ) → i ≤ j → j < k → Said j) → Said k → (j : ℕ) → i ≤ j → j < k + 1 → Said j
said_more Said i k t e = said_on Said i k (k + 1) t (λ j g l. let s : k ≡ j = omega arith in subst Said s e)

-- ---- the first eight bytes
pub leads : (kind a : ℕ) (m : Record) → InBytes m → kind < 256 → a < 256 → lead_of m ≡ kind + a * 0x100 → Leads kind a m
leads kind a m b k l w = record {
  code_is = omega (arith, w, b.code-low, b.a-low, b.b-low);
  a_is = omega (arith, w, b.code-low, b.a-low, b.b-low);
  b_is = omega (arith, w, b.code-low, b.a-low, b.b-low);
  padding_is = omega (arith, w, b.code-low, b.a-low, b.b-low);
}

-- The same of a member that names one of n fields.
pub leads_named : (kind n : ℕ) (m : Record) → InBytes m → n ≤ 256 → lead_of m % 0x100 ≡ kind → lead_of m / 0x100 < n → Leads kind m.a m × (m.a < n)
leads_named kind n m b k r q =
    let w : lead_of m ≡ kind + lead_of m / 0x100 * 0x100 = omega (arith, r) in
    let l = leads kind (lead_of m / 0x100) m b (omega arith) (omega arith) w in
    (subst (λ (a : ℕ). Leads kind a m) (sym l.a_is) l, subst (λ (a : ℕ). a < n) (sym l.a_is) q)

-- ---- a member of a kind that belongs to head h and of which no test is true, where n fields stand before it
abbrev Passes : Record → ℕ → Record → Kind → Type 0
Passes h n m k = (is_member k ≡ true) × ((is_member k && eqb (row_of h.kind h.b).list (row_of k m.b).list) ≡ true) × ((before : List Record) → first_true 2 (member_tests k n h before m) ≡ 0)

-- Head h takes such members.
abbrev Takes : PlainList → ℕ → Record → Type 0
Takes (plain.Values f) n h = ((row_of h.kind h.b).list ≡ 1) × (h.a ≡ f)
Takes plain.Items n h = (row_of h.kind h.b).list ≡ 18
Takes plain.Entries n h = (row_of h.kind h.b).list ≡ 19
Takes (plain.Disables k) n h = ((row_of h.kind h.b).list ≡ 20) × (k ≡ n)
Takes (plain.Assigns k) n h = ((row_of h.kind h.b).list ≡ 22) × (k ≡ n)

module _ (h : Record) (n : ℕ) (m : Record) (read : m.kind ≡ kind_of m.code) where
  named : (k : Kind) → m.kind ≡ k → Passes h n m k → Passes h n m m.kind
  named k e p = subst (Passes h n m) (sym e) p

  -- What it is of each kind.
  value_passes : (row_of h.kind h.b).list ≡ 1 → Leads 2 h.a m → m.q ≡ pos 0 → on_scale m.p ≡ true → m.r ≡ pos 0 → Passes h n m m.kind
  unfolding kind_of
  value_passes e l q p r = named (member value) (read ∙ ap kind_of l.code_is) (refl, eqb_yes _ _ e, λ before. rw (eqb_yes m.a h.a l.a_is, l.b_is, l.padding_is, q, p, r) refl)

  item_passes : (row_of h.kind h.b).list ≡ 18 → Leads 3 0 m → m.q ≡ pos 0 → on_scale m.p ≡ true → m.r ≡ pos 0 → Passes h n m m.kind
  unfolding kind_of
  item_passes e l q p r = named (member item) (read ∙ ap kind_of l.code_is) (refl, eqb_yes _ _ e, λ before. rw (l.a_is, l.b_is, l.padding_is, q, p, r) refl)

  pair_passes : (row_of h.kind h.b).list ≡ 19 → Leads 4 0 m → on_scale m.q ≡ true → on_scale m.p ≡ true → m.r ≡ pos 0 → Passes h n m m.kind
  unfolding kind_of
  pair_passes e l q p r = named (member pair) (read ∙ ap kind_of l.code_is) (refl, eqb_yes _ _ e, λ before. rw (l.a_is, l.b_is, l.padding_is, q, p, r) refl)

  key_passes : (row_of h.kind h.b).list ≡ 19 → Leads 5 0 m → m.q ≡ pos 0 → on_scale m.p ≡ true → m.r ≡ pos 0 → Passes h n m m.kind
  unfolding kind_of
  key_passes e l q p r = named (member key) (read ∙ ap kind_of l.code_is) (refl, eqb_yes _ _ e, λ before. rw (l.a_is, l.b_is, l.padding_is, q, p, r) refl)

  disable_passes : (row_of h.kind h.b).list ≡ 20 → Leads 6 m.a m → m.a < n → m.p ≡ pos 0 → m.q ≡ pos 0 → m.r ≡ pos 0 → Passes h n m m.kind
  unfolding kind_of
  disable_passes e l a p q r = named (member disable) (read ∙ ap kind_of l.code_is) (refl, eqb_yes _ _ e, λ before. rw (leb_no n m.a a, l.b_is, l.padding_is, q, p, r) refl)

  assign_passes : (row_of h.kind h.b).list ≡ 22 → Leads 7 m.a m → m.a < n → m.q ≡ pos 0 → on_scale m.p ≡ true → m.r ≡ pos 0 → Passes h n m m.kind
  unfolding kind_of
  assign_passes e l a q p r = named (member assign) (read ∙ ap kind_of l.code_is) (refl, eqb_yes _ _ e, λ before. rw (leb_no n m.a a, l.b_is, l.padding_is, q, p, r) refl)

  entry_passes : (row_of h.kind h.b).list ≡ 19 → on_scale m.p ≡ true → m.r ≡ pos 0 → InList plain.Entries m → Passes h n m m.kind
  entry_passes e p r (inl t) = pair_passes e t.0 t.1 p r
  entry_passes e p r (inr t) = key_passes e t.0 t.1 p r

  passes : (list : PlainList) → Takes list n h → IsPlain list m → Passes h n m m.kind
  passes (plain.Values f) t said = value_passes t.0 (subst (λ (a : ℕ). Leads 2 a m) (sym t.1) said.in_list.0) said.in_list.1 said.p_in said.r_is
  passes plain.Items t said = item_passes t said.in_list.0 said.in_list.1 said.p_in said.r_is
  passes plain.Entries t said = entry_passes t said.p_in said.r_is said.in_list
  passes (plain.Disables k) t said =
      let i = said.in_list in
      disable_passes t.0 i.0 (subst (λ (x : ℕ). m.a < x) t.1 i.1) i.2 i.3 said.r_is
  passes (plain.Assigns k) t said =
      let i = said.in_list in
      assign_passes t.0 i.0 (subst (λ (x : ℕ). m.a < x) t.1 i.1) i.2 said.p_in said.r_is

-- A plain member leaves what there was to judge.
module _ (file : List ℕ) (st : State) (list : PlainList) (takes : Takes list st.context.fields (record_at file st.head)) where
  abbrev Plainly : ℕ → Type 0
  Plainly i = IsPlain list (record_at file i)

  plainly : (i : ℕ) → Plainly i → Passes (record_at file st.head) st.context.fields (record_at file i) (record_at file i).kind
  plainly i = passes (record_at file st.head) st.context.fields (record_at file i) (kind_of_lem file i) list takes

  at_plain : (i : ℕ) → st.head < i → i < length file / 32 → Plainly i → left_at file st i ≡ left_at file st (i + 1)
  at_plain i l inside t =
      let h = record_at file st.head in
      let m = record_at file i in
      let before = take (i - (st.head + 1)) (drop (st.head + 1) (records_of file)) in
      let p = plainly i t in
      at_member file st h before i refl refl m refl inside none (ap (λ (n : ℕ). refuse n (i + 1)) (sym (p.2 before))) l p.0 p.1

  -- So do d of them.
  plains : (d i : ℕ) → st.head < i → i + d ≤ length file / 32 → ((j : ℕ) → i ≤ j → j < i + d → Plainly j) → left_at file st i ≡ left_at file st (i + d)
  plains zero i l inside t = ap (left_at file st) (sym (add-zero i))
  plains (suc d) i l inside t =
      let e : i + 1 + d ≡ i + suc d = omega arith in
      at_plain i l (omega arith) (t i (omega arith) (omega arith)) ∙ plains d (i + 1) (omega arith) (omega arith) (λ j g k. t j (omega arith) (omega arith)) ∙ ap (left_at file st) e

  at_plains : (i k : ℕ) → st.head < i → i ≤ k → k ≤ length file / 32 → ((j : ℕ) → i ≤ j → j < k → Plainly j) → left_at file st i ≡ left_at file st k
  at_plains i k l g inside t =
      let e : i + (k - i) ≡ k = omega arith in
      plains (k - i) i l (omega arith) (λ j a b. t j a (omega arith)) ∙ ap (left_at file st) e

  -- Plain members from record i to before record k are passed.
  pub passed : (i k : ℕ) → st.head < i → (i ≤ k) × (k ≤ length file / 32) × ((j : ℕ) → i ≤ j → j < k → Plainly j)
      → ((i ≤ k) × (k ≤ length file / 32) × (left_at file st i ≡ left_at file st k)) × ((j : ℕ) → i ≤ j → j < k → is_member (record_at file j).kind ≡ true)
  passed i k l t = ((t.0, t.1, at_plains i k l t.0 t.1 t.2), λ j a b. (plainly j (t.2 j a b)).0)
