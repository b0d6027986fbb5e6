-- Every value that an engine handles on an accepted file is within ±2^56, and its lists have fewer than 2^64 values.
use mathlib.Core.Bool.{Bool, ◌&&◌, false, false≢true, true}
use mathlib.Core.List.{List, [], ◌++◌, ◌∷◌, foldl, map}
use mathlib.Core.Option.{none}
use mathlib.Core.Path.{◌∙◌, ◌≡◌, refl, sym}
use Prim.Native.Nat.{◌*◌, ◌<◌, ◌^◌, ◌≤◌, suc, zero, ℕ}
use native.Mathlib.Nat.{le_of_eq, le_refl, le_trans, mul-le-mul, mul-one, one-mul}
use native.Mathlib.Omega.{arith}
use lib.IntN.{negsuc, pos, ℤ}
use lib.ListN.{get_or, length, length-map, set}
use lib.Signed.{le_z}
use Rattle.lists.specs.Integers.{elem_z, eq_z}
use Rattle.lists.specs.Lists.{concat_map, map_from, product, sum_n}
use Rattle.lists.proofs.All.{All, All_append, All-filter, All_imp, All-mapped, []ᴬ, ◌∷ᴬ◌}
use Rattle.lists.proofs.Integers.{elem_z-all}
use Rattle.lists.proofs.Tests.{and_split, leb_yes, no_ge, yes_le}
use Rattle.spec.specs.Domain.{allows, domain, on_step, too_many, total}
use Rattle.spec.specs.Kind.{ConstraintKind, Kind, bitmask, constraint, cross, enable_mask, enable_set, eq, even, field, ge, gt, le, lt, member, neq, oneof, projector, range, unknown}
use Rattle.spec.specs.Record.{Group, Record, assignment_of, constraint_by, constraint_in, constraint_of, decoded, field_by, field_in, field_of, group, groups, records_of, spec_of}
use Rattle.spec.specs.Refusal.{Context, after, context, file_fault, on_scale}
use Rattle.spec.specs.Spec.{Assign, Check, ConstraintSpec, Cross, Enable, Eq, FieldAssignment, FieldSpec, Free, Listed, Neq, Ranged, by_mask, by_set}
use Rattle.spec.proofs.Accepted.{decoded-few, decoded-filled, file_good}
use Rattle.spec.proofs.Domain.{bounded, domain_has}
use Rattle.spec.proofs.Good.{Good, GoodBy, MembersGood, Whole}
use Rattle.spec.proofs.Named.{width}
use Rattle.spec.proofs.Shapes.{total-some}
use Rattle.spec.proofs.Uses.{not_off}
use Rattle.registry.specs.Check.{value_at}
use Rattle.registry.specs.Code.{RowIn}
use Rattle.compose.specs.Force.{enables, force, force_by, forcing_order, write, write_if}
use Rattle.compose.specs.Maps.{allowed}
use Rattle.compose.specs.Tuples.{Engine, exhaustive, lists_of, structural, values}
use Rattle.compose.specs.Walk.{Placed, length_at, plan_of}
use Rattle.compose.proofs.Allowed.{All_part, allowed_part}
use Rattle.compose.proofs.Emitted.{length-lists_of}
use Rattle.compose.proofs.Forcing.{length_forced}
use Rattle.compose.proofs.Planning.{heeds, lists-are}
use Rattle.compose.proofs.Rows.{length-values}

abbrev Scaled : ℤ → Type 0
Scaled v = on_scale v ≡ true

between : (p v q : ℤ) → le_z p v ≡ true → le_z v q ≡ true → Scaled p → Scaled q → Scaled v
between p (pos v) (pos q) a b h k = leb_yes v (2 ^ 56) (le_trans (yes_le v q b) (yes_le q (2 ^ 56) k))
between p (pos v) (negsuc q) a b h k = absurd (false≢true b)
between (pos p) (negsuc v) q a b h k = absurd (false≢true a)
between (negsuc p) (negsuc v) q a b h k = leb_yes (suc v) (2 ^ 56) (let l = yes_le v p a in let m = yes_le (suc p) (2 ^ 56) h in le_trans (let z : suc v ≤ suc p = omega arith in z) m)

-- ---- domains
abbrev FieldScaled : FieldSpec → Type 0
FieldScaled (Free step) = Unit {0}
FieldScaled (Ranged p q step) = Scaled p × Scaled q
FieldScaled (Listed values) = All Scaled values

range_scaled : (p q : ℤ) (step : ℕ) (l : List ℤ) → Scaled p → Scaled q → All (λ v. allows (Ranged p q step) v ≡ true) l → All Scaled l
range_scaled p q step l h k t = All_imp (λ v e. inside v e) t
  where
    inside : (v : ℤ) → allows (Ranged p q step) v ≡ true → Scaled v
    inside v e =
        let a = and_split (le_z p v && le_z v q) (on_step step v) e in
        let b = and_split (le_z p v) (le_z v q) a.0 in
        between p v q b.0 b.1 h k

bounded_all : (d : FieldSpec) → All (λ v. allows (bounded d) v ≡ true) (domain d)
bounded_all d = All_imp (λ v (e : elem_z v (domain d) ≡ true). sym (domain_has d v) ∙ e) (elem_z-all (domain d))

domain-scaled : (d : FieldSpec) → FieldScaled d → All Scaled (domain d)
domain-scaled (Free step) h = range_scaled (pos 0) (pos 255) step (domain (Free step)) refl refl (bounded_all (Free step))
domain-scaled (Ranged p q step) h = range_scaled p q step (domain (Ranged p q step)) h.0 h.1 (bounded_all (Ranged p q step))
domain-scaled (Listed values) h = h

allowed-scaled : (cs : List ConstraintSpec) (a : ℕ) {fs : List FieldSpec} → All FieldScaled fs → All (All Scaled) (map_from (allowed cs) a fs)
allowed-scaled cs a []ᴬ = []ᴬ
allowed-scaled cs a (◌∷ᴬ◌ {x = d} h t) = All_part (allowed_part cs a d) (domain-scaled d h) ∷ᴬ allowed-scaled cs (suc a) t

-- ---- rows
value_scaled : {l : List ℤ} → All Scaled l → (i : ℕ) → Scaled (get_or l i (pos 0))
value_scaled []ᴬ i = refl
value_scaled (h ∷ᴬ t) zero = h
value_scaled (h ∷ᴬ t) (suc i) = value_scaled t i

values-scaled : {ls : List (List ℤ)} → All (All Scaled) ls → (t : List ℕ) → All Scaled (values ls t)
values-scaled []ᴬ t = []ᴬ
values-scaled (h ∷ᴬ k) [] = []ᴬ
values-scaled (h ∷ᴬ k) (i ∷ t) = value_scaled h i ∷ᴬ values-scaled k t

-- ---- forcing
abbrev WriteScaled : FieldAssignment → Type 0
WriteScaled (Assign f v) = Scaled v

abbrev WritesScaled : ConstraintSpec → Type 0
WritesScaled (Check f t) = Unit {0}
WritesScaled (Eq a b) = Unit {0}
WritesScaled (Neq a b) = Unit {0}
WritesScaled (Cross parent child entries) = Unit {0}
WritesScaled (Enable e f trigger writes) = All WriteScaled writes

set-scaled : {row : List ℤ} (f : ℕ) (v : ℤ) → Scaled v → All Scaled row → All Scaled (set row f v)
set-scaled f v h []ᴬ = []ᴬ
set-scaled zero v h (k ∷ᴬ t) = h ∷ᴬ t
set-scaled (suc f) v h (k ∷ᴬ t) = k ∷ᴬ set-scaled f v h t

written_scaled : {writes : List FieldAssignment} → All WriteScaled writes → (row : List ℤ) → All Scaled row → All Scaled (foldl write row writes)
written_scaled []ᴬ row a = a
written_scaled (◌∷ᴬ◌ {x = Assign f v} h t) row a = written_scaled t (set row f v) (set-scaled f v h a)

by-scaled : (c : ConstraintSpec) → WritesScaled c → (row : List ℤ) → All Scaled row → All Scaled (force_by row c)
by-scaled (Check f t) h row a = a
by-scaled (Eq x y) h row a = a
by-scaled (Neq x y) h row a = a
by-scaled (Cross parent child entries) h row a = a
by-scaled (Enable e f trigger writes) h row a = go (eq_z (value_at row f) trigger)
  where
    go : (b : Bool) → All Scaled (write_if b writes row)
    go true = written_scaled h row a
    go false = a

forced_scaled : {cs : List ConstraintSpec} → All WritesScaled cs → (row : List ℤ) → All Scaled row → All Scaled (foldl force_by row cs)
forced_scaled []ᴬ row a = a
forced_scaled (◌∷ᴬ◌ {x = c} h t) row a = forced_scaled t (force_by row c) (by-scaled c h row a)

order-scaled : (engine : Engine) {cs : List ConstraintSpec} → All WritesScaled cs → All WritesScaled (forcing_order engine cs)
unfolding forcing_order
order-scaled structural h = h
order-scaled exhaustive h = All_append (All-filter (enables by_mask) h) (All-filter (enables by_set) h)

-- ---- a file without faults
members_scaled : (k : Kind) (n : ℕ) (h : Record) (before ms : List Record) → MembersGood k n h before ms → All (λ (m : Record). Scaled m.p) ms
members_scaled k n h before [] g = []ᴬ
members_scaled k n h before (m ∷ ms) g = (not_off m.kind m g.1.scaled).0 ∷ᴬ members_scaled k n h (before ++ (m ∷ [])) ms g.2

field_scaled : (form : ℕ) (h : Record) {ms : List Record} → Scaled h.p → Scaled h.q → All (λ (m : Record). Scaled m.p) ms → FieldScaled (field_by form h ms)
field_scaled zero h p q t = tt
field_scaled (suc zero) h p q t = (p, q)
field_scaled (suc (suc k)) h p q t = All-mapped (λ m. m.p) t

fields-scaled : (c : Context) (gs : List Group) → Good c gs → All FieldScaled (concat_map field_of gs)
fields-scaled c [] g = []ᴬ
fields-scaled c (group h ms ∷ gs) g = All_append (one h.kind g.0) (fields-scaled (after c (group h ms)) gs g.1)
  where
    one : (k : Kind) → GoodBy k c h ms → All FieldScaled (field_in k h ms)
    one field q = let s = not_off field h q.0.scaled in field_scaled h.b h s.0 s.1 (members_scaled field (suc c.fields) h [] ms q.1) ∷ᴬ []ᴬ
    one unknown q = []ᴬ
    one (constraint k) q = []ᴬ
    one (projector k) q = []ᴬ
    one (member k) q = []ᴬ

-- A write's value is the p of a member.
constraint-scaled : (k : ConstraintKind) (h : Record) {ms : List Record} → All (λ (m : Record). Scaled m.p) ms → WritesScaled (constraint_by k h ms)
constraint-scaled range h t = tt
constraint-scaled even h t = tt
constraint-scaled eq h t = tt
constraint-scaled neq h t = tt
constraint-scaled lt h t = tt
constraint-scaled gt h t = tt
constraint-scaled le h t = tt
constraint-scaled ge h t = tt
constraint-scaled oneof h t = tt
constraint-scaled cross h t = tt
constraint-scaled enable_mask h t = All-mapped assignment_of t
constraint-scaled bitmask h t = tt
constraint-scaled enable_set h t = All-mapped assignment_of t

constraints-scaled : (c : Context) (gs : List Group) → Good c gs → All WritesScaled (concat_map constraint_of gs)
constraints-scaled c [] g = []ᴬ
constraints-scaled c (group h ms ∷ gs) g = All_append (one h.kind g.0) (constraints-scaled (after c (group h ms)) gs g.1)
  where
    one : (k : Kind) → GoodBy k c h ms → All WritesScaled (constraint_in k h ms)
    one field q = []ᴬ
    one unknown q = []ᴬ
    one (constraint k) q = constraint-scaled k h (members_scaled (constraint k) c.fields h [] ms q.1) ∷ᴬ []ᴬ
    one (projector k) q = []ᴬ
    one (member k) q = []ᴬ

lists-scaled : (engine : Engine) (file : List ℕ) → Whole (records_of file) → All (All Scaled) (lists_of engine (decoded file))
unfolding decoded spec_of
lists-scaled engine file w = rw (lists-are engine (decoded file)) (allowed-scaled (heeds engine (decoded file)) 0 (fields-scaled (context 0 0 0) (groups (records_of file)) w.good))

writes_scaled : (file : List ℕ) → Whole (records_of file) → All WritesScaled (decoded file).constraints
unfolding decoded spec_of
writes_scaled file w = constraints-scaled (context 0 0 0) (groups (records_of file)) w.good

-- The row of a tuple, after forcing, has at most 32 values, each on scale.
pub rows_scaled : (engine : Engine) (file : List ℕ) → file_fault file ≡ none → (t : List ℕ) → Placed (width (decoded file)) (length_at (plan_of engine (decoded file))) t
    → RowIn (force engine (decoded file).constraints (values (lists_of engine (decoded file)) t))
unfolding force
rows_scaled engine file accepted t placed =
    let w = (file_good file accepted).whole in
    let row = values (lists_of engine (decoded file)) t in
    let a = length_forced (forcing_order engine (decoded file).constraints) row in
    let b = length-values (lists_of engine (decoded file)) t (placed.long ∙ sym (length-lists_of engine (decoded file))) in
    record {
      few = omega (arith, a, b, length-lists_of engine (decoded file), (decoded-few file w).0);
      scaled = forced_scaled (order-scaled engine (writes_scaled file w)) row (values-scaled (lists-scaled engine file w) t);
    }

-- ---- how many values there are
product_positive : {xs : List ℕ} → All (λ x. 0 < x) xs → 1 ≤ product xs
product_positive []ᴬ = le_refl 1
product_positive (◌∷ᴬ◌ {x = x} {xs = xs} h t) = le_trans (le_of_eq (sym (mul-one 1))) (mul-le-mul (let l : 1 ≤ x = omega arith in l) (product_positive t))

-- No factor is above the product of positive numbers.
factors_le : {xs : List ℕ} → All (λ x. 0 < x) xs → All (λ x. x ≤ product xs) xs
factors_le []ᴬ = []ᴬ
factors_le (◌∷ᴬ◌ {x = x} {xs = xs} h t) =
    le_trans (le_of_eq (sym (mul-one x))) (mul-le-mul (le_refl x) (product_positive t))
    ∷ᴬ All_imp (λ y (l : y ≤ product xs). le_trans l (le_trans (le_of_eq (sym (one-mul (product xs)))) (mul-le-mul (let p : 1 ≤ x = omega arith in p) (le_refl (product xs))))) (factors_le t)

sum_le : {xs : List ℕ} → All (λ x. x ≤ 1000000000) xs → sum_n xs ≤ length xs * 1000000000
sum_le []ᴬ = omega arith
sum_le (◌∷ᴬ◌ {x = x} {xs = xs} h t) = omega (arith, h, sum_le t)

sum_some : (xs : List ℕ) → All (λ x. 0 < x) xs → length xs ≤ 32 → (¬ (length xs ≡ 0) → product xs ≤ 1000000000) → sum_n xs < 2 ^ 64
sum_some [] positive few within = omega arith
sum_some (x ∷ xs) positive few within =
    let p = within (λ z. omega arith) in
    let s = sum_le (All_imp (λ y (l : y ≤ product (x ∷ xs)). le_trans l p) (factors_le positive)) in
    omega arith

-- The domains of an accepted file have fewer than 2^64 values together.
pub sum_lengths : (file : List ℕ) → file_fault file ≡ none → sum_n (map (λ d. length (domain d)) (decoded file).fields) < 2 ^ 64
unfolding too_many
sum_lengths file accepted =
    let g = file_good file accepted in
    let fs = (decoded file).fields in
    let many = length-map fs (λ d. length (domain d)) in
    sum_some (map (λ d. length (domain d)) fs) (All-mapped (λ d. length (domain d)) (decoded-filled file g.whole)) (omega (arith, many, (decoded-few file g.whole).0))
    (λ n. let t = total-some (decoded file) (λ z. n (many ∙ z)) in let l = no_ge 1000000000 (total (decoded file)) g.sized in omega (arith, t, l))
