-- A file's records are its leading members, then its groups laid end to end.
use mathlib.Core.Bool.{Bool, false, true}
use mathlib.Core.List.{List, [], ◌++◌, ◌∷◌}
use mathlib.Core.Path.{◌∙◌, ◌≡◌, ap, ap₂, refl}
use Rattle.lists.specs.Lists.{concat_map}
use Rattle.lists.proofs.All.{All, []ᴬ, ◌∷ᴬ◌}
use Rattle.spec.specs.Kind.{is_member}
use Rattle.spec.specs.Record.{Group, Record, group, groups, member_run, unless_member, while_member}

abbrev pub records_in : Group → List Record
records_in (group h ms) = h ∷ ms

abbrev pub flat : List Group → List Record
flat gs = concat_map records_in gs

-- A head that is no member, and members.
abbrev pub Proper : Group → Type 0
Proper (group h ms) = (is_member h.kind ≡ false) × All (λ m. is_member m.kind ≡ true) ms

pub member_run_members : (rs : List Record) → All (λ m. is_member m.kind ≡ true) (member_run rs)
member_run_members [] = []ᴬ
member_run_members (m ∷ ms) = go (is_member m.kind) refl (member_run_members ms)
  where
    go : (b : Bool) → is_member m.kind ≡ b → All (λ n. is_member n.kind ≡ true) (member_run ms) → All (λ n. is_member n.kind ≡ true) (while_member b m (member_run ms))
    go true e t = e ∷ᴬ t
    go false e t = []ᴬ

pub groups_proper : (rs : List Record) → All Proper (groups rs)
groups_proper [] = []ᴬ
groups_proper (h ∷ hs) = go (is_member h.kind) refl (groups_proper hs)
  where
    go : (b : Bool) → is_member h.kind ≡ b → All Proper (groups hs) → All Proper (unless_member b h (member_run hs) (groups hs))
    go true e t = t
    go false e t = ◌∷ᴬ◌ {x = group h (member_run hs)} (e, member_run_members hs) t

pub records_flat : (rs : List Record) → rs ≡ member_run rs ++ flat (groups rs)
records_flat [] = refl
records_flat (h ∷ hs) = go (is_member h.kind) (records_flat hs)
  where
    go : (b : Bool) → hs ≡ member_run hs ++ flat (groups hs) → h ∷ hs ≡ while_member b h (member_run hs) ++ flat (unless_member b h (member_run hs) (groups hs))
    go true e = ap (λ l. h ∷ l) e
    go false e = ap (λ l. h ∷ l) e

member_run_append : (rs : List Record) → member_run rs ≡ [] → {ms : List Record} → All (λ m. is_member m.kind ≡ true) ms → member_run (ms ++ rs) ≡ ms
member_run_append rs e []ᴬ = e
member_run_append rs e (◌∷ᴬ◌ {x = m} {xs = ms} h t) = ap (λ b. while_member b m (member_run (ms ++ rs))) h ∙ ap (λ l. m ∷ l) (member_run_append rs e t)

groups_append : (rs : List Record) {ms : List Record} → All (λ m. is_member m.kind ≡ true) ms → groups (ms ++ rs) ≡ groups rs
groups_append rs []ᴬ = refl
groups_append rs (◌∷ᴬ◌ {x = m} {xs = ms} h t) = ap (λ b. unless_member b m (member_run (ms ++ rs)) (groups (ms ++ rs))) h ∙ groups_append rs t

member_run_flat : {gs : List Group} → All Proper gs → member_run (flat gs) ≡ []
member_run_flat []ᴬ = refl
member_run_flat (◌∷ᴬ◌ {x = group h ms} {xs = gs} p t) = ap (λ b. while_member b h (member_run (ms ++ flat gs))) p.0

-- Groups laid end to end are cut into the same groups.
pub groups_flat : {gs : List Group} → All Proper gs → (member_run (flat gs) ≡ []) × (groups (flat gs) ≡ gs)
groups_flat gs = (member_run_flat gs, cuts gs)
  where
    cuts : {gs : List Group} → All Proper gs → groups (flat gs) ≡ gs
    cuts []ᴬ = refl
    cuts (◌∷ᴬ◌ {x = group h ms} {xs = gs} p t) =
        ap (λ b. unless_member b h (member_run (ms ++ flat gs)) (groups (ms ++ flat gs))) p.0
        ∙ ap₂ (λ (l : List Record) (k : List Group). group h l ∷ k) (member_run_append (flat gs) (member_run_flat t) p.1) (groups_append (flat gs) p.1 ∙ cuts t)
