-- `compose::groups::Groups::first_rules` meets its contract: fewer of the heads lie in the file as well.
use lib.Seq.{get_or-take}
use Rattle.std.proofs.Common.{◌∙◌, ◌+◌, ◌-◌, ◌<◌, ◌≡◌, ◌≤◌, List, ℕ, arith, drop, length-take, get_or, subst₂, subst, suc, sym, take}
use Rattle.registry.specs.Code.{HeadIn}
use Rattle.compose.specs.Code.{HeadsIn}
use Rattle.compose.proofs.groups.Groups.first_rules.Goals as goal

fewer : (file heads : List ℕ) (n a b : ℕ) → a ≤ b → HeadsIn file (take b heads) n → HeadsIn file (take a heads) n
fewer file heads n a b h inside k l =
    let x = length-take a heads in
    let y = length-take b heads in
    let s : suc k < a = omega arith in
    let at : (j : ℕ) → j < a → get_or (take b heads) j 0 ≡ get_or (take a heads) j 0 = λ j (i : j < a). get_or-take b heads j 0 (omega arith) ∙ sym (get_or-take a heads j 0 i) in
    subst₂ (λ (x y : ℕ). HeadIn file x y n) (at k (omega arith)) (at (suc k) s) (inside k (omega arith))

pub invariant_of-result : goal.invariant_of-result
invariant_of-result c =
    let s = c.args.self in
    let e : s.fields + 1 + c.args.count - s.fields ≡ suc c.args.count = omega arith in
    record { inside = subst (λ (k : ℕ). HeadsIn s.file.now (take k (drop s.fields s.heads.now)) s.fields) (sym e) (fewer s.file.now (drop s.fields s.heads.now) s.fields (suc c.args.count) (suc s.constraints) (omega arith) s.opened.heads_in) }
