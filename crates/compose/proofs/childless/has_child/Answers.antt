-- `compose::childless::has_child` meets its contract.
use Rattle.std.proofs.Common.{◌∙◌, ◌≡◌, ◌||◌, ◌+◌, ◌<◌, ap, sym, arith, rules, Bool, ℕ}
use Rattle.compose.specs.Known.{values_of}
use Rattle.compose.proofs.Paired.{among, among_end, among_other, among_pair}
use Rattle.compose.proofs.childless.has_child.Goals.{In-Some}
use Rattle.compose.proofs.childless.has_child.Goals as goal

pub loop-k-init : goal.loop-k-init
loop-k-init g c = search rules

-- the place of a turn is the first that was left
here : (g : _) (c : In-Some g) → (c.in-Some.k < c.args.span.end) × (c.loop-k.k-iterator.start ≡ c.in-Some.k) × (c.in-Some.k + 1 ≡ c.next.new.self.start) × (c.next.new.self.end ≡ c.args.span.end)
here g c =
    let s = c.in-Some.ensures.steps in
    let e = c.loop-k.invariant.0 in
    (omega (arith, s.0, s.1.0, s.1.1, e), omega (arith, s.1.1), omega (arith, s.1.1, s.1.2), s.0 ∙ e)

pub child_at-requires : goal.child_at-requires
child_at-requires g c = omega (arith, (here g (goal.at.child_at-requires g c).In-Some).0)

pub returns-then-has : goal.returns-then-has
returns-then-has g c =
    let f = g.M.Members.member c.args.members in
    let k = c.in-Some.k in
    let high = c.args.span.end in
    let list = values_of c.args.children in
    let v = c.args.v.0 in
    let h = here g (goal.at.returns-then-has g c).In-Some in
    sym (sym c.loop-k.invariant.1 ∙ ap (λ (j : ℕ). among f v list j high) h.1 ∙ among_pair f v list k high h.0 c.in-Some-child_at.w.0 c.in-Some-child_at.ensures ∙ ap (λ (b : Bool). b || among f v list (k + 1) high) (sym c.has.ensures ∙ c.if-has.true))

pub loop-k-preserved-else-has : goal.loop-k-preserved-else-has
loop-k-preserved-else-has g c =
    let f = g.M.Members.member c.args.members in
    let k = c.in-Some.k in
    let high = c.args.span.end in
    let list = values_of c.args.children in
    let v = c.args.v.0 in
    let h = here g (goal.at.loop-k-preserved-else-has g c).In-Some in
    (h.3, sym (ap (λ (j : ℕ). among f v list j high) h.1 ∙ among_pair f v list k high h.0 c.in-Some-child_at.w.0 c.in-Some-child_at.ensures ∙ ap (λ (b : Bool). b || among f v list (k + 1) high) (sym c.has.ensures ∙ c.if-has.false) ∙ ap (λ (j : ℕ). among f v list j high) h.2) ∙ c.loop-k.invariant.1)

pub loop-k-preserved : goal.loop-k-preserved
loop-k-preserved g c =
    let f = g.M.Members.member c.args.members in
    let high = c.args.span.end in
    let list = values_of c.args.children in
    let v = c.args.v.0 in
    let h = here g (goal.at.loop-k-preserved g c).In-Some in
    (h.3, sym (ap (λ (j : ℕ). among f v list j high) h.1 ∙ among_other f v list c.in-Some.k high h.0 c.in_default.ensures ∙ ap (λ (j : ℕ). among f v list j high) h.2) ∙ c.loop-k.invariant.1)

pub returns : goal.returns
returns g c =
    let s = c.in-None.ensures.steps in
    sym (sym c.loop-k.invariant.1 ∙ among_end (g.M.Members.member c.args.members) c.args.v.0 (values_of c.args.children) c.loop-k.k-iterator.start c.args.span.end (omega (arith, s, c.loop-k.invariant.0)))
