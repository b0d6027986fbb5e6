-- `registry::check::Head::indexed` meets its contract: what the index says of a head that is marked.
use Rattle.std.proofs.Common.{◌∙◌, ◌-◌, sym, subst, ℕ, take, drop}
use native.Mathlib.Numerals.{add-one}
use Rattle.lists.proofs.Tests.{yes_eq}
use Rattle.registry.specs.Index.{Indexed, IndexedAt}
use Rattle.registry.proofs.check.Head.indexed.Goals.{Else-not-is_indexed}
use Rattle.registry.proofs.check.Head.indexed.Goals as goal

at_head : (c : Else-not-is_indexed) → IndexedAt c.args.self.file.now c.args.self.index.now c.args.self.at c.args.self.end
at_head c = c.args.self.indexed c.args.self.at c.args.self.end (yes_eq _ _ (sym c.is_indexed.ensures ∙ c.if-not-is_indexed.false))

pub slice_bounds-result-end : goal.slice_bounds-result-end
slice_bounds-result-end c = (at_head (goal.at.slice_bounds-result-end c).Else-not-is_indexed).long

pub invariant_of-result : goal.invariant_of-result
invariant_of-result c =
    record { indexed = subst (λ (k : ℕ). Indexed c.run.result.now (take (c.args.self.end - k) (drop k c.args.self.index.now))) (sym (add-one c.args.self.at)) ((at_head (goal.at.invariant_of-result c).Else-not-is_indexed).indexed _ (c.run.ensures)) }
