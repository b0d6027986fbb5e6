-- `compose::finding::is_ascending` meets its contract.
use Rattle.std.proofs.Common.{rules, Some}
use Rattle.std.specs.Ordering.{partial_le, int_cmp}
use Rattle.compose.proofs.Ascending.{ascending_is}
use Rattle.compose.proofs.finding.is_ascending.Goals as goal

pub returns : goal.returns
returns c = ascending_is (λ x y. partial_le (λ a b. Some (int_cmp a b)) x y) (λ x y. search rules) c.args.list.now c.is_sorted.result c.is_sorted.ensures.by_index
