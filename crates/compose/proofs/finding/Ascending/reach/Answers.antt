-- `compose::finding::Ascending::reach` meets its contract.
use Rattle.std.proofs.Common.{rules}
use lib.Signed.{lt_z}
use lib.IntN.{ℤ}
use Rattle.std.proofs.lemmas.List.Sorted.{IsPartitionPoint-from_clause}
use Rattle.compose.proofs.Ascending.{parted, point_is}
use Rattle.compose.proofs.finding.Ascending.reach.Goals as goal

pub returns : goal.returns
returns c =
    let l = c.args.self.list.now in
    let w = c.args.w.0 in
    let from = c.args.from.0 in
    point_is l w from c.requires c.partition_point.result c.partition_point.ensures.bound
    (IsPartitionPoint-from_clause (λ (y : ℤ). lt_z y w) _ _ c.partition_point.ensures.partitioned (parted l w from c.requires c.args.self.ascends) (λ a r q k. search rules))
