use Rattle.std.proofs.Common.{rules, arith}
use Rattle.std.proofs.lemmas.List.Sorted.{IsPartitionPoint-from_clause}
use Rattle.cluster_requests.proofs.Ordering.{parted_outs, point_is, stands_first}
use Rattle.cluster_requests.proofs.outs.place.Goals as goal

pub returns-clause-place : goal.returns-clause-place
returns-clause-place c =
    let os = c.args.fresh.now in
    let at = c.partition_point.result in
    let part = IsPartitionPoint-from_clause (stands_first c.args.number) os at c.partition_point.ensures.partitioned (parted_outs c.args.number os c.requires) (λ a r f called. search rules) in
    point_is c.args.number os at c.partition_point.ensures.bound (λ i d below within. part.0 i d (omega arith) below) (λ i d from within. part.1 i d from within)
