use Rattle.std.proofs.Common.{rules, arith}
use Rattle.std.proofs.lemmas.List.Sorted.{IsPartitionPoint-from_clause}
use Rattle.std.specs.Ordering.{is_lt}
use Rattle.node_rows.proofs.Places.{parted, point_is}
use Rattle.node_rows.proofs.order.place_of.Goals as goal

pub returns-clause-rank : goal.returns-clause-rank
returns-clause-rank g c =
    let rows = c.args.rows.now in
    let at = c.partition_point.result in
    let part = IsPartitionPoint-from_clause (λ r. is_lt (g.R.Row.cmp (g.R.Row.key r) (g.R.Row.key c.args.new.now))) rows at c.partition_point.ensures.partitioned (parted g.R.Row.cmp g.R.Row.key g.met.R.Row.total (g.R.Row.key c.args.new.now) rows c.requires) (λ a r f called. search rules) in
    point_is (λ r. is_lt (g.R.Row.cmp (g.R.Row.key r) (g.R.Row.key c.args.new.now))) rows at c.partition_point.ensures.bound (λ i d below within. part.0 i d (omega arith) below) (λ i d from within. part.1 i d from within)
