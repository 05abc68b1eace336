use Rattle.std.proofs.Common.{refl}
use Rattle.cluster_requests.proofs.Counting.{none_counted, none_left}
use Rattle.cluster_requests.proofs.counts.count_none.Goals as goal

pub returns-then-at-counts : goal.returns-then-at-counts
returns-then-at-counts c = none_left c.args.counts.now _ c.args.server c.if-at-counts.true refl

pub returns-else-at-counts : goal.returns-else-at-counts
returns-else-at-counts c = none_counted c.args.counts.now c.args.counts.now c.args.server c.if-at-counts.false
