use Rattle.std.proofs.Common.{arith}
use Rattle.cluster_requests.proofs.Counting.{counted_here, joins_at, joins_nowhere}
use Rattle.cluster_requests.proofs.counts.count_in.Goals as goal

pub add_one-requires : goal.add_one-requires
add_one-requires c = λ l.
    let room = c.requires c.in-Some.server l in
    let one = counted_here c.args.slot.now c.in-Some.server c.in-Some.ensures.some in
    omega (arith, room, one)

pub returns-in-Some : goal.returns-in-Some
returns-in-Some c = joins_at c.args.slot.now c.in-Some.server c.in-Some.ensures.some c.args.counts.now c.add_one.new.counts c.add_one.ensures.len c.add_one.ensures.there c.add_one.ensures.others

pub returns-in_default : goal.returns-in_default
returns-in_default c = joins_nowhere c.args.slot.now c.args.counts.now c.in_default.ensures.none
