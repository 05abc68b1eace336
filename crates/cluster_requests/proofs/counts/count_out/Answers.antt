use Rattle.std.proofs.Common.{sym, arith}
use Rattle.cluster_requests.proofs.Counting.{counted_here, joins_at, joins_nowhere}
use Rattle.cluster_requests.proofs.counts.count_out.Goals as goal

pub take_one-requires : goal.take_one-requires
take_one-requires c = λ l.
    let there = c.requires c.in-Some.server l in
    let one = counted_here c.args.slot.now c.in-Some.server c.in-Some.ensures.some in
    omega (arith, there, one)

pub returns-in-Some : goal.returns-in-Some
returns-in-Some c =
    joins_at c.args.slot.now c.in-Some.server c.in-Some.ensures.some c.take_one.new.counts c.args.counts.now (sym c.take_one.ensures.len) (λ l. sym (c.take_one.ensures.there (omega (arith, l, c.take_one.ensures.len)))) (λ i d. sym (c.take_one.ensures.others i d))

pub returns-in_default : goal.returns-in_default
returns-in_default c = joins_nowhere c.args.slot.now c.args.counts.now c.in_default.ensures.none
