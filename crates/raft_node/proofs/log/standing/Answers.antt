use Rattle.std.proofs.Common.{arith}
use Rattle.raft_node.proofs.Standing.{ends_apart, ends_full, ends_short, stand_more, stand_step}
use Rattle.raft_node.proofs.log.standing.Goals as goal

pub loop-count-preserved : goal.loop-count-preserved
loop-count-preserved c = record {
  within = omega arith;
  fits = omega arith;
  counted = stand_step _ c.loop-count.count _ _ c.loop-count.invariant.counted
      (stand_more c.args.log.now c.args.entries.now c.args.prev c.loop-count.count _ _ (omega arith) (omega arith) c.if-log-prev.true);
}

pub returns-else-log-prev-clause-rest : goal.returns-else-log-prev-clause-rest
returns-else-log-prev-clause-rest c = (ends_apart c.args.log.now c.args.prev c.args.entries.now c.loop-count.count _ _ (omega arith) c.loop-count.invariant.counted (omega arith) (omega arith) c.if-log-prev.false).rest

pub returns-else-count-log-clause-rest : goal.returns-else-count-log-clause-rest
returns-else-count-log-clause-rest c = (ends_short c.args.log.now c.args.prev c.args.entries.now c.loop-count.count (omega arith) c.loop-count.invariant.counted (omega arith)).rest

pub returns-else-log-prev-clause-changes : goal.returns-else-log-prev-clause-changes
returns-else-log-prev-clause-changes c = (ends_apart c.args.log.now c.args.prev c.args.entries.now c.loop-count.count _ _ (omega arith) c.loop-count.invariant.counted (omega arith) (omega arith) c.if-log-prev.false).changes

pub returns-else-count-log-clause-changes : goal.returns-else-count-log-clause-changes
returns-else-count-log-clause-changes c = (ends_short c.args.log.now c.args.prev c.args.entries.now c.loop-count.count (omega arith) c.loop-count.invariant.counted (omega arith)).changes

pub returns-else-log-prev-clause-front : goal.returns-else-log-prev-clause-front
returns-else-log-prev-clause-front c = (ends_apart c.args.log.now c.args.prev c.args.entries.now c.loop-count.count _ _ (omega arith) c.loop-count.invariant.counted (omega arith) (omega arith) c.if-log-prev.false).front

pub returns-else-count-log-clause-front : goal.returns-else-count-log-clause-front
returns-else-count-log-clause-front c = (ends_short c.args.log.now c.args.prev c.args.entries.now c.loop-count.count (omega arith) c.loop-count.invariant.counted (omega arith)).front

pub returns-after-loop-count-clause-all : goal.returns-after-loop-count-clause-all
returns-after-loop-count-clause-all c = (ends_full c.args.log.now c.args.prev c.args.entries.now c.loop-count.count (omega arith) c.loop-count.invariant.counted (omega arith)).all
