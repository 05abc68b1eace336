use Rattle.std.proofs.Common.{arith, length}
use Rattle.raft_node.proofs.Commits.{found, low, passed}
use Rattle.raft_node.proofs.quorum.committed.Goals as goal

pub returns-then-is_matched : goal.returns-then-is_matched
returns-then-is_matched c =
    found c.args.id c.args.servers c.args.term c.args.commit c.args.entries.now c.args.matched.now c.loop-index.index (length c.args.entries.now) c.is_matched.result
    c.is_matched.ensures c.if-is_matched.true (omega arith) c.loop-index.invariant.same

pub loop-index-preserved : goal.loop-index-preserved
loop-index-preserved c = record {
  within = omega arith;
  same = passed c.args.id c.args.servers c.args.term c.args.commit c.args.entries.now c.args.matched.now c.loop-index.index (length c.args.entries.now) c.is_matched.result
      c.is_matched.ensures c.if-is_matched.false (omega arith) c.loop-index.invariant.same;
}

pub returns : goal.returns
returns c = low c.args.id c.args.servers c.args.term c.args.commit c.args.entries.now c.args.matched.now c.loop-index.index (length c.args.entries.now) (omega arith) c.loop-index.invariant.same
