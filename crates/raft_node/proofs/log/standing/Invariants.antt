use Rattle.std.proofs.Common.{length, ◌-◌, ◌≡◌, ◌+◌, ◌≤◌, drop}
use Rattle.raft_node.proofs.Standing.{stand}
use Rattle.raft_node.proofs.log.standing.Given as goal

abbrev pub invariant-loop-count : goal.invariant-loop-count
invariant-loop-count l = record {
  within : l.count ≤ length l.entries;
  fits : l.prev + l.count ≤ length l.log;
  counted : stand (drop l.prev l.log) l.entries ≡ l.count + stand (drop (l.prev + l.count) l.log) (drop l.count l.entries);
}

abbrev pub decreases-loop-count : goal.decreases-loop-count
decreases-loop-count l = length l.entries - l.count
