use Rattle.std.proofs.Common.{◌≡◌, ◌≤◌, ◌-◌, ◌++◌, length, take, drop}
use Rattle.raft_model.specs.Limits.{batch, joining}
use Rattle.raft_node.proofs.batch.batch_length.Given as goal

abbrev pub invariant-loop-count : goal.invariant-loop-count
invariant-loop-count l = record {
  some : 1 ≤ l.count;
  few : l.count ≤ 64;
  within : l.count ≤ length l.entries;
  same : batch l.entries ≡ take l.count l.entries ++ joining (64 - l.count) l.total (drop l.count l.entries);
}

abbrev pub decreases-loop-count : goal.decreases-loop-count
decreases-loop-count l = length l.entries - l.count
