use Rattle.std.proofs.Common.{◌≡◌, ◌+◌, ◌-◌, ◌^◌, ◌<◌, min, drop}
use Rattle.raft_model.specs.Limits.{log_bytes}
use Rattle.raft_node.specs.Counts.{bytes_of}
use Rattle.raft_node.proofs.counted.log_bytes.Given as goal

abbrev pub invariant-loop-entry : goal.invariant-loop-entry
invariant-loop-entry l = record {
  counted : bytes_of l.entries ≡ min (l.total + log_bytes (drop l.entry-index l.entries)) (2 ^ 64 - 1);
  fits : l.total < 2 ^ 64;
}
