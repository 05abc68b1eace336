use Rattle.std.proofs.Common.{◌≡◌, ◌+◌, take}
use Rattle.raft_model.specs.Limits.{entries_bytes}
use Rattle.raft_world.specs.Weights.{capped}
use Rattle.raft_world.proofs.weight.add_entries.Given as goal

abbrev pub invariant-loop-entry : goal.invariant-loop-entry
invariant-loop-entry l = l.total ≡ capped (l.fn.total + entries_bytes (take l.entry-index l.entries))
