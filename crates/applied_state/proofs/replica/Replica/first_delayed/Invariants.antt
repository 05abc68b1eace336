use Rattle.std.proofs.Common.{◌≡◌, drop}
use Rattle.cluster_rules.specs.Locks.{first_delayed}
use Rattle.cluster_rules.specs.Offices.{delay_over}
use Rattle.applied_state.proofs.replica.Replica.first_delayed.Given as goal

abbrev pub invariant-ops : goal.invariant-ops
invariant-ops l = first_delayed (delay_over l.self.commands l.self.clocks) l.now (drop l.op-index l.ops) ≡ first_delayed (delay_over l.self.commands l.self.clocks) l.now l.ops
