use Rattle.std.proofs.Common.{◌∙◌, arith}
use Rattle.cluster_rules.specs.Cluster.{server_of}
use Rattle.cluster_replicas.proofs.Placed.{entry_past, entry_within}
use Rattle.cluster_replicas.proofs.servers.Servers.applied_entry.Goals as goal

pub returns-then-position-applied : goal.returns-then-position-applied
returns-then-position-applied g c = entry_past c.args.position (server_of c.args.self.now.servers c.args.s).applied (omega (arith, c.applied.ensures, c.if-position-applied.true))

pub returns : goal.returns
returns g c =
    c.entry.ensures ∙ entry_within c.self.inside.world c.self.inside.replicas.items c.args.self.now c.self.view_is c.self.invariant c.args.s c.requires c.node.result.now c.node.ensures c.args.position (omega (arith, c.applied.ensures, c.if-position-applied.false))
