use Rattle.std.proofs.Common.{ap, length, sym, arith}
use Rattle.cluster_replicas.specs.Servers.{Servers}
use Rattle.cluster_rules.specs.Cluster.{Server, node_of, server_of}
use Rattle.cluster_replicas.proofs.Following.{same_length}
use Rattle.cluster_replicas.proofs.Seeing.{applied_are, at_place}
use Rattle.cluster_replicas.proofs.servers.Servers.replica.Goals as goal

pub index-requires : goal.index-requires
index-requires g c =
    let e = same_length c.self.inside.world.nodes c.self.inside.replicas.items c.self.invariant in
    omega (arith, e, c.place.ensures, c.requires.0, c.requires.1, ap (λ (v : Servers). length v.world.nodes) c.self.view_is)

pub returns : goal.returns
returns g c =
    let r = c.index.result.now in let v = c.args.self.now in let s = c.args.s in
    let at = at_place c.self.inside.world c.self.inside.replicas.items v c.self.view_is c.self.invariant c.place.result s c.place.ensures c.requires r (sym c.index.ensures) in
    let are = applied_are (node_of v.world s) r (server_of v.servers s) at.0 at.1 in
    record { commands = sym are.1; clocks = sym are.2; count = sym are.0; office = sym (ap (λ (z : Server). z.office) at.1) }
