use Rattle.std.proofs.Common.{ap, length, refl, ◌∙◌, arith}
use Rattle.raft_world.proofs.Calling.{by_same}
use Rattle.cluster_replicas.specs.Servers.{Servers}
use Rattle.cluster_replicas.proofs.Following.{same_length}
use Rattle.cluster_replicas.proofs.Stepping.{restarts_it}
use Rattle.cluster_replicas.proofs.servers.Servers.restart.Goals as goal

pub returns-in_err-anew-clause-agreement : goal.returns-in_err-anew-clause-agreement
returns-in_err-anew-clause-agreement g c = by_same c.args.self.now.world c.args.self.now.world refl

pub index_mut-requires : goal.index_mut-requires
index_mut-requires g c =
    let e = same_length c.self.inside.world.nodes c.self.inside.replicas.items c.self.invariant in
    omega (arith, e, c.place-at.ensures, c.requires.0, c.requires.1, ap (λ (v : Servers). length v.world.nodes) c.self.view_is)

pub invariant_of-self : goal.invariant_of-self
invariant_of-self g c =
    (restarts_it c.self.inside.world c.self.inside.replicas.items c.args.self.now c.self.view_is c.self.invariant c.place-at.result c.args.s c.place-at.ensures c.replace.new.dest (c.replace.ensures.after ∙ c.in_ok-anew.ensures) c.restart.new.self c.in-Ok.ensures.ok).0

pub returns-in-Ok-clause-begins : goal.returns-in-Ok-clause-begins
returns-in-Ok-clause-begins g c =
    (restarts_it c.self.inside.world c.self.inside.replicas.items c.args.self.now c.self.view_is c.self.invariant c.place-at.result c.args.s c.place-at.ensures c.replace.new.dest (c.replace.ensures.after ∙ c.in_ok-anew.ensures) c.restart.new.self c.in-Ok.ensures.ok).1
