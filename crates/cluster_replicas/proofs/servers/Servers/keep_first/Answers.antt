use Rattle.std.proofs.Common.{ap, length, sym, take, ◌∙◌, arith}
use Rattle.cluster_rules.specs.Offices.{ended_too}
use Rattle.cluster_replicas.specs.Servers.{Servers}
use Rattle.cluster_replicas.proofs.Following.{same_length}
use Rattle.cluster_replicas.proofs.Leading.{office_is, office_it}
use Rattle.cluster_replicas.proofs.servers.Servers.keep_first.Goals as goal

pub index_mut-leader-requires : goal.index_mut-leader-requires
index_mut-leader-requires g c =
    let e = same_length c.self.inside.world.nodes c.self.inside.replicas.items c.self.invariant in
    omega (arith, e, c.place-at.ensures, c.requires.server.0, c.requires.server.1, ap (λ (v : Servers). length v.world.nodes) c.self.view_is)

pub keep_first-requires : goal.keep_first-requires
keep_first-requires g c =
    let mine = office_is c.self.inside.world c.self.inside.replicas.items c.args.self.now c.self.view_is c.self.invariant c.place-at.result c.args.s c.place-at.ensures c.requires.server c.index_mut-leader.result.now (sym c.index_mut-leader.ensures.value) in
    let e = c.requires.ended in
    record { ended = (e.0, e.1, e.2, mine ∙ e.3); within = c.requires.within }

pub invariant_of-self : goal.invariant_of-self
invariant_of-self g c =
    let mine = office_is c.self.inside.world c.self.inside.replicas.items c.args.self.now c.self.view_is c.self.invariant c.place-at.result c.args.s c.place-at.ensures c.requires.server c.index_mut-leader.result.now (sym c.index_mut-leader.ensures.value) in
    let e = c.requires.ended in
    (office_it c.self.inside.world c.self.inside.replicas.items c.args.self.now c.self.view_is c.self.invariant c.place-at.result c.args.s c.place-at.ensures c.requires.server c.index_mut-leader.result.now (sym c.index_mut-leader.ensures.value)
    (ended_too (take c.args.kept e.0) e.1) c.keep_first.new.self (c.keep_first.ensures e.0 e.1 e.2 (mine ∙ e.3))).0

pub returns : goal.returns
returns g c rows o e is =
    let mine = office_is c.self.inside.world c.self.inside.replicas.items c.args.self.now c.self.view_is c.self.invariant c.place-at.result c.args.s c.place-at.ensures c.requires.server c.index_mut-leader.result.now (sym c.index_mut-leader.ensures.value) in
    (office_it c.self.inside.world c.self.inside.replicas.items c.args.self.now c.self.view_is c.self.invariant c.place-at.result c.args.s c.place-at.ensures c.requires.server c.index_mut-leader.result.now (sym c.index_mut-leader.ensures.value)
    (ended_too (take c.args.kept rows) o) c.keep_first.new.self (c.keep_first.ensures rows o e (mine ∙ is))).1
