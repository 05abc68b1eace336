use Rattle.std.proofs.Common.{ap, length, sym, ◌∙◌, arith}
use Rattle.std.specs.Option.{option_map}
use Rattle.cluster_replicas.specs.Servers.{Servers}
use Rattle.cluster_replicas.proofs.Following.{same_length}
use Rattle.cluster_replicas.proofs.Applying.{applies_it}
use Rattle.cluster_replicas.proofs.Sparing.{spares_it}
use Rattle.cluster_replicas.proofs.servers.Servers.apply.Goals as goal

pub index_mut-replica-requires : goal.index_mut-replica-requires
index_mut-replica-requires g c =
    let e = same_length c.self.inside.world.nodes c.self.inside.replicas.items c.self.invariant in
    omega (arith, e, c.place-at.ensures, c.requires.server.0, c.requires.server.1, ap (λ (v : Servers). length v.world.nodes) c.self.view_is)

pub invariant_of-self-2 : goal.invariant_of-self-2
invariant_of-self-2 g c =
    let entry = ap (option_map (λ entry. entry.now)) (sym c.in-Some.is) ∙ c.entry.ensures in
    let made = applies_it c.self.inside.world c.self.inside.replicas.items c.args.self.now c.self.view_is c.self.invariant c.place-at.result c.args.s c.place-at.ensures c.requires.server c.index_mut-replica.result.now (sym c.index_mut-replica.ensures.value)
    c.node.result.now c.node.ensures c.length-applied.result c.length-applied.ensures.commands c.in-Some.entry.now (sym entry) c.requires.next c.clock-clock.result c.clock-clock.ensures c.apply.new.self c.in_ok-fired.ensures.ok in
    made.0

pub returns-clause-ok : goal.returns-clause-ok
returns-clause-ok g c =
    let entry = ap (option_map (λ entry. entry.now)) (sym c.in-Some.is) ∙ c.entry.ensures in
    let made = applies_it c.self.inside.world c.self.inside.replicas.items c.args.self.now c.self.view_is c.self.invariant c.place-at.result c.args.s c.place-at.ensures c.requires.server c.index_mut-replica.result.now (sym c.index_mut-replica.ensures.value)
    c.node.result.now c.node.ensures c.length-applied.result c.length-applied.ensures.commands c.in-Some.entry.now (sym entry) c.requires.next c.clock-clock.result c.clock-clock.ensures c.apply.new.self c.in_ok-fired.ensures.ok in
    made.1

pub returns-clause-spares : goal.returns-clause-spares
returns-clause-spares g c =
    spares_it c.self.inside.world c.self.inside.replicas.items c.args.self.now c.self.view_is c.self.invariant c.place-at.result c.args.s c.place-at.ensures c.requires.server c.index_mut-replica.result.now (sym c.index_mut-replica.ensures.value)
    _ c.clock-clock.result c.apply.new.self c.in_ok-fired.ensures.ok (invariant_of-self-2 g c) _ c.in_ok-fired.ensures.spares
