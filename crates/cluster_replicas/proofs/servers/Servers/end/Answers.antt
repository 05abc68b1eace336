use Rattle.std.proofs.Common.{ap, length, map, sym, arith}
use Rattle.session_ttl.proofs.TimesOver.{ends_are, row_of}
use Rattle.cluster_replicas.specs.Servers.{Servers}
use Rattle.cluster_replicas.proofs.Following.{same_length}
use Rattle.cluster_replicas.proofs.Leading.{end_it}
use Rattle.cluster_replicas.proofs.servers.Servers.end.Goals as goal

pub index_mut-leader-requires : goal.index_mut-leader-requires
index_mut-leader-requires g c =
    let e = same_length c.self.inside.world.nodes c.self.inside.replicas.items c.self.invariant in
    omega (arith, e, c.place-at.ensures, c.requires.0, c.requires.1, ap (λ (v : Servers). length v.world.nodes) c.self.view_is)

pub invariant_of-self-2 : goal.invariant_of-self-2
invariant_of-self-2 g c =
    let rows = map row_of c.args.endings.now in
    (end_it c.self.inside.world c.self.inside.replicas.items c.args.self.now c.self.view_is c.self.invariant c.place-at.result c.args.s c.place-at.ensures c.requires c.index_mut-leader.result.now (sym c.index_mut-leader.ensures.value)
    rows c.end.new.self (c.in_ok-end.ensures.ok rows (ends_are c.args.endings.now))).0

pub returns-clause-ok : goal.returns-clause-ok
returns-clause-ok g c rows e =
    (end_it c.self.inside.world c.self.inside.replicas.items c.args.self.now c.self.view_is c.self.invariant c.place-at.result c.args.s c.place-at.ensures c.requires c.index_mut-leader.result.now (sym c.index_mut-leader.ensures.value)
    rows c.end.new.self (c.in_ok-end.ensures.ok rows e)).1
