use Rattle.std.proofs.Common.{take, sym, subst}
use Rattle.cluster_rules.specs.Offices.{ended_too}
use Rattle.cluster_rules.specs.Cluster.{office_of, server_of}
use Rattle.cluster_rules.specs.Proposals.{over_rows}
use Rattle.cluster_replicas.specs.Servers.{Servers}
use Rattle.cluster_works.specs.Standing.{Stands}
use Rattle.cluster_works.proofs.Acting.{stands_officed}
use Rattle.cluster.proofs.Tending.{ends_done, proposed_office}
use Rattle.cluster.proofs.cluster.Cluster.propose_ends.Goals as goal

pub invariant_of-self-2 : goal.invariant_of-self-2
invariant_of-self-2 g c =
    let rows = over_rows c.args.self.now c.args.server in
    let own = server_of c.self.inside.servers.servers c.args.server in
    subst (λ (z : Servers). Stands c.self.inside.watch z.world z.servers c.self.inside.requests) (sym (c.in_ok-end.ensures.ok rows c.requires.over))
    (stands_officed c.self.inside.agents c.self.inside.watch c.args.server (ended_too rows own.office) c.self.inside.servers.world c.self.inside.servers.servers c.self.inside.requests c.self.invariant)

pub invariant_of-self-3 : goal.invariant_of-self-3
invariant_of-self-3 g c =
    let rows = over_rows c.args.self.now c.args.server in
    let own = office_of c.args.self.now c.args.server in
    let n = c.propose_all-proposed.result.entered in
    let office = proposed_office c.self.inside.agents c.self-2.inside.agents c.args.server c.self.inside.servers c.end.new.self c.self-2.inside.servers c.self.inside.requests c.self-2.inside.requests c.args.self.now c.propose_all-proposed.new.self
    c.self.view_is c.requires.server (c.in_ok-end.ensures.ok rows c.requires.over) c.propose_all-proposed.ensures.servers c.self-2.view_is in
    subst (λ (z : Servers). Stands c.self-2.inside.watch z.world z.servers c.self-2.inside.requests) (sym (c.keep_first.ensures rows own c.requires.over office))
    (stands_officed c.self-2.inside.agents c.self-2.inside.watch c.args.server (ended_too (take n rows) own) c.self-2.inside.servers.world c.self-2.inside.servers.servers c.self-2.inside.requests c.self-2.invariant)

pub returns-clause-told : goal.returns-clause-told
returns-clause-told g c =
    let rows = over_rows c.args.self.now c.args.server in
    let own = office_of c.args.self.now c.args.server in
    let noted = c.in_ok-end.ensures.ok rows c.requires.over in
    let office = proposed_office c.self.inside.agents c.self-2.inside.agents c.args.server c.self.inside.servers c.end.new.self c.self-2.inside.servers c.self.inside.requests c.self-2.inside.requests c.args.self.now c.propose_all-proposed.new.self
    c.self.view_is c.requires.server noted c.propose_all-proposed.ensures.servers c.self-2.view_is in
    ends_done c.self.inside.agents c.self-2.inside.agents c.args.server c.self.inside.servers c.end.new.self c.self-2.inside.servers c.keep_first.new.self c.self.inside.requests c.self-2.inside.requests c.args.self.now c.propose_all-proposed.new.self
    c.args.endings.now c.args.commands.now c.propose_all-proposed.result.entered c.propose_all-proposed.result.whole c.self.view_is c.requires.server c.requires.over c.requires.commands noted
    c.propose_all-proposed.ensures.proposals c.propose_all-proposed.ensures.servers c.self-2.view_is (c.keep_first.ensures rows own c.requires.over office)
