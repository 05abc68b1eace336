use Rattle.std.proofs.Common.{◌∙◌, ap, subst}
use Rattle.cluster_rules.specs.Cluster.{Cluster, runs_leading}
use Rattle.cluster_rules.specs.Proposals.{Proposals}
use Rattle.cluster_requests.specs.Requests.{cluster_of}
use Rattle.cluster.proofs.cluster.Cluster.propose_all.Goals as goal

pub propose_all-requires-clause-stands : goal.propose_all-requires-clause-stands
propose_all-requires-clause-stands g c = (c.self.inside.watch, c.self.invariant)

pub propose_all-requires-clause-leads : goal.propose_all-requires-clause-leads
propose_all-requires-clause-leads g c = ap (λ (d : Cluster). runs_leading d.world c.args.server) c.self.view_is ∙ c.requires.leads

pub invariant_of-self : goal.invariant_of-self
invariant_of-self g c = (c.propose_all.ensures.proposals c.self.inside.agents c.self.inside.watch c.self.invariant).stands

pub returns-clause-proposals : goal.returns-clause-proposals
returns-clause-proposals g c =
    subst (λ (d : Cluster). Proposals c.args.server c.args.commands.now d c.propose_all.result.entered (cluster_of c.propose_all.new.servers.world c.propose_all.new.servers.servers c.self.inside.agents c.propose_all.new.requests) c.propose_all.result.whole) c.self.view_is
    (c.propose_all.ensures.proposals c.self.inside.agents c.self.inside.watch c.self.invariant).proposals
