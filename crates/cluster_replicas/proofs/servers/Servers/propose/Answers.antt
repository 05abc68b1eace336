use Rattle.std.proofs.Common.{ap, ◌∙◌}
use Rattle.cluster_replicas.specs.Servers.{Servers}
use Rattle.cluster_replicas.proofs.Stepping.{proposal_kept}
use Rattle.cluster_replicas.proofs.servers.Servers.propose.Goals as goal

pub invariant_of-self : goal.invariant_of-self
invariant_of-self g c = (proposal_kept c.self.inside.world c.args.s c.args.number c.args.command c.propose.new.self c.propose.result c.propose.ensures.answer c.self.inside.replicas.items c.self.invariant).0

pub returns-clause-servers : goal.returns-clause-servers
returns-clause-servers g c = (proposal_kept c.self.inside.world c.args.s c.args.number c.args.command c.propose.new.self c.propose.result c.propose.ensures.answer c.self.inside.replicas.items c.self.invariant).1 ∙ ap (λ (v : Servers). v.servers) c.self.view_is
