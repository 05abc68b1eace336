use Rattle.cluster.proofs.Refused.{refused_done, refused_stands}
use Rattle.cluster.proofs.parts.ClusterParts.refuse.Goals as goal

pub invariant_of-self : goal.invariant_of-self
invariant_of-self g c =
    refused_stands c.self.inside.agents c.self.inside.watch c.self.inside.servers.world c.self.inside.servers.servers c.self.inside.requests c.come_refused-told.new.self c.args.agent c.deref.result.now c.args.draw c.args.why c.come_refused-told.result c.self.invariant c.come_refused-told.ensures.ok c.come_refused-told.ensures.err

pub returns-clause-ok : goal.returns-clause-ok
returns-clause-ok g c =
    rw c.deref.ensures at (refused_done c.self.inside.agents c.self.inside.watch c.self.inside.servers.world c.self.inside.servers.servers c.self.inside.requests c.come_refused-told.new.self c.args.self.now c.args.agent c.deref.result.now c.args.draw c.args.why c.come_refused-told.result c.self.view_is c.come_refused-told.ensures.ok)
