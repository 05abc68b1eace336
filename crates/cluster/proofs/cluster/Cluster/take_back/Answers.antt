use Rattle.std.proofs.Common.{◌∙◌}
use Rattle.cluster.proofs.Syncing.{fresh_stands, taken_back, told_there}
use Rattle.cluster.proofs.cluster.Cluster.take_back.Goals as goal

pub take_sync_back-requires : goal.take_sync_back-requires
take_sync_back-requires g c = (
  record c.self.inside.requests { fresh = c.requires.0.fresh },
  told_there c.self.inside.agents c.self.inside.servers.world c.self.inside.servers.servers c.self.inside.requests c.args.agent c.requires.0 (c.self.view_is ∙ c.requires.1),
)

pub invariant_of-self : goal.invariant_of-self
invariant_of-self g c =
    fresh_stands c.self.inside.watch c.self.inside.servers.world c.self.inside.servers.servers c.self.inside.requests c.take_sync_back.new.self c.requires.0.fresh c.self.invariant
    (c.take_sync_back.ensures (record c.self.inside.requests { fresh = c.requires.0.fresh })
    (told_there c.self.inside.agents c.self.inside.servers.world c.self.inside.servers.servers c.self.inside.requests c.args.agent c.requires.0 (c.self.view_is ∙ c.requires.1)))

pub returns : goal.returns
returns g c = λ d e.
    taken_back c.self.inside.agents c.self.inside.servers.world c.self.inside.servers.servers c.self.inside.requests c.take_sync_back.new.self c.args.agent d (c.self.view_is ∙ e)
    (c.take_sync_back.ensures (record c.self.inside.requests { fresh = d.fresh })
    (told_there c.self.inside.agents c.self.inside.servers.world c.self.inside.servers.servers c.self.inside.requests c.args.agent d (c.self.view_is ∙ e)))
