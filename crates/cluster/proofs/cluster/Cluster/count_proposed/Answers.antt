use Rattle.std.proofs.Common.{Some, ◌∙◌}
use Rattle.cluster_rules.specs.Due.{put_out}
use Rattle.cluster_rules.specs.Replies.{Synced}
use Rattle.cluster.proofs.Syncing.{counted, fresh_stands, told_there}
use Rattle.cluster.proofs.cluster.Cluster.count_proposed.Goals as goal

pub count_sync-requires : goal.count_sync-requires
count_sync-requires g c = (
  record c.self.inside.requests { fresh = c.requires.0.fresh },
  told_there c.self.inside.agents c.self.inside.servers.world c.self.inside.servers.servers c.self.inside.requests c.args.agent c.requires.0 (c.self.view_is ∙ c.requires.1),
)

pub invariant_of-self : goal.invariant_of-self
invariant_of-self g c =
    fresh_stands c.self.inside.watch c.self.inside.servers.world c.self.inside.servers.servers c.self.inside.requests c.count_sync.new.self (put_out (Synced c.args.agent (Some c.args.count)) c.requires.0.fresh) c.self.invariant
    (c.count_sync.ensures (record c.self.inside.requests { fresh = c.requires.0.fresh })
    (told_there c.self.inside.agents c.self.inside.servers.world c.self.inside.servers.servers c.self.inside.requests c.args.agent c.requires.0 (c.self.view_is ∙ c.requires.1)))

pub returns : goal.returns
returns g c = λ d e.
    counted c.self.inside.agents c.self.inside.servers.world c.self.inside.servers.servers c.self.inside.requests c.count_sync.new.self c.args.agent c.args.count d (c.self.view_is ∙ e)
    (c.count_sync.ensures (record c.self.inside.requests { fresh = d.fresh })
    (told_there c.self.inside.agents c.self.inside.servers.world c.self.inside.servers.servers c.self.inside.requests c.args.agent d (c.self.view_is ∙ e)))
