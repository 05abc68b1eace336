use Rattle.std.proofs.Common.{ap, ◌∙◌}
use Rattle.cluster_rules.specs.Cluster.{Cluster}
use Rattle.cluster_rules.specs.Requests.{delayed_at}
use Rattle.cluster.proofs.cluster.Cluster.delayed.Goals as goal

pub returns : goal.returns
returns g c = c.delayed.ensures ∙ ap (λ (d : Cluster). delayed_at d c.args.server c.args.command.now) c.self.view_is
