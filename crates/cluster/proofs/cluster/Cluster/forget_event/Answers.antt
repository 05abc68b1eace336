use Rattle.std.proofs.Common.{◌∙◌, ap, sym, subst}
use Rattle.cluster_rules.specs.Cluster.{Cluster}
use Rattle.cluster_requests.specs.Past.{IsJustMade, but_last}
use Rattle.cluster_requests.specs.Requests.{Requests, cluster_of}
use Rattle.cluster.proofs.cluster.Cluster.forget_event.Goals as goal

pub forget-requires : goal.forget-requires
forget-requires g c = subst IsJustMade (sym (ap (λ (d : Cluster). d.past) (c.self.view_is ∙ c.requires.2))) tt

pub returns : goal.returns
returns g c = λ made d e.
    ap (λ (r : Requests). cluster_of c.self.inside.servers.world c.self.inside.servers.servers c.self.inside.agents r) c.forget.ensures
    ∙ ap (λ (d : Cluster). record d { past = but_last d.past }) (c.self.view_is ∙ e)
