use Rattle.std.proofs.Common.{ap, subst, ◌∙◌, OnErr, OnOk}
use Rattle.raft_model.specs.Rules.{Timeout}
use Rattle.raft_model.specs.World.{World}
use Rattle.raft_world.specs.Steps.{FindsNoMemory, StepsWhole}
use Rattle.cluster_replicas.specs.Servers.{Servers}
use Rattle.cluster_replicas.proofs.Stepping.{whole_kept}
use Rattle.cluster_replicas.proofs.servers.Servers.timeout.Goals as goal

pub invariant_of-self : goal.invariant_of-self
invariant_of-self g c = (whole_kept c.timeout.result c.self.inside.world c.args.s Timeout c.timeout.new.self c.timeout.ensures.ok c.timeout.ensures.memory c.self.inside.replicas.items c.self.invariant).0

pub returns-clause-servers : goal.returns-clause-servers
returns-clause-servers g c = (whole_kept c.timeout.result c.self.inside.world c.args.s Timeout c.timeout.new.self c.timeout.ensures.ok c.timeout.ensures.memory c.self.inside.replicas.items c.self.invariant).1 ∙ ap (λ (v : Servers). v.servers) c.self.view_is

pub returns-clause-ok : goal.returns-clause-ok
returns-clause-ok g c = subst (λ (w : World). OnOk c.timeout.result (StepsWhole w c.args.s Timeout c.timeout.new.self)) (ap (λ (v : Servers). v.world) c.self.view_is) c.timeout.ensures.ok

pub returns-clause-memory : goal.returns-clause-memory
returns-clause-memory g c = subst (λ (w : World). OnErr c.timeout.result (FindsNoMemory w c.args.s Timeout c.timeout.new.self)) (ap (λ (v : Servers). v.world) c.self.view_is) c.timeout.ensures.memory
