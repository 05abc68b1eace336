use Rattle.std.proofs.Common.{ap, subst, ◌∙◌, OnErr, OnOk}
use Rattle.raft_model.specs.World.{World}
use Rattle.raft_world.specs.Steps.{Delivers, FindsNoMemory, StepsWhole}
use Rattle.cluster_replicas.specs.Servers.{Servers}
use Rattle.cluster_replicas.proofs.Stepping.{delivery_kept}
use Rattle.cluster_replicas.proofs.servers.Servers.deliver.Goals as goal

pub invariant_of-self : goal.invariant_of-self
invariant_of-self g c = (delivery_kept c.deliver.result c.self.inside.world c.args.k c.deliver.new.self c.deliver.ensures.ok c.deliver.ensures.memory c.self.inside.replicas.items c.self.invariant).0

pub returns-clause-servers : goal.returns-clause-servers
returns-clause-servers g c = (delivery_kept c.deliver.result c.self.inside.world c.args.k c.deliver.new.self c.deliver.ensures.ok c.deliver.ensures.memory c.self.inside.replicas.items c.self.invariant).1 ∙ ap (λ (v : Servers). v.servers) c.self.view_is

pub returns-clause-ok : goal.returns-clause-ok
returns-clause-ok g c = subst (λ (w : World). OnOk c.deliver.result (Delivers StepsWhole w c.args.k c.deliver.new.self)) (ap (λ (v : Servers). v.world) c.self.view_is) c.deliver.ensures.ok

pub returns-clause-memory : goal.returns-clause-memory
returns-clause-memory g c = subst (λ (w : World). OnErr c.deliver.result (Delivers FindsNoMemory w c.args.k c.deliver.new.self)) (ap (λ (v : Servers). v.world) c.self.view_is) c.deliver.ensures.memory
