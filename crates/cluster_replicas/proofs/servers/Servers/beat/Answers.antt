use Rattle.std.proofs.Common.{ap, subst, ◌∙◌, OnOk}
use Rattle.raft_model.specs.Rules.{Beat}
use Rattle.raft_model.specs.World.{World}
use Rattle.raft_world.specs.Steps.{StepsWorking}
use Rattle.cluster_replicas.specs.Servers.{Servers}
use Rattle.cluster_replicas.proofs.Stepping.{working_kept}
use Rattle.cluster_replicas.proofs.servers.Servers.beat.Goals as goal

pub invariant_of-self : goal.invariant_of-self
invariant_of-self g c = (working_kept c.beat.result c.self.inside.world c.args.s Beat c.beat.new.self c.beat.ensures.ok c.beat.ensures.memory c.self.inside.replicas.items c.self.invariant).0

pub returns-clause-servers : goal.returns-clause-servers
returns-clause-servers g c = (working_kept c.beat.result c.self.inside.world c.args.s Beat c.beat.new.self c.beat.ensures.ok c.beat.ensures.memory c.self.inside.replicas.items c.self.invariant).1 ∙ ap (λ (v : Servers). v.servers) c.self.view_is

pub returns-clause-ok : goal.returns-clause-ok
returns-clause-ok g c = subst (λ (w : World). OnOk c.beat.result (StepsWorking w c.args.s Beat c.beat.new.self)) (ap (λ (v : Servers). v.world) c.self.view_is) c.beat.ensures.ok
