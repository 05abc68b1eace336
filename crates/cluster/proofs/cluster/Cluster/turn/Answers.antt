use Rattle.std.proofs.Common.{◌≡◌, ◌≢◌, ◌<◌, None, true, IfOk, OnErr, subst}
use Rattle.cluster_rules.specs.Cluster.{Cluster}
use Rattle.cluster_rules.specs.Due.{due}
use Rattle.cluster_rules.specs.Left.{left}
use Rattle.cluster_order.specs.Evaluations.{EvaluatesIn, lacking}
use Rattle.cluster_order.specs.Turns.{Turned}
use Rattle.cluster_requests.specs.Requests.{cluster_of}
use Rattle.cluster.proofs.cluster.Cluster.turn.Goals as goal

pub invariant_of-self : goal.invariant_of-self
invariant_of-self g c = c.turn.ensures.stands

pub returns-clause-turned : goal.returns-clause-turned
returns-clause-turned g c = subst (λ (d : Cluster). IfOk c.turn.result (λ was. Turned c.args.server was d (cluster_of c.turn.new.servers.world c.turn.new.servers.servers c.self.inside.agents c.turn.new.requests))) c.self.view_is (c.turn.ensures.turned c.self.inside.agents)

pub returns-clause-left : goal.returns-clause-left
returns-clause-left g c = subst (λ (d : Cluster). IfOk c.turn.result (λ was. was ≡ true → left c.args.server (cluster_of c.turn.new.servers.world c.turn.new.servers.servers c.self.inside.agents c.turn.new.requests) < left c.args.server d)) c.self.view_is c.turn.ensures.left

pub returns-clause-behind : goal.returns-clause-behind
returns-clause-behind g c = subst (λ (d : Cluster). OnErr c.turn.result (due c.args.server d ≢ None)) c.self.view_is c.turn.ensures.behind

pub returns-clause-counted : goal.returns-clause-counted
returns-clause-counted g c =
    subst (λ (d : Cluster). EvaluatesIn (lacking c.turn.result) c.args.steps.now c.turn.new.steps d (cluster_of c.turn.new.servers.world c.turn.new.servers.servers c.self.inside.agents c.turn.new.requests)) c.self.view_is
    (record { grows = c.turn.ensures.counted.grows; counted = c.turn.ensures.counted.counted })
