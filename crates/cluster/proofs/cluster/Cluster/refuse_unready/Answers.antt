use Rattle.std.proofs.Common.{◌≡◌, ◌+◌, refl, rules}
use Rattle.cluster_rules.specs.Cluster.{applied_of, node_of}
use Rattle.raft_model.specs.Log.{last_term}
use Rattle.cluster.proofs.Results.{either_way, ok_then, stands_alike}
use Rattle.cluster.proofs.Handled.{made_last, unready_handles, unready_stands}
use Rattle.cluster.proofs.cluster.Cluster.refuse_unready.Goals as goal

pub refuse_newest-requires : goal.refuse_newest-requires
refuse_newest-requires g c =
    made_last c.self.inside.agents c.self.inside.watch c.self.inside.servers.world c.self.inside.servers.servers c.self.inside.requests c.args.self.now c.args.agent c.args.asked.now c.args.draw (record { stands = c.self.invariant; view = c.self.view_is; come = c.requires.come }) (record c.self.inside.requests { room = 4 }) refl

pub invariant_of-self : goal.invariant_of-self
invariant_of-self g c =
    either_way c.refuse_newest.result (unready_stands c.self.inside.agents c.self.inside.watch c.self.inside.servers.world c.self.inside.servers.servers c.self.inside.requests c.refuse_newest.new.requests c.args.self.now c.args.agent c.args.asked.now c.args.draw (c.self.inside.requests.asked + 1) _ (record { stands = c.self.invariant; view = c.self.view_is; come = c.requires.come }))
    (λ e. stands_alike c.self.invariant e refl refl) c.refuse_newest.ensures.ok c.refuse_newest.ensures.err

pub returns-clause-ok : goal.returns-clause-ok
returns-clause-ok g c =
    let term : c.term.result ≡ (node_of c.args.self.now.world c.args.server).term = search rules in
    let applied : c.last_term.result ≡ last_term (applied_of c.args.self.now c.args.server) = search rules in
    ok_then c.refuse_newest.result (unready_handles c.self.inside.agents c.self.inside.watch c.self.inside.servers.world c.self.inside.servers.servers c.self.inside.requests c.refuse_newest.new.requests c.args.self.now c.args.server c.args.agent c.args.asked.now c.args.draw (c.self.inside.requests.asked + 1) c.term.result c.last_term.result
    (record { stands = c.self.invariant; view = c.self.view_is; come = c.requires.come }) c.requires.unready refl term applied) c.refuse_newest.ensures.ok
