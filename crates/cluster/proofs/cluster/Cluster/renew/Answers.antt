use Rattle.std.proofs.Common.{◌+◌, refl, subst, sym}
use Rattle.cluster_replicas.specs.Servers.{Servers}
use Rattle.cluster_works.specs.Standing as standing
use Rattle.cluster.proofs.Handled.{made_last, renew_handles}
use Rattle.cluster.proofs.Results.{either_way, err_both, ok_both, ok_then, stands_alike}
use Rattle.cluster.proofs.cluster.Cluster.renew.Goals as goal

pub renew_newest-requires-clause-made : goal.renew_newest-requires-clause-made
renew_newest-requires-clause-made g c =
    made_last c.self.inside.agents c.self.inside.watch c.self.inside.servers.world c.self.inside.servers.servers c.self.inside.requests c.args.self.now c.args.agent c.args.asked.now c.args.draw (record { stands = c.self.invariant; view = c.self.view_is; come = c.requires.come }) (record c.self.inside.requests { room = 4 }) refl

pub invariant_of-self : goal.invariant_of-self
invariant_of-self g c =
    either_way c.renew_newest.result (λ e. (renew_handles c.self.inside.agents c.self.inside.watch c.self.inside.servers c.renew_newest.new.servers c.self.inside.requests c.renew_newest.new.requests c.args.self.now c.args.server c.args.agent c.args.asked.now c.args.draw c.args.id (c.self.inside.requests.asked + 1) _ _
    (record { stands = c.self.invariant; view = c.self.view_is; come = c.requires.come }) e.0 c.requires.asked c.requires.ready refl refl refl e.1).1)
    (λ e. subst (λ (s : Servers). standing.Stands c.self.inside.watch s.world s.servers c.renew_newest.new.requests) (sym e.0)
    (stands_alike c.self.invariant e.1 refl refl))
    (ok_both _ _ c.renew_newest.result c.renew_newest.ensures.servers c.renew_newest.ensures.requests) (err_both _ _ c.renew_newest.result c.renew_newest.ensures.same c.renew_newest.ensures.room)

pub returns-clause-ok : goal.returns-clause-ok
returns-clause-ok g c =
    ok_then c.renew_newest.result (λ e. (renew_handles c.self.inside.agents c.self.inside.watch c.self.inside.servers c.renew_newest.new.servers c.self.inside.requests c.renew_newest.new.requests c.args.self.now c.args.server c.args.agent c.args.asked.now c.args.draw c.args.id (c.self.inside.requests.asked + 1) _ _
    (record { stands = c.self.invariant; view = c.self.view_is; come = c.requires.come }) e.0 c.requires.asked c.requires.ready refl refl refl e.1).0) (ok_both _ _ c.renew_newest.result c.renew_newest.ensures.servers c.renew_newest.ensures.requests)
