use Rattle.std.proofs.Common.{◌≡◌, ◌<◌, ◌+◌, ◌-◌, ◌∙◌, ap, refl, rules, subst, sym}
use Rattle.std.specs.List.{AllByRecursion as Each}
use Rattle.std.specs.Prelude.{◌^◌}
use Rattle.cluster_rules.specs.Cluster.{Cluster, Pending, node_of}
use Rattle.cluster_requests.specs.Requests.{Requests}
use Rattle.cluster.proofs.Handled.{below_next, made_last}
use Rattle.cluster.proofs.Rounds.{done_probe, read_probed, rounds_fit}
use Rattle.cluster.proofs.cluster.Cluster.probe.Goals as goal

pub probe-probed-requires-clause-rounds : goal.probe-probed-requires-clause-rounds
probe-probed-requires-clause-rounds g c = rounds_fit c.self.inside.agents c.self.inside.watch c.self.inside.servers.world c.args.server (subst (λ (z : Cluster). (node_of z.world c.args.server).round < 2 ^ 64 - 1) (sym c.self.view_is) c.requires.rounds)

pub end_probe-requires-clause-made : goal.end_probe-requires-clause-made
end_probe-requires-clause-made g c =
    let ready : c.prepare.new.self ≡ record c.self.inside.requests { room = 4 } = search rules in
    made_last c.self.inside.agents c.self.inside.watch c.self.inside.servers.world c.self.inside.servers.servers c.self.inside.requests c.args.self.now c.args.read.agent c.args.read.asked c.args.read.draw
    (record { stands = c.self.invariant; view = c.self.view_is; come = c.requires.come }) c.prepare.new.self ready

pub end_probe-requires-clause-last : goal.end_probe-requires-clause-last
end_probe-requires-clause-last g c =
    let ready : c.prepare.new.self ≡ record c.self.inside.requests { room = 4 } = search rules in
    let next : c.args.read.number ≡ c.self.inside.requests.asked + 1 = c.requires.read.number ∙ ap (λ (z : Cluster). z.asked + 1) (sym c.self.view_is) in
    subst (Each (λ (h : Pending). h.question.number < c.args.read.number)) (ap (λ (p : Requests). p.held) (sym ready))
    (below_next c.self.inside.agents c.self.inside.watch c.self.inside.servers.world c.self.inside.servers.servers c.self.inside.requests c.args.read.number c.self.invariant next)

pub invariant_of-self-2 : goal.invariant_of-self-2
invariant_of-self-2 g c =
    let ready : c.prepare.new.self ≡ record c.self.inside.requests { room = 4 } = search rules in
    (done_probe c.self.inside.agents c.self.inside.watch c.self.inside.servers c.probe-probed.new.self c.self.inside.requests c.prepare.new.self c.end_probe.new.requests c.args.server c.args.read c.args.deadline c.args.self.now c.see-before.result c.see-now.result c.agreed.result.now c.probe-probed.result c.end_probe.result
    c.self.invariant c.self.view_is c.requires.come c.requires.read c.requires.taken c.requires.go ready c.see-before.ensures.seen c.see-now.ensures.seen c.agreed.ensures
    c.probe-probed.ensures.ok c.probe-probed.ensures.err c.probe-probed.ensures.servers c.end_probe.ensures).2

pub returns-clause-ok : goal.returns-clause-ok
returns-clause-ok g c =
    let ready : c.prepare.new.self ≡ record c.self.inside.requests { room = 4 } = search rules in
    (read_probed c.self.inside.agents c.self.inside.watch c.self.inside.servers c.probe-probed.new.self c.self.inside.requests c.prepare.new.self c.end_probe.new.requests c.args.server c.args.read c.args.deadline c.args.self.now _ c.see-before.result c.see-now.result c.agreed.result.now c.probe-probed.result c.end_probe.result
    c.self.invariant c.self.view_is c.requires.come c.requires.read c.requires.taken c.requires.go ready c.see-before.ensures.seen c.see-now.ensures.seen c.agreed.ensures
    c.probe-probed.ensures.ok c.probe-probed.ensures.err c.probe-probed.ensures.servers c.end_probe.ensures refl).0

pub returns-clause-err : goal.returns-clause-err
returns-clause-err g c =
    let ready : c.prepare.new.self ≡ record c.self.inside.requests { room = 4 } = search rules in
    (read_probed c.self.inside.agents c.self.inside.watch c.self.inside.servers c.probe-probed.new.self c.self.inside.requests c.prepare.new.self c.end_probe.new.requests c.args.server c.args.read c.args.deadline c.args.self.now _ c.see-before.result c.see-now.result c.agreed.result.now c.probe-probed.result c.end_probe.result
    c.self.invariant c.self.view_is c.requires.come c.requires.read c.requires.taken c.requires.go ready c.see-before.ensures.seen c.see-now.ensures.seen c.agreed.ensures
    c.probe-probed.ensures.ok c.probe-probed.ensures.err c.probe-probed.ensures.servers c.end_probe.ensures refl).1
