use Rattle.std.proofs.Common.{◌≡◌, ◌<◌, ◌+◌, ◌∙◌, ap, refl, rules, subst, sym}
use Rattle.std.specs.List.{AllByRecursion as Each}
use Rattle.cluster_rules.specs.Cluster.{Cluster, Pending}
use Rattle.cluster_rules.specs.Replies.{Question}
use Rattle.cluster_requests.specs.Requests.{Requests}
use Rattle.cluster.proofs.Handled.{below_next, made_last}
use Rattle.cluster.proofs.Proposing.{done_write, write_handled}
use Rattle.cluster.proofs.cluster.Cluster.propose.Goals as goal

pub end_write-requires-clause-made : goal.end_write-requires-clause-made
end_write-requires-clause-made g c =
    let ready : c.prepare.new.self ≡ record c.self.inside.requests { room = 4 } = search rules in
    made_last c.self.inside.agents c.self.inside.watch c.self.inside.servers.world c.self.inside.servers.servers c.self.inside.requests c.args.self.now c.args.write.question.agent c.args.write.question.asked c.args.write.question.draw
    (record { stands = c.self.invariant; view = c.self.view_is; come = c.requires.come }) c.prepare.new.self ready

pub end_write-requires-clause-last : goal.end_write-requires-clause-last
end_write-requires-clause-last g c =
    let ready : c.prepare.new.self ≡ record c.self.inside.requests { room = 4 } = search rules in
    let next : c.args.write.question.number ≡ c.self.inside.requests.asked + 1 = ap (λ (q : Question). q.number) c.requires.write.copied.question ∙ ap (λ (z : Cluster). z.asked + 1) (sym c.self.view_is) in
    subst (Each (λ (h : Pending). h.question.number < c.args.write.question.number)) (ap (λ (p : Requests). p.held) (sym ready))
    (below_next c.self.inside.agents c.self.inside.watch c.self.inside.servers.world c.self.inside.servers.servers c.self.inside.requests c.args.write.question.number c.self.invariant next)

pub invariant_of-self-2 : goal.invariant_of-self-2
invariant_of-self-2 g c =
    let ready : c.prepare.new.self ≡ record c.self.inside.requests { room = 4 } = search rules in
    (done_write c.self.inside.agents c.self.inside.watch c.self.inside.servers c.propose-proposed.new.self c.self.inside.requests c.prepare.new.self c.end_write.new.requests c.args.server c.args.write c.args.command c.args.self.now c.see-before.result c.see-now.result c.agreed.result.now c.number-number.result c.propose-proposed.result c.end_write.result
    c.self.invariant c.stays_behind.ensures c.self.view_is c.requires.come c.requires.write c.requires.command c.requires.leads c.requires.ready c.requires.free ready c.number-number.ensures c.see-before.ensures.seen c.see-now.ensures.seen c.agreed.ensures
    c.propose-proposed.ensures.answer c.propose-proposed.ensures.servers c.end_write.ensures).2

pub returns-clause-ok : goal.returns-clause-ok
returns-clause-ok g c =
    let ready : c.prepare.new.self ≡ record c.self.inside.requests { room = 4 } = search rules in
    (write_handled c.self.inside.agents c.self.inside.watch c.self.inside.servers c.propose-proposed.new.self c.self.inside.requests c.prepare.new.self c.end_write.new.requests c.args.server c.args.write c.args.command c.args.self.now _ c.see-before.result c.see-now.result c.agreed.result.now c.number-number.result c.propose-proposed.result c.end_write.result
    c.self.invariant c.stays_behind.ensures c.self.view_is c.requires.come c.requires.write c.requires.command c.requires.leads c.requires.ready c.requires.free ready c.number-number.ensures c.see-before.ensures.seen c.see-now.ensures.seen c.agreed.ensures
    c.propose-proposed.ensures.answer c.propose-proposed.ensures.servers c.end_write.ensures refl).0

pub returns-clause-err : goal.returns-clause-err
returns-clause-err g c =
    let ready : c.prepare.new.self ≡ record c.self.inside.requests { room = 4 } = search rules in
    (write_handled c.self.inside.agents c.self.inside.watch c.self.inside.servers c.propose-proposed.new.self c.self.inside.requests c.prepare.new.self c.end_write.new.requests c.args.server c.args.write c.args.command c.args.self.now _ c.see-before.result c.see-now.result c.agreed.result.now c.number-number.result c.propose-proposed.result c.end_write.result
    c.self.invariant c.stays_behind.ensures c.self.view_is c.requires.come c.requires.write c.requires.command c.requires.leads c.requires.ready c.requires.free ready c.number-number.ensures c.see-before.ensures.seen c.see-now.ensures.seen c.agreed.ensures
    c.propose-proposed.ensures.answer c.propose-proposed.ensures.servers c.end_write.ensures refl).1
