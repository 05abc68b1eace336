use Rattle.std.proofs.Common.{refl}
use Rattle.cluster.proofs.AgentParts.{answer_done, answered_stands}
use Rattle.cluster.proofs.Handled.{made_last}
use Rattle.cluster.proofs.Results.{either_way, ok_both, ok_then, stands_alike}
use Rattle.cluster.proofs.cluster.Cluster.answer_asked.Goals as goal

pub answer_own-requires-clause-made : goal.answer_own-requires-clause-made
answer_own-requires-clause-made g c =
    made_last c.self.inside.agents c.self.inside.watch c.self.inside.servers.world c.self.inside.servers.servers c.self.inside.requests c.args.self.now c.args.agent c.args.asked.now c.args.draw (record { stands = c.self.invariant; view = c.self.view_is; come = c.requires.come }) (record c.self.inside.requests { room = 4 }) refl

pub invariant_of-self : goal.invariant_of-self
invariant_of-self g c =
    either_way c.answer_own.result (λ e. answered_stands c.self.inside.agents c.answer_own.new.agents c.self.inside.watch c.self.inside.servers.world c.self.inside.servers.servers c.self.inside.requests c.answer_own.new.requests c.args.self.now c.args.agent c.args.op.now c.args.asked.now c.args.draw
    (record { stands = c.self.invariant; view = c.self.view_is; come = c.requires.come }) c.requires.asked e.0 e.1)
    (λ e. stands_alike c.self.invariant e refl refl)
    (ok_both _ _ c.answer_own.result c.answer_own.ensures.agents c.answer_own.ensures.requests) c.answer_own.ensures.room

pub returns-clause-ok : goal.returns-clause-ok
returns-clause-ok g c =
    ok_then c.answer_own.result (λ e. answer_done c.self.inside.agents c.answer_own.new.agents c.self.inside.watch c.self.inside.servers.world c.self.inside.servers.servers c.self.inside.requests c.answer_own.new.requests c.args.self.now c.args.agent c.args.op.now c.args.asked.now c.args.draw
    (record { stands = c.self.invariant; view = c.self.view_is; come = c.requires.come }) c.requires.asked e.0 e.1) (ok_both _ _ c.answer_own.result c.answer_own.ensures.agents c.answer_own.ensures.requests)
