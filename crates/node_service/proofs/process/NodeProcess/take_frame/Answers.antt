-- Whatever is answered, the host stays the same server.
use Rattle.std.proofs.Common.{ap, subst, sym, ◌∙◌}
use Rattle.peer_frames.specs.Spelling.{ArePeers}
use Rattle.node_service.specs.Answering.{peers_of}
use Rattle.node_service.specs.Processes.{Running}
use Rattle.node_service.proofs.Places.{answered_same}
use Rattle.node_service.proofs.process.NodeProcess.take_frame.Goals as goal

pub invariant_of-self : goal.invariant_of-self
invariant_of-self g c = subst ArePeers (sym (answered_same c.self.inside.host c.args.frame.now c.answer_frame.result c.answer_frame.new.host c.answer_frame.ensures)) c.self.invariant

pub returns-in-Ok-clause-peers : goal.returns-in-Ok-clause-peers
returns-in-Ok-clause-peers g c = answered_same c.self.inside.host c.args.frame.now c.answer_frame.result c.answer_frame.new.host c.answer_frame.ensures ∙ ap (λ (p : Running). peers_of p.host) c.self.view_is
