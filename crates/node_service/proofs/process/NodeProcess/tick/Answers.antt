-- Whatever rings, the host stays the same server.
use Rattle.std.proofs.Common.{ap, subst, sym, ◌∙◌}
use Rattle.peer_frames.specs.Spelling.{ArePeers}
use Rattle.node_service.specs.Alarms.{is_due}
use Rattle.node_service.specs.Answering.{peers_of}
use Rattle.node_service.specs.Processes.{Running}
use Rattle.node_service.proofs.Places.{rung_same}
use Rattle.node_service.proofs.process.NodeProcess.tick.Goals as goal

pub invariant_of-self : goal.invariant_of-self
invariant_of-self g c = subst ArePeers (sym (rung_same (is_due c.self.inside.alarm c.self.inside.host.node.role c.args.now_ms) c.self.inside.alarm c.self.inside.host c.args.now_ms c.args.word c.tick.result c.tick.new.self c.tick.new.host c.tick.ensures)) c.self.invariant

pub returns-clause-peers : goal.returns-clause-peers
returns-clause-peers g c = rung_same (is_due c.self.inside.alarm c.self.inside.host.node.role c.args.now_ms) c.self.inside.alarm c.self.inside.host c.args.now_ms c.args.word c.tick.result c.tick.new.self c.tick.new.host c.tick.ensures ∙ ap (λ (p : Running). peers_of p.host) c.self.view_is
