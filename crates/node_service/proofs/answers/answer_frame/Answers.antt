-- A server's message was received, and nothing is answered on its link.
use Rattle.std.proofs.Common.{None, refl, subst, sym}
use Rattle.node_service.specs.Answering.{IsAnswered}
use Rattle.node_service.proofs.answers.answer_frame.Goals as goal

pub returns-in_ok-granted-in-Peer : goal.returns-in_ok-granted-in-Peer
returns-in_ok-granted-in-Peer g c =
    subst (λ f. IsAnswered c.args.host.now f (record { frame = None; granted = c.in_ok-granted-in-Peer.granted }) c.receive.new.self) (sym c.in-Peer.is) (c.in_ok-granted-in-Peer.ensures.ok, refl)
