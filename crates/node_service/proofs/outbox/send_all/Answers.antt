use Rattle.std.proofs.Common.{◌∙◌}
use Rattle.node_service.proofs.Brought.{takes_outbox}
use Rattle.node_service.proofs.outbox.send_all.Goals as goal

pub returns-clause-taken : goal.returns-clause-taken
returns-clause-taken g c =
    takes_outbox c.args.ports.now c.args.host.now c.id-sender.result c.as_slice.result.now c.send_each.result
    (g.D.Dialer.state c.args.dialer.now) (g.D.Dialer.state c.send_each.new.dialer) c.id-sender.ensures (c.as_slice.ensures ∙ c.in_ok-messages.ensures.taken) c.send_each.ensures
