use Rattle.std.proofs.Common.{is_err}
use Rattle.node_service.proofs.Brought.{brings_first}
use Rattle.node_service.specs.Sending.{piece_of}
use Rattle.node_service.proofs.outbox.+send_each.Goals as goal

pub returns : goal.returns
returns g t c =
    brings_first (piece_of c.args.sender c.args.ports.now) c.in-Some.first.now c.in-Some.rest.now c.args.messages.now c.send_one-one.result (is_err c.send_each-others.result) (is_err c.first_and_others.result)
    (g.D.Dialer.state c.args.dialer.now) (g.D.Dialer.state c.send_one-one.new.dialer) (g.D.Dialer.state c.send_each-others.new.dialer)
    c.in-Some.ensures.cases.0 c.first_and_others.ensures c.send_one-one.ensures c.send_each-others.ensures
