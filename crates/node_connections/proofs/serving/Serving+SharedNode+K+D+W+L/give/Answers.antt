use Rattle.std.proofs.Common.{arith}
use Rattle.node_connections.specs.Services.{connection, stage}
use Rattle.node_connections.proofs.Exchanges.{cut_uncounted, given, not_given}
use Rattle.node_connections.proofs.serving.Serving+SharedNode+K+D+W+L.give.Goals as goal

pub returns-in_default-clause-gives : goal.returns-in_default-clause-gives
returns-in_default-clause-gives g c rest owes = cut_uncounted (connection g.L.Link.state c.args.service.now) (stage g.L.Link.state c.args.self.now) c.args.answer.now rest owes

pub returns-in-Ok-clause-gives : goal.returns-in-Ok-clause-gives
returns-in-Ok-clause-gives g c rest owes =
    given (connection g.L.Link.state c.args.service.now) (stage g.L.Link.state c.args.self.now) (g.L.Link.state c.send_answer.new.link) c.args.answer.now c.in-Some.frames c.in-Ok.field-0 rest owes c.in-Ok.ensures (omega (arith, c.in-Some.ensures))

pub returns-in-Err-clause-gives : goal.returns-in-Err-clause-gives
returns-in-Err-clause-gives g c rest owes =
    not_given (connection g.L.Link.state c.args.service.now) (stage g.L.Link.state c.args.self.now) (g.L.Link.state c.send_answer.new.link) c.args.answer.now c.in-Err.why rest owes c.in-Err.ensures
