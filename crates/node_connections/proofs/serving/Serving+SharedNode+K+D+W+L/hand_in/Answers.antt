use Rattle.node_connections.specs.Boards.{known}
use Rattle.node_connections.specs.Services.{connection, stage}
use Rattle.node_connections.proofs.Exchanges.{cut_short, owes_answer}
use Rattle.node_connections.proofs.serving.Serving+SharedNode+K+D+W+L.hand_in.Goals as goal

pub returns-in-Ok-clause-handed : goal.returns-in-Ok-clause-handed
returns-in-Ok-clause-handed g c rest owes =
    owes_answer (connection g.L.Link.state c.args.service.now) (stage g.L.Link.state c.args.self.now) (known c.hand_in.new.pass) c.args.frame.now c.in-Ok.answer rest owes c.in-Ok.ensures.handed

pub returns-in-Err-clause-handed : goal.returns-in-Err-clause-handed
returns-in-Err-clause-handed g c rest owes =
    cut_short (connection g.L.Link.state c.args.service.now) (stage g.L.Link.state c.args.self.now) (known c.hand_in.new.pass) c.args.frame.now _ rest owes c.in-Err.ensures.handed
