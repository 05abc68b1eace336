use Rattle.http_connections.proofs.Runs.{split_all}
use Rattle.http_connections.proofs.start.parts.Goals as goal

pub returns-in-Ok-clause-shares : goal.returns-in-Ok-clause-shares
returns-in-Ok-clause-shares g c = let e = c.in-Ok.ensures.shares in split_all c.args.pass.now.shares c.split-2.new.pass.shares c.in-Ok.own.shares e.0 e.1
