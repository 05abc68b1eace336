use Rattle.http_exchanges.specs.Services.{connection, stage}
use Rattle.http_exchanges.proofs.Exchanges.{continues}
use Rattle.http_exchanges.proofs.service.Serving+L+Served+C+Viewer+C+Pair.go_on.Goals as goal

pub returns-clause-goes_on : goal.returns-clause-goes_on
returns-clause-goes_on g c =
    let shows = g.C.SharedCluster.shows in let agrees = g.C.SharedCluster.agrees in let k = connection g.L.Link.state c.args.service.now in let s = stage g.L.Link.state c.args.self.now in
    λ rest o. continues shows agrees k s (g.L.Link.state c.send_continue.new.link) rest c.send_continue.result c.send_continue.ensures o
