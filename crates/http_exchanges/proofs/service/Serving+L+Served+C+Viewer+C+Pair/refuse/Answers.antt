use Rattle.http_exchanges.specs.Services.{connection, stage}
use Rattle.http_exchanges.proofs.Exchanges.{refuses, refuses_part}
use Rattle.http_exchanges.proofs.service.Serving+L+Served+C+Viewer+C+Pair.refuse.Goals as goal

pub returns-in-Ok-clause-ends : goal.returns-in-Ok-clause-ends
returns-in-Ok-clause-ends g c =
    let shows = g.C.SharedCluster.shows in let agrees = g.C.SharedCluster.agrees in let k = connection g.L.Link.state c.args.service.now in let s = stage g.L.Link.state c.args.self.now in
    λ o. refuses shows agrees k s (g.L.Link.state c.send_refusal.new.link) c.args.why c.in-Ok.ensures o

pub returns-in-Err-clause-ends : goal.returns-in-Err-clause-ends
returns-in-Err-clause-ends g c =
    let shows = g.C.SharedCluster.shows in let agrees = g.C.SharedCluster.agrees in let k = connection g.L.Link.state c.args.service.now in let s = stage g.L.Link.state c.args.self.now in
    λ o. refuses_part shows agrees k s (g.L.Link.state c.send_refusal.new.link) c.args.why c.in-Err.cut c.in-Err.ensures o
