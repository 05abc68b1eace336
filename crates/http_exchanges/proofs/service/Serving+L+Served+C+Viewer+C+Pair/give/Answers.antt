use Rattle.http_wire.specs.Reader.{raw}
use Rattle.http_exchanges.specs.Services.{connection, stage}
use Rattle.http_exchanges.proofs.Exchanges.{gave_next, gave_part}
use Rattle.http_exchanges.proofs.service.Serving+L+Served+C+Viewer+C+Pair.give.Goals as goal

pub returns-in-Ok-clause-gives : goal.returns-in-Ok-clause-gives
returns-in-Ok-clause-gives g c =
    let shows = g.C.SharedCluster.shows in let agrees = g.C.SharedCluster.agrees in let k = connection g.L.Link.state c.args.service.now in let s = stage g.L.Link.state c.args.self.now in
    λ before rest o grown own is. gave_next shows agrees k s before rest (raw c.args.message.now) c.args.response.now.reply c.args.n o grown c.requires.next own is (g.L.Link.state c.send_answer.new.link) c.ends_here.result c.in-Ok.ensures c.ends_here.ensures

pub returns-in-Err-clause-gives : goal.returns-in-Err-clause-gives
returns-in-Err-clause-gives g c =
    let shows = g.C.SharedCluster.shows in let agrees = g.C.SharedCluster.agrees in let k = connection g.L.Link.state c.args.service.now in let s = stage g.L.Link.state c.args.self.now in
    λ before rest o grown own is. gave_part shows agrees k s before rest (raw c.args.message.now) c.args.response.now.reply c.args.n o grown c.requires.next own is (g.L.Link.state c.send_answer.new.link) c.in-Err.why c.in-Err.ensures
