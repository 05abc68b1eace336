use Rattle.std.proofs.Common.{arith}
use Rattle.http_exchanges.specs.Services.{connection, stage}
use Rattle.http_exchanges.proofs.Exchanges.{read_end, read_fault, read_more}
use Rattle.http_exchanges.proofs.service.Serving+L+Served+C+Viewer+C+Pair.read_some.Goals as goal

pub returns-in-Ok-eq0-clause-goes_on : goal.returns-in-Ok-eq0-clause-goes_on
returns-in-Ok-eq0-clause-goes_on g c =
    let s = stage g.L.Link.state c.args.self.now in
    read_end g.C.SharedCluster.shows g.C.SharedCluster.agrees (connection g.L.Link.state c.args.service.now) s (g.L.Link.state c.read_next.new.link) c.read_next.new.buffer c.in-Ok-eq0.ensures (omega arith) (omega arith) c.requires.talks

pub returns-in-Err-clause-goes_on : goal.returns-in-Err-clause-goes_on
returns-in-Err-clause-goes_on g c =
    let s = stage g.L.Link.state c.args.self.now in
    read_fault g.C.SharedCluster.shows g.C.SharedCluster.agrees (connection g.L.Link.state c.args.service.now) s (g.L.Link.state c.read_next.new.link) c.read_next.new.buffer c.in-Err.ensures c.requires.talks

pub returns-in-Ok-clause-goes_on : goal.returns-in-Ok-clause-goes_on
returns-in-Ok-clause-goes_on g c =
    let s = stage g.L.Link.state c.args.self.now in let some = c.in-Ok.count-test.1 in
    read_more g.C.SharedCluster.shows g.C.SharedCluster.agrees (connection g.L.Link.state c.args.service.now) s (g.L.Link.state c.read_next.new.link) c.read_next.new.buffer c.in-Ok.count c.read_next.result c.in-Ok.is (omega (arith, some)) c.read_next.ensures c.requires.talks
