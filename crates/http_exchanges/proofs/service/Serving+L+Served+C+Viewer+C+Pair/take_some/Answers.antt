use Rattle.std.proofs.Common.{drop}
use Rattle.http_exchanges.specs.Services.{connection, stage}
use Rattle.http_exchanges.proofs.Exchanges.{fed_comes, some_used}
use Rattle.http_exchanges.proofs.service.Serving+L+Served+C+Viewer+C+Pair.take_some.Goals as goal

pub returns-in-Ok-clause-used : goal.returns-in-Ok-clause-used
returns-in-Ok-clause-used g c =
    let shows = g.C.SharedCluster.shows in let agrees = g.C.SharedCluster.agrees in let k = connection g.L.Link.state c.args.service.now in let s = stage g.L.Link.state c.args.self.now in
    (some_used shows agrees k s c.feed-used.new.self c.args.piece.now c.feed-used.result c.requires.talks c.feed-used.ensures.feeds c.feed-used.ensures.takes c.in-Ok.ensures.taking c.requires.some, c.feed-used.ensures.used)

pub returns-in-Ok-clause-goes_on : goal.returns-in-Ok-clause-goes_on
returns-in-Ok-clause-goes_on g c =
    let shows = g.C.SharedCluster.shows in let agrees = g.C.SharedCluster.agrees in let k = connection g.L.Link.state c.args.service.now in let s = stage g.L.Link.state c.args.self.now in
    c.in-Ok.ensures.goes_on (drop c.feed-used.result.used c.args.piece.now) (fed_comes shows agrees k s c.feed-used.new.self c.args.piece.now c.feed-used.result c.requires.talks c.feed-used.ensures.feeds c.feed-used.ensures.tells)

pub returns-in-Err-clause-goes_on : goal.returns-in-Err-clause-goes_on
returns-in-Err-clause-goes_on g c =
    let shows = g.C.SharedCluster.shows in let agrees = g.C.SharedCluster.agrees in let k = connection g.L.Link.state c.args.service.now in let s = stage g.L.Link.state c.args.self.now in
    c.in-Err.ensures.goes_on (drop c.feed-used.result.used c.args.piece.now) (fed_comes shows agrees k s c.feed-used.new.self c.args.piece.now c.feed-used.result c.requires.talks c.feed-used.ensures.feeds c.feed-used.ensures.tells)
