use Rattle.std.proofs.Common.{drop}
use Rattle.node_connections.specs.Services.{connection, stage}
use Rattle.node_connections.proofs.Exchanges.{fed_comes, some_used}
use Rattle.node_connections.proofs.serving.Serving+SharedNode+K+D+W+L.take_some.Goals as goal

pub handle-requires-clause-comes : goal.handle-requires-clause-comes
handle-requires-clause-comes g c =
    (drop c.feed-used.result.used c.args.piece.now, fed_comes (connection g.L.Link.state c.args.service.now) (stage g.L.Link.state c.args.self.now) c.feed-used.new.self c.args.piece.now c.feed-used.result c.requires.talks c.feed-used.ensures)

pub returns-in-Ok-clause-used : goal.returns-in-Ok-clause-used
returns-in-Ok-clause-used g c =
    some_used (connection g.L.Link.state c.args.service.now) (stage g.L.Link.state c.args.self.now) c.feed-used.new.self c.args.piece.now c.feed-used.result c.requires.talks c.feed-used.ensures c.in-Ok.ensures.taking c.requires.some

pub returns-in-Ok-clause-goes_on : goal.returns-in-Ok-clause-goes_on
returns-in-Ok-clause-goes_on g c =
    c.in-Ok.ensures.goes_on (drop c.feed-used.result.used c.args.piece.now) (fed_comes (connection g.L.Link.state c.args.service.now) (stage g.L.Link.state c.args.self.now) c.feed-used.new.self c.args.piece.now c.feed-used.result c.requires.talks c.feed-used.ensures)

pub returns-in-Err-clause-goes_on : goal.returns-in-Err-clause-goes_on
returns-in-Err-clause-goes_on g c =
    c.in-Err.ensures.goes_on (drop c.feed-used.result.used c.args.piece.now) (fed_comes (connection g.L.Link.state c.args.service.now) (stage g.L.Link.state c.args.self.now) c.feed-used.new.self c.args.piece.now c.feed-used.result c.requires.talks c.feed-used.ensures)
