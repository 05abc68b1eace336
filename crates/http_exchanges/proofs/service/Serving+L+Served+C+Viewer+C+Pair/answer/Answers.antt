use Rattle.std.proofs.Common.{◌≡◌}
use Rattle.http_wire.specs.Reader.{raw}
use Rattle.http_wire.specs.Stream.{whole}
use Rattle.http_exchanges.specs.Knowing.{known_by}
use Rattle.http_exchanges.specs.Services.{connection, stage}
use Rattle.http_exchanges.specs.declared.turns.NoReply.TheVariants as no_reply
use Rattle.http_exchanges.proofs.Exchanges.{cut_at, cut_first, leaves, owes_at}
use Rattle.http_exchanges.proofs.Leaving.{after_left, after_memory}
use Rattle.http_exchanges.proofs.service.Serving+L+Served+C+Viewer+C+Pair.answer.Goals as goal

pub returns-in-Ok-clause-goes_on : goal.returns-in-Ok-clause-goes_on
returns-in-Ok-clause-goes_on g c =
    let shows = g.C.SharedCluster.shows in let agrees = g.C.SharedCluster.agrees in let k = connection g.L.Link.state c.args.service.now in let s = stage g.L.Link.state c.args.self.now in
    λ rest o. c.give-given.ensures.gives (known_by c.args.self.now.pass c.args.self.now.viewer) rest (owes_at shows agrees k s (g.L.Link.state c.reply_to.new.link) rest (whole (raw c.args.message.now)) c.in-Ok.ensures.link o) c.reply_to.ensures.grown c.in-Ok.ensures.opened c.in-Ok.ensures.reply

pub returns-in_default-clause-goes_on : goal.returns-in_default-clause-goes_on
returns-in_default-clause-goes_on g c =
    let shows = g.C.SharedCluster.shows in let agrees = g.C.SharedCluster.agrees in let k = connection g.L.Link.state c.args.service.now in let s = stage g.L.Link.state c.args.self.now in
    λ rest o. cut_first shows agrees k s rest (whole (raw c.args.message.now)) o

pub returns-in-Err-Memory-clause-goes_on : goal.returns-in-Err-Memory-clause-goes_on
returns-in-Err-Memory-clause-goes_on g c =
    let shows = g.C.SharedCluster.shows in let agrees = g.C.SharedCluster.agrees in let k = connection g.L.Link.state c.args.service.now in let s = stage g.L.Link.state c.args.self.now in
    let new = g.L.Link.state c.reply_to.new.link in let is : c.in-Err-Memory.field-0 ≡ no_reply.Memory = cc in
    λ rest o. cut_at shows agrees k s new (known_by c.reply_to.new.pass c.reply_to.new.viewer) rest (whole (raw c.args.message.now)) (after_memory c.in-Err-Memory.field-0 s.link new is c.in-Err-Memory.ensures.link) c.reply_to.ensures.grown c.in-Err-Memory.ensures.opened o

pub returns-in-Err-Left-clause-goes_on : goal.returns-in-Err-Left-clause-goes_on
returns-in-Err-Left-clause-goes_on g c =
    let shows = g.C.SharedCluster.shows in let agrees = g.C.SharedCluster.agrees in let k = connection g.L.Link.state c.args.service.now in let s = stage g.L.Link.state c.args.self.now in
    let new = g.L.Link.state c.reply_to.new.link in let is : c.in-Err-Left.field-0 ≡ no_reply.Left = cc in
    λ rest o. leaves shows agrees k s new (known_by c.reply_to.new.pass c.reply_to.new.viewer) rest (raw c.args.message.now) c.in-Some.n o c.reply_to.ensures.grown (after_left c.in-Err-Left.field-0 s.link new is c.in-Err-Left.ensures.link) c.in-Some.ensures.1 c.in-Err-Left.ensures.opened (c.in-Err-Left.ensures.left is)
