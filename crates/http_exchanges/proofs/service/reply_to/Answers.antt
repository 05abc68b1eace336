use Rattle.std.proofs.Common.{◌≡◌, ◌++◌, subst}
use Rattle.cat_model.specs.declared.request.Asked.{Asked}
use Rattle.http_exchanges.specs.Knowing.{known_by}
use Rattle.http_exchanges.specs.Replies.{TakesNoTurn}
use Rattle.http_exchanges.specs.Services.{connection}
use Rattle.http_exchanges.specs.Serving.{IsReply, IsUnanswered, number_of}
use Rattle.http_exchanges.proofs.Exchanges.{opens_none}
use Rattle.http_exchanges.proofs.OwnTurns.{grows_none}
use Rattle.http_exchanges.proofs.service.reply_to.Goals as goal

pub returns-in-Ok-respond-clause-reply : goal.returns-in-Ok-respond-clause-reply
returns-in-Ok-respond-clause-reply g c =
    let k = connection g.L.Link.state c.args.service.now in
    subst (λ (a : Asked). IsReply g.C.SharedCluster.shows g.C.SharedCluster.agrees k a c.args.n c.in-Ok-respond.reply (known_by c.args.pass.now c.args.viewer.now) (known_by c.respond.new.pass c.respond.new.viewer)) c.in-Ok.ensures.asked c.in-Ok-respond.ensures.reply

pub returns-in-Ok-respond-clause-opened : goal.returns-in-Ok-respond-clause-opened
returns-in-Ok-respond-clause-opened g c =
    subst (λ (a : Asked). c.respond.new.pass.seat.me.0.mine ≡ c.args.pass.now.seat.me.0.mine ++ number_of a c.in-Ok-respond.reply) c.in-Ok.ensures.asked c.in-Ok-respond.ensures.opened

pub returns-in-Err-respond-clause-opened : goal.returns-in-Err-respond-clause-opened
returns-in-Err-respond-clause-opened g c = c.in-Err-respond.ensures.opened

pub returns-in-Err-clause-opened : goal.returns-in-Err-clause-opened
returns-in-Err-clause-opened g c = opens_none c.args.pass.now.seat.me.0.mine

pub returns-in-Err-clause-grown : goal.returns-in-Err-clause-grown
returns-in-Err-clause-grown g c = grows_none (known_by c.args.pass.now c.args.viewer.now)

pub returns-in-Err-respond-clause-link : goal.returns-in-Err-respond-clause-link
returns-in-Err-respond-clause-link g c = c.in-Err-respond.ensures.link

pub returns-in-Err-respond-clause-left : goal.returns-in-Err-respond-clause-left
returns-in-Err-respond-clause-left g c =
    let k = connection g.L.Link.state c.args.service.now in
    λ l. subst (λ (a : Asked). IsUnanswered g.C.SharedCluster.shows g.C.SharedCluster.agrees k a c.args.n c.args.pass.now.seat.me.0.mine (known_by c.respond.new.pass c.respond.new.viewer)) c.in-Ok.ensures.asked (c.in-Err-respond.ensures.left l)

pub returns-in-Ok-respond-clause-unturned : goal.returns-in-Ok-respond-clause-unturned
returns-in-Ok-respond-clause-unturned g c = subst (λ (a : Asked). TakesNoTurn a c.args.pass.now c.respond.new.pass) c.in-Ok.ensures.asked c.respond.ensures.unturned
