use Rattle.std.proofs.Common.{refl, sym, subst}
use Rattle.std.specs.Prelude.{IfOk}
use Rattle.cat_model.specs.declared.request.Asked.{Asked}
use Rattle.http_exchanges.specs.Knowing.{known_by}
use Rattle.http_exchanges.specs.Replies.{TakesNoTurn}
use Rattle.http_exchanges.specs.Services.{connection}
use Rattle.http_exchanges.specs.Serving.{IsReply, IsUnanswered, Opens}
use Rattle.http_exchanges.proofs.Exchanges.{opens_refused, refused_reply}
use Rattle.http_exchanges.proofs.Leaving.{after_refused, never_left}
use Rattle.http_exchanges.proofs.OwnTurns.{grows_none}
use Rattle.http_exchanges.proofs.service.respond.Goals as goal

pub returns-in-Bad-clause-grown : goal.returns-in-Bad-clause-grown
returns-in-Bad-clause-grown g c = grows_none (known_by c.args.pass.now c.args.viewer.now)

pub returns-in-Bad-clause-link : goal.returns-in-Bad-clause-link
returns-in-Bad-clause-link g c = after_refused c.refused.result (g.L.Link.state c.args.link.now) c.refused.ensures.left

pub returns-in-Bad-clause-reply : goal.returns-in-Bad-clause-reply
returns-in-Bad-clause-reply g c =
    let shows = g.C.SharedCluster.shows in let agrees = g.C.SharedCluster.agrees in let k = connection g.L.Link.state c.args.service.now in let v = known_by c.args.pass.now c.args.viewer.now in
    subst (λ (a : Asked). IfOk c.refused.result (λ reply. IsReply shows agrees k a c.args.n reply v v)) (sym c.in-Bad.is) (refused_reply shows agrees k c.in-Bad.why c.args.n c.refused.result v v c.refused.ensures.reply)

pub returns-in-Bad-clause-left : goal.returns-in-Bad-clause-left
returns-in-Bad-clause-left g c =
    never_left (IsUnanswered g.C.SharedCluster.shows g.C.SharedCluster.agrees (connection g.L.Link.state c.args.service.now) c.args.asked c.args.n c.args.pass.now.seat.me.0.mine (known_by c.args.pass.now c.args.viewer.now)) c.refused.result c.refused.ensures.left

pub returns-in-Good-clause-opened : goal.returns-in-Good-clause-opened
returns-in-Good-clause-opened g c = subst (λ (a : Asked). Opens a c.reply_by.result c.args.pass.now.seat.me.0.mine c.reply_by.new.pass.seat.me.0.mine) (sym c.in-Good.is) c.reply_by.ensures.opened

pub returns-in-Bad-clause-opened : goal.returns-in-Bad-clause-opened
returns-in-Bad-clause-opened g c = let mine = c.args.pass.now.seat.me.0.mine in subst (λ (a : Asked). Opens a c.refused.result mine mine) (sym c.in-Bad.is) (opens_refused c.in-Bad.why c.refused.result mine)

pub returns-in-Good-clause-unturned : goal.returns-in-Good-clause-unturned
returns-in-Good-clause-unturned g c = subst (λ (a : Asked). TakesNoTurn a c.args.pass.now c.reply_by.new.pass) (sym c.in-Good.is) c.reply_by.ensures.unturned

pub returns-in-Bad-clause-unturned : goal.returns-in-Bad-clause-unturned
returns-in-Bad-clause-unturned g c = subst (λ (a : Asked). TakesNoTurn a c.args.pass.now c.args.pass.now) (sym c.in-Bad.is) refl
