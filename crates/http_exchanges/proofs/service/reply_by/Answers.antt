use Rattle.std.proofs.Common.{refl, sym, ◌∙◌}
use Rattle.cat_model.specs.declared.request.Asked.TheVariants.{Good}
use Rattle.http_exchanges.specs.Knowing.{known_by}
use Rattle.http_exchanges.specs.Services.{connection}
use Rattle.http_exchanges.specs.Serving.{IsUnanswered}
use Rattle.http_exchanges.proofs.Exchanges.{asked_reply, opens_viewed, viewed_reply}
use Rattle.http_exchanges.proofs.Leaving.{after_refused, never_left}
use Rattle.http_exchanges.proofs.OwnTurns.{grows_read}
use Rattle.http_exchanges.proofs.service.reply_by.Goals as goal

pub ask-requires-clause-unviewed : goal.ask-requires-clause-unviewed
ask-requires-clause-unviewed g c = sym c.is_viewed.ensures ∙ c.if-not-is_viewed.true

pub returns-then-not-is_viewed-clause-reply : goal.returns-then-not-is_viewed-clause-reply
returns-then-not-is_viewed-clause-reply g c =
    let k = connection g.L.Link.state c.args.service.now in
    asked_reply g.C.SharedCluster.shows g.C.SharedCluster.agrees k c.args.request c.args.n c.ask.result (known_by c.args.pass.now c.args.viewer.now) (known_by c.ask.new.pass c.ask.new.viewer) (sym c.is_viewed.ensures ∙ c.if-not-is_viewed.true) c.ask.ensures.reply

pub returns-clause-reply : goal.returns-clause-reply
returns-clause-reply g c =
    let k = connection g.L.Link.state c.args.service.now in
    viewed_reply g.C.SharedCluster.shows g.C.SharedCluster.agrees k c.args.request c.args.n c.view-seen.result (known_by c.args.pass.now c.args.viewer.now) (known_by c.args.pass.now c.view-seen.new.viewer) (sym c.is_viewed.ensures ∙ c.if-not-is_viewed.false) c.view-seen.ensures.reply

pub returns-clause-grown : goal.returns-clause-grown
returns-clause-grown g c = grows_read (known_by c.args.pass.now c.args.viewer.now) c.view-seen.new.viewer c.view-seen.ensures.grown

pub returns-clause-link : goal.returns-clause-link
returns-clause-link g c = after_refused c.view-seen.result (g.L.Link.state c.args.link.now) c.view-seen.ensures.left

pub returns-clause-left : goal.returns-clause-left
returns-clause-left g c =
    let k = connection g.L.Link.state c.args.service.now in
    never_left (IsUnanswered g.C.SharedCluster.shows g.C.SharedCluster.agrees k (Good c.args.request) c.args.n c.args.pass.now.seat.me.0.mine (known_by c.args.pass.now c.view-seen.new.viewer)) c.view-seen.result c.view-seen.ensures.left

pub returns-clause-opened : goal.returns-clause-opened
returns-clause-opened g c = opens_viewed c.args.request c.view-seen.result c.args.pass.now.seat.me.0.mine (sym c.is_viewed.ensures ∙ c.if-not-is_viewed.false)

pub returns-clause-unturned : goal.returns-clause-unturned
returns-clause-unturned g c = λ same. refl

pub returns-then-not-is_viewed-clause-unturned : goal.returns-then-not-is_viewed-clause-unturned
returns-then-not-is_viewed-clause-unturned g c = λ same. let no = sym c.is_viewed.ensures ∙ c.if-not-is_viewed.true in absurd (cc (same, no))
