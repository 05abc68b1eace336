use Rattle.std.proofs.Common.{sym, subst}
use Rattle.http_exchanges.specs.Knowing.{known_by}
use Rattle.http_exchanges.specs.Services.{connection}
use Rattle.http_exchanges.specs.Turns.{MayAsk}
use Rattle.http_exchanges.proofs.Exchanges.{answered_by, held_by, opens_asked, opens_none}
use Rattle.http_exchanges.proofs.OwnTurns.{grows_none}
use Rattle.http_exchanges.proofs.service.ask.Goals as goal

pub ask_and_wait-requires-clause-may : goal.ask_and_wait-requires-clause-may
ask_and_wait-requires-clause-may g c = subst (MayAsk g.C.SharedCluster.agents) (sym c.in-Ok.ensures) (c.requires.agent, c.requires.taken)

pub returns-in-Ok-clause-reply : goal.returns-in-Ok-clause-reply
returns-in-Ok-clause-reply g c =
    let k = connection g.L.Link.state c.args.service.now in
    answered_by g.C.SharedCluster.shows g.C.SharedCluster.agrees k c.args.request c.args.n c.in-Ok.ask c.ask_and_wait.result (known_by c.args.pass.now c.args.viewer.now) (known_by c.ask_and_wait.new.pass c.ask_and_wait.new.viewer) c.in-Ok.ensures c.ask_and_wait.ensures.behind c.ask_and_wait.ensures.answered c.ask_and_wait.ensures.learned

pub returns-in-Ok-clause-left : goal.returns-in-Ok-clause-left
returns-in-Ok-clause-left g c =
    let k = connection g.L.Link.state c.args.service.now in
    held_by g.C.SharedCluster.shows g.C.SharedCluster.agrees k c.args.request c.args.n c.in-Ok.ask c.ask_and_wait.result c.args.pass.now.seat.me.0.mine (known_by c.ask_and_wait.new.pass c.ask_and_wait.new.viewer) c.in-Ok.ensures c.requires.unviewed c.ask_and_wait.ensures.left

pub returns-in-Ok-clause-opened : goal.returns-in-Ok-clause-opened
returns-in-Ok-clause-opened g c = opens_asked c.args.request c.ask_and_wait.result c.args.pass.now.seat.me.0.mine c.ask_and_wait.new.pass.seat.me.0.mine c.requires.unviewed c.ask_and_wait.ensures.opened

pub returns-in-Err-clause-opened : goal.returns-in-Err-clause-opened
returns-in-Err-clause-opened g c = opens_none c.args.pass.now.seat.me.0.mine

pub returns-in-Err-clause-grown : goal.returns-in-Err-clause-grown
returns-in-Err-clause-grown g c = grows_none (known_by c.args.pass.now c.args.viewer.now)
