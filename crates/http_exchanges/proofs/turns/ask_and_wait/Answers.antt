use Rattle.http_exchanges.specs.declared.cluster.Ask.{Ask}
use Rattle.http_exchanges.specs.Knowing.{known_by}
use Rattle.http_exchanges.specs.Waiting.{Stands}
use Rattle.http_exchanges.proofs.OwnTurns.{behind_or, held_or, opened_by}
use Rattle.http_exchanges.proofs.turns.ask_and_wait.Goals as goal

pub returns-in-Ok-clause-behind : goal.returns-in-Ok-clause-behind
returns-in-Ok-clause-behind g c =
    behind_or c.in-Ok.turned.number c.args.ask c.args.pass.now.seat.me.0.seen (known_by c.first_turn.new.pass c.first_turn.new.viewer) (known_by c.wait_for.new.pass c.wait_for.new.viewer) c.wait_for.result c.wait_for.ensures.number c.in-Ok.ensures.behind c.wait_for.ensures.grown

pub returns-in-Ok-clause-opened : goal.returns-in-Ok-clause-opened
returns-in-Ok-clause-opened g c =
    opened_by c.in-Ok.turned.number c.args.pass.now.seat.me.0.mine c.first_turn.new.pass.seat.me.0.mine c.wait_for.new.pass.seat.me.0.mine c.wait_for.result c.in-Ok.ensures.opened c.wait_for.ensures.opened c.wait_for.ensures.number

pub returns-in-Ok-clause-left : goal.returns-in-Ok-clause-left
returns-in-Ok-clause-left g c =
    held_or (λ (a : Ask). Stands g.C.SharedCluster.shows c.in-Ok.turned.number a c.in-Ok.turned.got (known_by c.first_turn.new.pass c.first_turn.new.viewer)) c.in-Ok.turned.number c.args.ask c.args.pass.now.seat.me.0.mine c.first_turn.new.pass.seat.me.0.mine
    (known_by c.wait_for.new.pass c.wait_for.new.viewer) c.wait_for.result c.in-Ok.ensures.opened c.wait_for.ensures.opened c.in-Ok.ensures.stands c.wait_for.ensures.left
