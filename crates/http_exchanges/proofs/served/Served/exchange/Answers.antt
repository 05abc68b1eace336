use Rattle.http_exchanges.proofs.Agreeing.{prefix_self}
use Rattle.http_exchanges.proofs.Clocks.{still_still}
use Rattle.http_exchanges.proofs.OwnTurns.{exchanges_or}
use Rattle.http_exchanges.proofs.served.Served.exchange.Goals as goal

pub returns-in-Ok-clause-exchanged : goal.returns-in-Ok-clause-exchanged
returns-in-Ok-clause-exchanged g c =
    let C = g.C.SharedCluster in
    exchanges_or C.marks C.idle C.servers C.agents C.clock C.shows c.args.self.now.last_ms c.args.self.now.last_ms c.args.ask c.args.number c.in-Ok.number c.show_and_collect.result c.args.self.now.cluster c.ask_and_settle.new.self.cluster c.show_and_collect.new.self.cluster
    c.in-Ok.ensures.asks c.show_and_collect.ensures.got c.show_and_collect.ensures.none c.show_and_collect.ensures.idle

pub returns-in-Ok-clause-still : goal.returns-in-Ok-clause-still
returns-in-Ok-clause-still g c = still_still _ _ _ _ _ _ c.in-Ok.ensures.still c.show_and_collect.ensures.still

pub returns-in-Err-clause-viewed : goal.returns-in-Err-clause-viewed
returns-in-Err-clause-viewed g c = prefix_self c.args.viewer.now
