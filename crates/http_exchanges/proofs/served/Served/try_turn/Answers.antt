use Rattle.http_exchanges.proofs.Agreeing.{prefix_self}
use Rattle.http_exchanges.proofs.Clocks.{goes_still}
use Rattle.http_exchanges.proofs.MarkLists.{quiet_short}
use Rattle.http_exchanges.proofs.OwnTurns.{turns_or}
use Rattle.http_exchanges.proofs.served.Served.try_turn.Goals as goal

pub returns-in-Ok-clause-turned : goal.returns-in-Ok-clause-turned
returns-in-Ok-clause-turned g c =
    let C = g.C.SharedCluster in
    turns_or C.marks C.idle C.servers C.agents C.clock C.shows c.args.self.now.last_ms c.args.now c.args.ask c.args.number c.exchange.result c.args.self.now.cluster c.ready.new.self.cluster c.exchange.new.self.cluster
    c.in-Ok.ensures.quiet c.in-Ok.ensures.readied c.exchange.ensures.exchanged

pub returns-in-Err-clause-turned : goal.returns-in-Err-clause-turned
returns-in-Err-clause-turned g c = quiet_short c.args.ask _ _ c.in-Err.ensures.quiet

pub returns-in-Ok-clause-time : goal.returns-in-Ok-clause-time
returns-in-Ok-clause-time g c = goes_still _ _ _ c.args.now _ _ _ c.in-Ok.ensures.time c.exchange.ensures.still

pub returns-in-Err-clause-viewed : goal.returns-in-Err-clause-viewed
returns-in-Err-clause-viewed g c = prefix_self c.args.viewer.now
