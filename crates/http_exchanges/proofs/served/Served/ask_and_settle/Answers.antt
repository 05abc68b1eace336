use Rattle.http_exchanges.proofs.MarkLists.{makes_short, short_before}
use Rattle.http_exchanges.proofs.Clocks.{still_still}
use Rattle.http_exchanges.proofs.served.Served.ask_and_settle.Goals as goal

pub returns-in-Ok-settle-clause-asks : goal.returns-in-Ok-settle-clause-asks
returns-in-Ok-settle-clause-asks g c = record {
  asked = c.make.new.self.cluster;
  made = c.in-Ok.ensures.made;
  still = c.in-Ok.ensures.still.1;
  settled = c.in-Ok-settle.ensures.settled;
}

pub returns-in-Err-settle-clause-asks : goal.returns-in-Err-settle-clause-asks
returns-in-Err-settle-clause-asks g c = short_before c.args.ask _ _ _ (makes_short c.args.ask c.args.number c.in-Ok.number _ _ c.in-Ok.ensures.made) c.settle.ensures.quiet

pub returns-in-Ok-settle-clause-still : goal.returns-in-Ok-settle-clause-still
returns-in-Ok-settle-clause-still g c = still_still _ _ _ _ _ _ c.in-Ok.ensures.still c.settle.ensures.still

pub returns-in-Err-settle-clause-still : goal.returns-in-Err-settle-clause-still
returns-in-Err-settle-clause-still g c = still_still _ _ _ _ _ _ c.in-Ok.ensures.still c.settle.ensures.still
