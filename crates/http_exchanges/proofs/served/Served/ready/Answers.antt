use Rattle.http_exchanges.proofs.Clocks.{goes_still}
use Rattle.http_exchanges.proofs.MarkLists.{quiet_quiet}
use Rattle.http_exchanges.proofs.served.Served.ready.Goals as goal

pub returns-in-Ok-settle-clause-quiet : goal.returns-in-Ok-settle-clause-quiet
returns-in-Ok-settle-clause-quiet g c = quiet_quiet _ _ _ c.in-Ok.ensures.quiet c.settle.ensures.quiet

pub returns-in-Err-settle-clause-quiet : goal.returns-in-Err-settle-clause-quiet
returns-in-Err-settle-clause-quiet g c = quiet_quiet _ _ _ c.in-Ok.ensures.quiet c.settle.ensures.quiet

pub returns-in-Ok-settle-clause-time : goal.returns-in-Ok-settle-clause-time
returns-in-Ok-settle-clause-time g c = goes_still _ _ _ c.args.now _ _ _ c.in-Ok.ensures.time c.settle.ensures.still

pub returns-in-Err-settle-clause-time : goal.returns-in-Err-settle-clause-time
returns-in-Err-settle-clause-time g c = goes_still _ _ _ c.args.now _ _ _ c.in-Ok.ensures.time c.settle.ensures.still

pub returns-in-Ok-settle-clause-readied : goal.returns-in-Ok-settle-clause-readied
returns-in-Ok-settle-clause-readied g c = record {
  timed = c.advance.new.self.cluster;
  quiet = c.in-Ok.ensures.quiet;
  by = c.in-Ok.ensures.time.1;
  all = c.in-Ok.ensures.all;
  settled = c.in-Ok-settle.ensures.settled;
}
