use Rattle.std.proofs.Common.{rules}
use Rattle.cat_model.specs.declared.request.Event.TheVariants as event
use Rattle.cluster_works.proofs.Acting.{nothing_acted}
use Rattle.cluster_works.proofs.Restarts.{restart_acts, still_awake, still_counted, still_numbered}
use Rattle.cluster_works.proofs.acts.restart.Goals as goal

pub end_held-requires-clause-event : goal.end_held-requires-clause-event
end_held-requires-clause-event g c = still_counted c.see-now.result.halted c.args.server c.see-before.result.agreed _ c.agreed.result.now c.args.requests.now c.mark.new.requests (search rules) c.mark.ensures

pub end_held-requires-clause-numbered : goal.end_held-requires-clause-numbered
end_held-requires-clause-numbered g c =
    still_numbered c.args.watch.now c.see-now.result.halted c.args.server c.see-before.result.agreed c.agreed.result.now c.args.servers.now.world c.args.servers.now.servers c.args.requests.now c.mark.new.requests c.requires.stands c.mark.ensures

pub end_held-requires-clause-awake : goal.end_held-requires-clause-awake
end_held-requires-clause-awake g c = still_awake c.args.watch.now c.see-now.result.halted c.args.server c.see-before.result.agreed c.agreed.result.now c.args.requests.now c.mark.new.requests c.requires.awake c.mark.ensures

pub returns-in-Err : goal.returns-in-Err
returns-in-Err g c = λ gs. nothing_acted gs c.args.watch.now c.args.server (event.Restart c.args.server) c.args.servers.now c.restart.new.self c.args.requests.now c.in-Err.ensures.memory c.requires.stands

pub returns : goal.returns
returns g c = λ gs.
    restart_acts gs c.args.watch.now c.args.server c.args.servers.now.world c.restart.new.self.world c.args.servers.now.servers c.restart.new.self.servers c.args.requests.now c.mark.new.requests c.end_held.new.requests c.see-before.result c.see-now.result c.agreed.result.now
    c.requires.awake c.requires.stands c.in-Ok.ensures.begins c.in-Ok.ensures.ok c.see-before.ensures.seen c.see-now.ensures.seen c.agreed.ensures c.mark.ensures c.end_held.ensures
