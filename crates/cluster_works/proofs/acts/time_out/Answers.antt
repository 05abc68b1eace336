use Rattle.cat_model.specs.declared.request.Event.TheVariants as event
use Rattle.raft_model.specs.Rules.{Timeout}
use Rattle.cluster_works.proofs.Acting.{acts_by, input_here}
use Rattle.cluster_works.proofs.acts.time_out.Goals as goal

pub returns : goal.returns
returns g c = λ gs wt s.
    acts_by gs wt c.args.server (event.Timeout c.args.server) Timeout c.args.servers.now.world c.args.servers.now.servers c.timeout-made.new.self c.seat.new.servers c.args.requests.now c.end.new.requests
    c.see-before.result c.see-now.result c.agreed.result.now c.timeout-made.result c.end.result s c.timeout-made.ensures.servers tt (input_here gs wt c.args.servers.now.world c.args.server Timeout)
    c.timeout-made.ensures.ok c.timeout-made.ensures.memory c.see-before.ensures.seen c.see-now.ensures.seen c.seat.ensures c.agreed.ensures c.end.ensures
