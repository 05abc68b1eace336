use Rattle.cat_model.specs.declared.request.Event.TheVariants as event
use Rattle.raft_model.specs.Rules.{Beat}
use Rattle.cluster_works.proofs.Acting.{acts_by, input_here, working_whole}
use Rattle.cluster_works.proofs.acts.beat.Goals as goal

pub returns : goal.returns
returns g c = λ gs wt s.
    let found = working_whole gs wt c.beat-made.result c.args.servers.now.world c.args.server Beat c.beat-made.new.self.world c.beat-made.ensures.ok c.beat-made.ensures.memory in
    acts_by gs wt c.args.server (event.Beat c.args.server) Beat c.args.servers.now.world c.args.servers.now.servers c.beat-made.new.self c.seat.new.servers c.args.requests.now c.end.new.requests
    c.see-before.result c.see-now.result c.agreed.result.now c.beat-made.result c.end.result s c.beat-made.ensures.servers tt (input_here gs wt c.args.servers.now.world c.args.server Beat)
    found.0 found.1 c.see-before.ensures.seen c.see-now.ensures.seen c.seat.ensures c.agreed.ensures c.end.ensures
