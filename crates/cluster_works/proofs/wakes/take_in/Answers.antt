use Rattle.cluster_works.proofs.Recovering.{taken_stands}
use Rattle.cluster_works.proofs.wakes.take_in.Goals as goal

pub returns-clause-stands : goal.returns-clause-stands
returns-clause-stands c =
    taken_stands c.args.watch.now c.take_in.new.self c.recover.new.self c.args.requests.now c.asked.result _ c.asked.ensures c.held.ensures
    c.take_in.ensures.kept c.take_in.ensures.servers c.take_in.ensures.lines c.take_in.ensures.seen c.recover.ensures.awake c.recover.ensures.servers c.recover.ensures.seen
