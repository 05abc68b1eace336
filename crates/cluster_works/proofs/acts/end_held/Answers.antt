use Rattle.cluster_works.proofs.Restarts.{numbers_all}
use Rattle.cluster_works.proofs.acts.end_held.Goals as goal

pub end_among-requires-clause-numbers : goal.end_among-requires-clause-numbers
end_among-requires-clause-numbers c =
    numbers_all c.args.watch.now c.args.server c.asked.result c.args.requests.now c.awake.result.now c.asked.ensures c.awake.ensures (c.covers.ensures c.if-covers.true) c.requires.numbered c.requires.awake
