use Rattle.cluster_works.proofs.Rounds.{first_waits, none_wait}
use Rattle.cluster_works.proofs.wakes.is_first_past.Goals as goal

pub returns-in-Some : goal.returns-in-Some
returns-in-Some g c = first_waits c.args.servers.now c.args.server c.in-Some.term c.in-Some.number c.args.watch.now.watch.rounds c.is_round_past.result c.in-Some.ensures.some c.is_round_past.ensures

pub returns-in-None : goal.returns-in-None
returns-in-None g c = λ e. none_wait c.args.servers.now c.args.server c.args.watch.now.watch.rounds c.in-None.ensures.none
