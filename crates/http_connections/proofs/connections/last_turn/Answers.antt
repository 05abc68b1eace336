use Rattle.std.proofs.Common.{arith, subst}
use Rattle.turn_lock.specs.Lists.{Among, numbers}
use Rattle.http_exchanges.specs.Marks.{opens}
use Rattle.http_connections.proofs.connections.last_turn.Goals as goal

pub returns-clause-whole : goal.returns-clause-whole
returns-clause-whole g c = λ all n a. c.take-turn.ensures.whole (omega (arith, all)) n (subst (λ (s : _). Among n (numbers opens (g.C.SharedCluster.marks s.cluster))) c.into_state-served.ensures a)
