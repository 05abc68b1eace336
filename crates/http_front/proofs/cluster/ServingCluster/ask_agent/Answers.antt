use Rattle.http_front.proofs.Steps.{ask_serves, asks, asks_cut, asks_still, is_agent}
use Rattle.http_front.proofs.cluster.ServingCluster.ask_agent.Goals as goal

pub invariant_of-self : goal.invariant_of-self
invariant_of-self g c = ask_serves _ _ _ c.args.ask.now c.ask.result c.self.invariant (is_agent _ _ _ c.self.invariant c.requires.0) c.ask.ensures.whole c.ask.ensures.cut

pub returns-clause-asked : goal.returns-clause-asked
returns-clause-asked g c = rw (← c.self.view_is) (asks _ _ c.args.ask.now c.ask.result c.ask.ensures.whole c.ask.ensures.number)

pub returns-clause-cut : goal.returns-clause-cut
returns-clause-cut g c = rw (← c.self.view_is) (asks_cut _ _ c.args.ask.now c.ask.result c.ask.ensures.cut)

pub returns-clause-unticked : goal.returns-clause-unticked
returns-clause-unticked g c = rw (← c.self.view_is) (asks_still _ _ c.args.ask.now c.ask.result c.ask.ensures.whole c.ask.ensures.cut)
