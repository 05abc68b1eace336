use Rattle.std.proofs.Common.{sym, ◌∙◌, ap}
use Rattle.raft_node.specs.Steps.{stored}
use Rattle.raft_node.proofs.Stepping.{confirmed_is, confirmed_led, confirmed_other}
use Rattle.raft_node.proofs.node.Node.confirmed.Goals as goal

pub returns-then-not-leads : goal.returns-then-not-leads
returns-then-not-leads g c = confirmed_led c.args.self.now c.args.round.now (sym c.leads.ensures.leads ∙ c.if-not-leads.true)

pub returns-then-self-round : goal.returns-then-self-round
returns-then-self-round g c = confirmed_other c.args.self.now c.args.round.now (λ e. c.if-self-round.true (ap (λ n. n.term) c.self.view_is ∙ e))

pub returns : goal.returns
returns g c =
    let k = c.self.inside.keeper in
    confirmed_is c.args.self.now (stored (g.K.Keeper.held k) (g.K.Keeper.armed k) (g.K.Keeper.faults k) (g.K.Keeper.sure k)) c.self.inside.state c.self.inside.log c.args.round.now c.deref.result.now c.have_reached.result c.self.view_is c.deref.ensures.value
    (sym c.leads.ensures.leads ∙ c.if-not-leads.false) c.if-self-round.false c.have_reached.ensures
