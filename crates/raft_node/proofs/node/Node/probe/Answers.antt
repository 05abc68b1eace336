use Rattle.std.proofs.Common.{[], ap, refl, sym, ◌+◌, ◌++◌, ◌∙◌}
use Rattle.raft_model.specs.Node.{Node}
use Rattle.raft_model.specs.Rules.{append_all}
use Rattle.raft_node.specs.Nodes.{nowhere, seen}
use Rattle.raft_node.specs.Steps.{stored}
use Rattle.raft_node.proofs.Made.{kept_same}
use Rattle.raft_node.proofs.Stepping.{leader_is, leader_runs, probe_works}
use Rattle.raft_node.proofs.node.Node.probe.Goals as goal

pub invariant_of-self : goal.invariant_of-self
invariant_of-self g c =
    let copy = c.in_ok-state.state in let same = c.in_ok-state.ensures in let inside = c.self.inside in
    kept_same (g.K.Keeper.held inside.keeper) inside.state (record copy { round = inside.state.round + 1 }) inside.log inside.counted
    (ap (λ n. n.commit) same) (ap (λ n. n.halted) same) (ap (λ n. n.role) same) c.self.invariant

pub returns-clause-ok : goal.returns-clause-ok
returns-clause-ok g c =
    let copy = c.in_ok-state.state in let same = c.in_ok-state.ensures in let inside = c.self.inside in let n = c.args.self.now in
    let leads = sym c.leads.ensures.leads ∙ c.if-not-leads.false in (
      leader_is n.role leads,
      probe_works n (stored (g.K.Keeper.held inside.keeper) (g.K.Keeper.armed inside.keeper) (g.K.Keeper.faults inside.keeper) (g.K.Keeper.sure inside.keeper)) inside.state (record copy { round = inside.state.round + 1 }) inside.log [] c.in_ok-sent.sent
          c.self.view_is refl (leader_runs n.halted n.role c.leads.ensures.halted leads) (leader_is n.role leads) (ap (λ (z : Node). record z { round = inside.state.round + 1 }) same)
          (c.in_ok-sent.ensures ∙ ap (λ z. (append_all (seen nowhere (record copy { round = inside.state.round + 1 }) (z ++ []))).sent) c.as_slice.ensures),
    )
