use Rattle.std.proofs.Common.{[], ap, refl, subst, sym, ◌∙◌}
use Rattle.std.proofs.lemmas.Result.{IfOk-weaker}
use Rattle.raft_model.specs.Rules.{Beat}
use Rattle.raft_model.specs.Step.{NodeStep, Works}
use Rattle.raft_node.specs.Nodes.{seen}
use Rattle.raft_node.specs.Steps.{stored}
use Rattle.raft_node.proofs.Stepping.{beat_quiet, beat_works, leader_is, leader_runs, quiet_works}
use Rattle.raft_node.proofs.node.Node.beat.Goals as goal

pub returns-then-not-leads-clause-ok : goal.returns-then-not-leads-clause-ok
returns-then-not-leads-clause-ok g c =
    subst (λ out. NodeStep Works c.args.self.now Beat c.args.self.now out) (sym c.new.ensures) (quiet_works c.args.self.now Beat (beat_quiet c.args.self.now (sym c.leads.ensures.leads ∙ c.if-not-leads.true)))

pub returns-clause-ok : goal.returns-clause-ok
returns-clause-ok g c =
    let n = c.args.self.now in let keeper = c.self.inside.keeper in let store = stored (g.K.Keeper.held keeper) (g.K.Keeper.armed keeper) (g.K.Keeper.faults keeper) (g.K.Keeper.sure keeper) in
    let leads = sym c.leads.ensures.leads ∙ c.if-not-leads.false in
    IfOk-weaker c.append_all.result _ _
    (λ sent s. beat_works n store c.self.inside.state c.as_slice.result.now [] sent (ap (seen store c.self.inside.state) c.as_slice.ensures ∙ c.self.view_is) refl
    (leader_runs n.halted n.role c.leads.ensures.halted leads) (leader_is n.role leads) s)
    c.append_all.ensures
