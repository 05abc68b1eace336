use Rattle.std.proofs.Common.{ap, subst, sym, ◌∙◌, inl}
use Rattle.std.proofs.lemmas.Result.{IfOk-weaker}
use Rattle.raft_model.specs.Rules.{Timeout}
use Rattle.raft_node.specs.Nodes.{elects, planned_of, seen}
use Rattle.raft_node.specs.Steps.{Steps, stored}
use Rattle.raft_node.proofs.Stepping.{memory_as, plan_of, quiet_works, steps_as, timeout_elects, timeout_quiet, weaker_err}
use Rattle.raft_node.proofs.node.Node.timeout.Goals as goal

pub returns-then-not-may_stand-clause-ok : goal.returns-then-not-may_stand-clause-ok
returns-then-not-may_stand-clause-ok g c =
    subst (Steps c.args.self.now Timeout c.args.self.now) (sym c.new.ensures) (inl (quiet_works c.args.self.now Timeout (timeout_quiet c.args.self.now (sym c.may_stand.ensures ∙ c.if-not-may_stand.true))))

pub returns-clause-ok : goal.returns-clause-ok
returns-clause-ok g c =
    let n = c.args.self.now in let k = c.self.inside.keeper in let store = stored (g.K.Keeper.held k) (g.K.Keeper.armed k) (g.K.Keeper.faults k) (g.K.Keeper.sure k) in
    let plan = plan_of elects n store c.self.inside.state c.as_slice.result.now c.in_ok-planned.planned (ap (seen store c.self.inside.state) c.as_slice.ensures ∙ c.self.view_is) c.in_ok-planned.ensures in
    IfOk-weaker c.make.result _ _
    (λ sent h. steps_as n c.make.new.self Timeout (planned_of n.store n.log c.in_ok-planned.planned) sent (plan ∙ sym (timeout_elects n (sym c.may_stand.ensures ∙ c.if-not-may_stand.false))) h)
    c.make.ensures.ok

pub returns-clause-memory : goal.returns-clause-memory
returns-clause-memory g c =
    let n = c.args.self.now in let k = c.self.inside.keeper in let store = stored (g.K.Keeper.held k) (g.K.Keeper.armed k) (g.K.Keeper.faults k) (g.K.Keeper.sure k) in
    let plan = plan_of elects n store c.self.inside.state c.as_slice.result.now c.in_ok-planned.planned (ap (seen store c.self.inside.state) c.as_slice.ensures ∙ c.self.view_is) c.in_ok-planned.ensures in
    weaker_err c.make.result _ _
    (memory_as n c.make.new.self Timeout (planned_of n.store n.log c.in_ok-planned.planned) (plan ∙ sym (timeout_elects n (sym c.may_stand.ensures ∙ c.if-not-may_stand.false))))
    c.make.ensures.memory
