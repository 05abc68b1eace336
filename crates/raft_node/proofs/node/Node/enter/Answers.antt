use Rattle.std.proofs.Common.{ap, sym, ◌∙◌}
use Rattle.raft_node.specs.Nodes.{planned_of}
use Rattle.raft_node.specs.Steps.{stored}
use Rattle.raft_node.proofs.Stepping.{enter_fails, enter_lacks, enter_plan, entered}
use Rattle.raft_node.proofs.node.Node.enter.Goals as goal

pub returns-then-self-clause-halts : goal.returns-then-self-clause-halts
returns-then-self-clause-halts g c = λ _.
    let n = c.args.self.now in let k = c.self.inside.keeper in
    enter_fails n c.make.new.self c.args.number c.args.command (planned_of n.store n.log c.in_ok-planned.planned) c.in_ok-sent.sent c.requires
    (enter_plan n (stored (g.K.Keeper.held k) (g.K.Keeper.armed k) (g.K.Keeper.faults k) (g.K.Keeper.sure k)) c.self.inside.state c.in_ok-state.state c.self.inside.log c.as_slice.result.now c.in_ok-planned.planned c.args.number c.args.command
    c.self.view_is c.as_slice.ensures c.in_ok-state.ensures c.in_ok-planned.ensures)
    c.in_ok-sent.ensures.ok (sym (ap (λ z. z.halted) c.self-2.view_is) ∙ c.if-self.true)

pub returns-clause-ok : goal.returns-clause-ok
returns-clause-ok g c =
    let n = c.args.self.now in let k = c.self.inside.keeper in
    entered n c.make.new.self c.args.number c.args.command (planned_of n.store n.log c.in_ok-planned.planned) c.in_ok-sent.sent c.requires
    (enter_plan n (stored (g.K.Keeper.held k) (g.K.Keeper.armed k) (g.K.Keeper.faults k) (g.K.Keeper.sure k)) c.self.inside.state c.in_ok-state.state c.self.inside.log c.as_slice.result.now c.in_ok-planned.planned c.args.number c.args.command
    c.self.view_is c.as_slice.ensures c.in_ok-state.ensures c.in_ok-planned.ensures)
    c.in_ok-sent.ensures.ok (sym (ap (λ z. z.halted) c.self-2.view_is) ∙ c.if-self.false)

pub returns-in_err-sent-clause-memory : goal.returns-in_err-sent-clause-memory
returns-in_err-sent-clause-memory g c = λ _.
    let n = c.args.self.now in let k = c.self.inside.keeper in
    enter_lacks n c.make.new.self c.args.number c.args.command (planned_of n.store n.log c.in_ok-planned.planned)
    (enter_plan n (stored (g.K.Keeper.held k) (g.K.Keeper.armed k) (g.K.Keeper.faults k) (g.K.Keeper.sure k)) c.self.inside.state c.in_ok-state.state c.self.inside.log c.as_slice.result.now c.in_ok-planned.planned c.args.number c.args.command
    c.self.view_is c.as_slice.ensures c.in_ok-state.ensures c.in_ok-planned.ensures)
    c.in_err-sent.ensures.memory
