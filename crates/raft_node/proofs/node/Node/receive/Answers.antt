use Rattle.std.proofs.Common.{◌≡◌, ◌∙◌, ap, refl, subst, sym, true, List}
use Rattle.std.proofs.lemmas.Result.{IfOk-weaker, on_err_weaker}
use Rattle.raft_model.specs.declared.message.Sent.{Sent}
use Rattle.raft_model.specs.Log.{Log}
use Rattle.raft_model.specs.Node.{Node}
use Rattle.raft_model.specs.Rules.{Receive, received}
use Rattle.raft_node.specs.Nodes.{planned_of, seen, Plans}
use Rattle.raft_node.specs.Steps.{FindsNoMemory, Makes, Remains, Steps, stored}
use Rattle.raft_node.proofs.Receipts.{halted_steps, planned_does, remains_by, steps_by}
use Rattle.raft_node.proofs.node.Node.receive.Goals as goal

pub returns-then-self-clause-ok : goal.returns-then-self-clause-ok
returns-then-self-clause-ok g c =
    let n = c.args.self.now in
    let h : n.halted ≡ true = sym (ap (λ (m : Node). m.halted) c.self.view_is) ∙ c.if-self.true in
    subst (λ (sent : List Sent). Steps n (Receive c.args.from c.args.message.now) n sent) (sym c.new.ensures) (halted_steps n (Receive c.args.from c.args.message.now) h)

pub returns-clause-ok : goal.returns-clause-ok
returns-clause-ok g c =
    let k = c.self.inside.keeper in let state = c.self.inside.state in let log = c.self.inside.log in let planned = c.in_ok-planned.planned in
    let input = Receive c.args.from c.args.message.now in
    let v = seen (stored (g.K.Keeper.held k) (g.K.Keeper.armed k) (g.K.Keeper.faults k) (g.K.Keeper.sure k)) state log in
    let plan = subst (λ (z : Log). Plans (λ n. received n c.args.from c.args.message.now) state z planned) c.as_slice-log.ensures c.in_ok-planned.ensures.plan in
    let d = planned_does v state log c.args.from c.args.message.now planned refl c.if-self.false plan in
    IfOk-weaker c.make.result (λ sent. Makes v (planned_of v.store log planned) c.make.new.self sent) (λ sent. Steps c.args.self.now input c.make.new.self sent)
    (λ sent m. subst (λ (n : Node). Steps n input c.make.new.self sent) c.self.view_is (steps_by v input (planned_of v.store log planned) c.make.new.self sent d m)) c.make.ensures.ok

pub returns-clause-memory : goal.returns-clause-memory
returns-clause-memory g c =
    let k = c.self.inside.keeper in let state = c.self.inside.state in let log = c.self.inside.log in let planned = c.in_ok-planned.planned in
    let input = Receive c.args.from c.args.message.now in
    let v = seen (stored (g.K.Keeper.held k) (g.K.Keeper.armed k) (g.K.Keeper.faults k) (g.K.Keeper.sure k)) state log in
    let plan = subst (λ (z : Log). Plans (λ n. received n c.args.from c.args.message.now) state z planned) c.as_slice-log.ensures c.in_ok-planned.ensures.plan in
    let d = planned_does v state log c.args.from c.args.message.now planned refl c.if-self.false plan in
    on_err_weaker {P = Remains v (planned_of v.store log planned) c.make.new.self} {Q = FindsNoMemory c.args.self.now input c.make.new.self} c.make.result
    (λ m. subst (λ (n : Node). FindsNoMemory n input c.make.new.self) c.self.view_is (remains_by v input (planned_of v.store log planned) c.make.new.self d m)) c.make.ensures.memory
