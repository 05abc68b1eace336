use Rattle.std.proofs.Common.{inl, refl, sym, ◌∙◌}
use Rattle.raft_node.proofs.Stepping.{leads_not}
use Rattle.raft_node.proofs.node.Node.admits.Goals as goal

pub returns-then-halted-clause-fault : goal.returns-then-halted-clause-fault
returns-then-halted-clause-fault g c = λ number. inl (sym c.halted.ensures ∙ c.if-halted.true, refl)

pub returns-then-not-leads-clause-fault : goal.returns-then-not-leads-clause-fault
returns-then-not-leads-clause-fault g c = λ number.
    (sym c.halted.ensures ∙ c.if-halted.false, leads_not c.args.self.now.role (sym c.leads.ensures.leads ∙ c.if-not-leads.true), refl)
