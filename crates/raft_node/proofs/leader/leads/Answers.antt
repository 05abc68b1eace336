use Rattle.std.proofs.Common.{arith, refl, subst, sym, true, ◌≡◌, ◌++◌, ◌∷◌, []}
use Rattle.std.proofs.lemmas.Result.{IfOk-weaker}
use Rattle.cat_model.specs.LogLimits.{keeps_limits}
use Rattle.cat_model.specs.declared.reply.Role.TheVariants.{Leader}
use Rattle.raft_node.specs.Nodes.{seen}
use Rattle.raft_node.proofs.Leads.{full_plan, noop_fits, noop_plan_at}
use Rattle.raft_node.proofs.leader.leads.Goals as goal

pub returns-then-log-ge-MOST_LOG_ENTRIES : goal.returns-then-log-ge-MOST_LOG_ENTRIES
returns-then-log-ge-MOST_LOG_ENTRIES c =
    full_plan c.args.state _ c.args.log.now c.in_ok-sent.sent
    (λ store i. record (seen store c.args.state c.args.log.now) { role = Leader; round = 0; next = c.in_ok-state.ensures i; matched = c.in_ok-state-2.ensures i; acked = c.in_ok-state-3.ensures i })
    (omega arith) c.in_ok-sent.ensures refl refl

pub appends-requires : goal.appends-requires
appends-requires c = record {
  limits = subst (λ m. keeps_limits c.args.log.now ≡ true → keeps_limits (c.args.log.now ++ record { term = c.args.state.term; number = 0; command = m } ∷ []) ≡ true) (sym c.in_ok-new.ensures) (noop_fits c.args.log.now c.args.state.term (omega arith));
}

pub returns : goal.returns
returns c =
    IfOk-weaker c.appends.result _ _
    (λ p. noop_plan_at c.args.state _ c.args.log.now p c.in_ok-new.field-0 c.in_ok-new.ensures
    (λ store i. record (seen store c.args.state c.args.log.now) { role = Leader; round = 0; next = c.in_ok-state.ensures i; matched = c.in_ok-state-2.ensures i; acked = c.in_ok-state-3.ensures i })
    (omega arith) refl refl)
    c.appends.ensures
