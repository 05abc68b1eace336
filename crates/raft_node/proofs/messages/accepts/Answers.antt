use Rattle.std.proofs.Common.{subst}
use Rattle.raft_node.specs.declared.appends.Fit.{Fit}
use Rattle.raft_node.specs.Accepting.{Takes}
use Rattle.raft_node.proofs.Taking.{plan_changed, plan_refused, plan_standing}
use Rattle.raft_node.proofs.messages.accepts.Goals as goal

pub returns-in-Refused : goal.returns-in-Refused
returns-in-Refused c =
    let s = c.args.state in let log = c.args.log.now in let entries = c.args.entries.now in
    let t = subst (λ (f : Fit). Takes s.commit log c.args.prev entries f) c.in-Refused.is c.fitting.ensures.fit in
    record { counted = c.fitting.ensures.counted; plan = plan_refused s log c.args.from c.args.prev entries c.args.commit c.args.round c.quiet.result c.quiet.ensures t }

pub returns-in_ok-planned-in-Stands : goal.returns-in_ok-planned-in-Stands
returns-in_ok-planned-in-Stands c =
    let s = c.args.state in let log = c.args.log.now in let entries = c.args.entries.now in
    let t = subst (λ (f : Fit). Takes s.commit log c.args.prev entries f) c.in-Stands.is c.fitting.ensures.fit in
    record { counted = c.fitting.ensures.counted; plan = plan_standing s log c.args.from c.args.prev entries c.args.commit c.args.round _ c.in_ok-planned-in-Stands.ensures t.0 t.1 t.2 }

pub returns-in_ok-planned-in-Changes : goal.returns-in_ok-planned-in-Changes
returns-in_ok-planned-in-Changes c =
    let s = c.args.state in let log = c.args.log.now in let entries = c.args.entries.now in
    let t = subst (λ (f : Fit). Takes s.commit log c.args.prev entries f) c.in-Changes.is c.fitting.ensures.fit in
    record { counted = c.fitting.ensures.counted; plan = plan_changed s log c.args.from c.args.prev entries c.args.commit c.args.round c.in-Changes.kept c.in-Changes.passed c.in_ok-rest-in-Changes.rest _ t c.in_ok-rest-in-Changes.ensures c.in_ok-planned-in-Changes.ensures }
