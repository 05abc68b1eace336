use Rattle.std.proofs.Common.{◌≡◌, ◌∙◌, Some, sym, ap, subst, ◌+◌, arith}
use Rattle.cluster_rules.specs.Proposals.{sync_of}
use Rattle.cluster_rules.specs.Reached.{IsAgentNumber}
use Rattle.cluster_order.specs.AgentEvents.{event_of_agent, agent_in, sync_way}
use Rattle.cluster_order.proofs.AgentSteps.{sync_agent, agent_fits}
use Rattle.cluster_order.specs.Evaluations.{lacking, own_reads}
use Rattle.cluster_order.proofs.Adding.{adds_most}
use Rattle.cluster_order.proofs.Evaluating.{evaluates_adding}
use Rattle.cluster_order.proofs.syncs.happen.Goals as goal

pub sync_of-requires-clause-fits : goal.sync_of-requires-clause-fits
sync_of-requires-clause-fits g c = c.requires.fits

pub sync_of-requires-clause-agents : goal.sync_of-requires-clause-agents
sync_of-requires-clause-agents g c = c.requires.agents

pub stay-requires-clause-fits : goal.stay-requires-clause-fits
stay-requires-clause-fits g c = c.requires.fits

pub stay-requires-clause-agents : goal.stay-requires-clause-agents
stay-requires-clause-agents g c = c.requires.agents

pub stay-requires-clause-takes : goal.stay-requires-clause-takes
stay-requires-clause-takes g c = c.requires.takes

pub stay-requires-clause-alone : goal.stay-requires-clause-alone
stay-requires-clause-alone g c = sym c.in-None.ensures

pub leader_way-way-requires : goal.leader_way-way-requires
leader_way-way-requires g c =
    let e : c.in-Some.agent ≡ agent_in (event_of_agent c.args.event.now) = sync_agent (event_of_agent c.args.event.now) (g.P.Parts.state c.args.parts.now) c.in-Some.agent (sym c.in-Some.ensures) in
    subst (λ n. IsAgentNumber (g.P.Parts.state c.args.parts.now) n) (sym e) (agent_fits (event_of_agent c.args.event.now) (g.P.Parts.state c.args.parts.now) c.requires.agents c.requires.fits)

pub sync_by-requires-clause-fits : goal.sync_by-requires-clause-fits
sync_by-requires-clause-fits g c = c.requires.fits

pub sync_by-requires-clause-agents : goal.sync_by-requires-clause-agents
sync_by-requires-clause-agents g c = c.requires.agents

pub sync_by-requires-clause-takes : goal.sync_by-requires-clause-takes
sync_by-requires-clause-takes g c = c.requires.takes

pub sync_by-requires-clause-syncs : goal.sync_by-requires-clause-syncs
sync_by-requires-clause-syncs g c =
    let e : c.in-Some.agent ≡ agent_in (event_of_agent c.args.event.now) = sync_agent (event_of_agent c.args.event.now) (g.P.Parts.state c.args.parts.now) c.in-Some.agent (sym c.in-Some.ensures) in
    subst (λ n. sync_of (g.P.Parts.state c.args.parts.now) (event_of_agent c.args.event.now) ≡ Some n) e (sym c.in-Some.ensures)

pub sync_by-requires-clause-way : goal.sync_by-requires-clause-way
sync_by-requires-clause-way g c =
    let e : c.in-Some.agent ≡ agent_in (event_of_agent c.args.event.now) = sync_agent (event_of_agent c.args.event.now) (g.P.Parts.state c.args.parts.now) c.in-Some.agent (sym c.in-Some.ensures) in
    c.leader_way-way.ensures.way ∙ ap (λ n. sync_way n (g.P.Parts.state c.args.parts.now)) e

pub sync_by-requires-clause-server : goal.sync_by-requires-clause-server
sync_by-requires-clause-server g c = c.leader_way-way.ensures.server

pub returns-in-None-clause-whole : goal.returns-in-None-clause-whole
returns-in-None-clause-whole g c = c.stay.ensures.whole

pub returns-in-None-clause-cut : goal.returns-in-None-clause-cut
returns-in-None-clause-cut g c = c.stay.ensures.cut

pub returns-in-Some-clause-whole : goal.returns-in-Some-clause-whole
returns-in-Some-clause-whole g c = c.sync_by.ensures.whole

pub returns-in-Some-clause-cut : goal.returns-in-Some-clause-cut
returns-in-Some-clause-cut g c = c.sync_by.ensures.cut

pub returns-in-None-clause-counted : goal.returns-in-None-clause-counted
returns-in-None-clause-counted g c =
    evaluates_adding (own_reads (event_of_agent c.args.event.now) + lacking c.stay.result) c.args.steps.now (g.P.Parts.state c.args.parts.now) (g.P.Parts.state c.stay.new.parts) (adds_most 0 (own_reads (event_of_agent c.args.event.now) + lacking c.stay.result) (g.P.Parts.state c.args.parts.now) (g.P.Parts.state c.stay.new.parts) (omega arith) c.stay.ensures.counted)

pub returns-in-Some-clause-counted : goal.returns-in-Some-clause-counted
returns-in-Some-clause-counted g c =
    c.sync_by.ensures.counted
