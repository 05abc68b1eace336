use Rattle.std.proofs.Common.{◌∙◌, sym, ap, ◌+◌, arith}
use Rattle.cluster_order.specs.AgentEvents.{event_of_agent}
use Rattle.cluster_order.specs.Turns.{way_of}
use Rattle.cluster_order.specs.Evaluations.{lacking, own_reads}
use Rattle.cluster_order.proofs.Adding.{adds_most}
use Rattle.cluster_order.proofs.Evaluating.{evaluates_adding}
use Rattle.cluster_order.proofs.syncs.sync_by.Goals as goal

pub stay-requires-clause-fits : goal.stay-requires-clause-fits
stay-requires-clause-fits g c = c.requires.fits

pub stay-requires-clause-agents : goal.stay-requires-clause-agents
stay-requires-clause-agents g c = c.requires.agents

pub stay-requires-clause-takes : goal.stay-requires-clause-takes
stay-requires-clause-takes g c = c.requires.takes

pub stay-requires-clause-alone : goal.stay-requires-clause-alone
stay-requires-clause-alone g c = (c.requires.syncs, (c.in-Answers._why, sym c.requires.way ∙ ap way_of c.in-Answers.is))

pub sync-requires-clause-server : goal.sync-requires-clause-server
sync-requires-clause-server g c = c.requires.server c.in-Goes.server (ap way_of c.in-Goes.is)

pub sync-requires-clause-fits : goal.sync-requires-clause-fits
sync-requires-clause-fits g c = c.requires.fits

pub sync-requires-clause-agents : goal.sync-requires-clause-agents
sync-requires-clause-agents g c = c.requires.agents

pub sync-requires-clause-takes : goal.sync-requires-clause-takes
sync-requires-clause-takes g c = c.requires.takes

pub sync-requires-clause-goes : goal.sync-requires-clause-goes
sync-requires-clause-goes g c = (c.requires.syncs, sym c.requires.way ∙ ap way_of c.in-Goes.is)

pub returns-in-Answers-clause-whole : goal.returns-in-Answers-clause-whole
returns-in-Answers-clause-whole g c = c.stay.ensures.whole

pub returns-in-Answers-clause-cut : goal.returns-in-Answers-clause-cut
returns-in-Answers-clause-cut g c = c.stay.ensures.cut

pub returns-in-Goes-clause-whole : goal.returns-in-Goes-clause-whole
returns-in-Goes-clause-whole g c = c.sync.ensures.whole

pub returns-in-Goes-clause-cut : goal.returns-in-Goes-clause-cut
returns-in-Goes-clause-cut g c = c.sync.ensures.cut

pub returns-in-Answers-clause-counted : goal.returns-in-Answers-clause-counted
returns-in-Answers-clause-counted g c =
    evaluates_adding (own_reads (event_of_agent c.args.event.now) + lacking c.stay.result) c.args.steps.now (g.P.Parts.state c.args.parts.now) (g.P.Parts.state c.stay.new.parts) (adds_most 0 (own_reads (event_of_agent c.args.event.now) + lacking c.stay.result) (g.P.Parts.state c.args.parts.now) (g.P.Parts.state c.stay.new.parts) (omega arith) c.stay.ensures.counted)

pub returns-in-Goes-clause-counted : goal.returns-in-Goes-clause-counted
returns-in-Goes-clause-counted g c =
    c.sync.ensures.counted
