use Rattle.cluster_order.specs.AgentEvents.{event_of_agent, IsSynced, IsSyncedInPart}
use Rattle.cluster_order.proofs.Keeping.{server_kept, fits_kept, noted_keeps}
use Rattle.cluster_order.proofs.AgentSteps.{there_kept, noted_first, agent_whole, agent_cut}
use Rattle.cluster_order.proofs.Concluding.{concluded_counted, concluded_cut, concluded_whole, just_noted}
use Rattle.cluster_order.specs.Evaluations.{own_reads}
use Rattle.cluster_order.proofs.syncs.sync.Goals as goal

pub note-requires : goal.note-requires
note-requires g c = c.requires.takes

pub carry_out-done-requires-clause-server : goal.carry_out-done-requires-clause-server
carry_out-done-requires-clause-server g c = server_kept (g.P.Parts.state c.args.parts.now) (g.P.Parts.state c.note.new.parts) c.args.server (noted_keeps (event_of_agent c.args.event.now) (g.P.Parts.state c.args.parts.now) (g.P.Parts.state c.note.new.parts) c.note.ensures) c.requires.server

pub carry_out-done-requires-clause-fits : goal.carry_out-done-requires-clause-fits
carry_out-done-requires-clause-fits g c = fits_kept (event_of_agent c.args.event.now) (g.P.Parts.state c.args.parts.now) (g.P.Parts.state c.note.new.parts) (noted_keeps (event_of_agent c.args.event.now) (g.P.Parts.state c.args.parts.now) (g.P.Parts.state c.note.new.parts) c.note.ensures) c.requires.fits

pub carry_out-done-requires-clause-agents : goal.carry_out-done-requires-clause-agents
carry_out-done-requires-clause-agents g c = c.requires.agents

pub carry_out-done-requires-clause-takes : goal.carry_out-done-requires-clause-takes
carry_out-done-requires-clause-takes g c = c.requires.takes

pub carry_out-done-requires-clause-come : goal.carry_out-done-requires-clause-come
carry_out-done-requires-clause-come g c = noted_first (event_of_agent c.args.event.now) (g.P.Parts.state c.args.parts.now) (g.P.Parts.state c.note.new.parts) c.note.ensures

pub carry_out-done-requires-clause-goes : goal.carry_out-done-requires-clause-goes
carry_out-done-requires-clause-goes g c = there_kept c.args.server (event_of_agent c.args.event.now) (g.P.Parts.state c.args.parts.now) (g.P.Parts.state c.note.new.parts) (noted_keeps (event_of_agent c.args.event.now) (g.P.Parts.state c.args.parts.now) (g.P.Parts.state c.note.new.parts) c.note.ensures) c.requires.goes

pub conclude-requires : goal.conclude-requires
conclude-requires g c = just_noted (event_of_agent c.args.event.now) (g.P.Parts.state c.args.parts.now) (g.P.Parts.state c.note.new.parts) (g.P.Parts.state c.carry_out-done.new.parts) c.carry_out-done.result (λ z. IsSyncedInPart c.args.server (event_of_agent c.args.event.now) z (g.P.Parts.state c.note.new.parts) (g.P.Parts.state c.carry_out-done.new.parts)) c.note.ensures c.carry_out-done.ensures.cut (λ e. e)

pub returns-clause-whole : goal.returns-clause-whole
returns-clause-whole g c =
    concluded_whole (event_of_agent c.args.event.now) (g.P.Parts.state c.args.parts.now) (g.P.Parts.state c.carry_out-done.new.parts) (g.P.Parts.state c.conclude.new.parts) c.carry_out-done.result c.conclude.result (IsSynced c.args.server (event_of_agent c.args.event.now) (g.P.Parts.state c.note.new.parts) (g.P.Parts.state c.carry_out-done.new.parts)) c.carry_out-done.ensures.whole
    (λ w s. agent_whole c.args.server (event_of_agent c.args.event.now) (g.P.Parts.state c.args.parts.now) (g.P.Parts.state c.note.new.parts) (g.P.Parts.state c.carry_out-done.new.parts) (g.P.Parts.state c.conclude.new.parts) c.requires.agents c.requires.goes c.note.ensures w s) c.conclude.ensures

pub returns-clause-cut : goal.returns-clause-cut
returns-clause-cut g c =
    concluded_cut (event_of_agent c.args.event.now) (g.P.Parts.state c.args.parts.now) (g.P.Parts.state c.note.new.parts) (g.P.Parts.state c.carry_out-done.new.parts) (g.P.Parts.state c.conclude.new.parts) c.carry_out-done.result c.conclude.result (λ z. IsSyncedInPart c.args.server (event_of_agent c.args.event.now) z (g.P.Parts.state c.note.new.parts) (g.P.Parts.state c.carry_out-done.new.parts)) c.note.ensures c.carry_out-done.ensures.cut (λ e. e)
    (λ k s. agent_cut c.args.server (event_of_agent c.args.event.now) (g.P.Parts.state c.args.parts.now) (g.P.Parts.state c.note.new.parts) (g.P.Parts.state c.carry_out-done.new.parts) (g.P.Parts.state c.conclude.new.parts) c.requires.agents c.requires.goes c.note.ensures k s) c.conclude.ensures

pub returns-clause-counted : goal.returns-clause-counted
returns-clause-counted g c =
    concluded_counted (own_reads (event_of_agent c.args.event.now)) c.args.steps.now c.carry_out-done.new.steps (event_of_agent c.args.event.now) (g.P.Parts.state c.args.parts.now) (g.P.Parts.state c.note.new.parts) (g.P.Parts.state c.carry_out-done.new.parts) (g.P.Parts.state c.conclude.new.parts) c.carry_out-done.result c.conclude.result (λ z. IsSyncedInPart c.args.server (event_of_agent c.args.event.now) z (g.P.Parts.state c.note.new.parts) (g.P.Parts.state c.carry_out-done.new.parts)) c.note.ensures c.carry_out-done.ensures.cut (λ e. e) c.carry_out-done.ensures.counted c.conclude.ensures
