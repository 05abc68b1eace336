use Rattle.std.proofs.Common.{◌≡◌, ◌≢◌, true, None, sym, subst, ◌+◌, arith}
use Rattle.cluster_rules.specs.Due.{due}
use Rattle.cluster_order.specs.AgentEvents.{event_of_agent, SyncsInPart, IsSyncedInPart}
use Rattle.cluster_order.proofs.Keeping.{server_kept, fits_kept, works_keep}
use Rattle.cluster_order.proofs.Working.{made_up_by, made_up_works, ok_by, err_within}
use Rattle.cluster_order.proofs.AgentSteps.{there_kept, noted_still, synced_server, synced_by, synced_behind, synced_in_part, synced_before, synced_at_first}
use Rattle.cluster_order.specs.Evaluations.{lacking, own_reads}
use Rattle.cluster_order.proofs.Adding.{adds_most, synced_adds, synced_part_adds}
use Rattle.cluster_order.proofs.Evaluating.{evaluates_around, evaluates_cut, evaluates_more}
use Rattle.cluster_order.proofs.syncs.carry_out.Goals as goal

pub make_up-requires : goal.make_up-requires
make_up-requires g c = c.requires.server

pub returns-in-Err-clause-cut : goal.returns-in-Err-clause-cut
returns-in-Err-clause-cut g c = synced_at_first c.args.server (event_of_agent c.args.event.now) c.in-Err.cut (g.P.Parts.state c.args.parts.now) (g.P.Parts.state c.make_up.new.parts) c.in-Err.ensures.cut

pub sync_at-requires-clause-server : goal.sync_at-requires-clause-server
sync_at-requires-clause-server g c = server_kept (g.P.Parts.state c.args.parts.now) (g.P.Parts.state c.make_up.new.parts) c.args.server (works_keep c.args.server (g.P.Parts.state c.args.parts.now) (g.P.Parts.state c.make_up.new.parts) (made_up_works c.args.server c.in-Ok.was (g.P.Parts.state c.args.parts.now) (g.P.Parts.state c.make_up.new.parts) c.in-Ok.ensures.whole)) c.requires.server

pub sync_at-requires-clause-fits : goal.sync_at-requires-clause-fits
sync_at-requires-clause-fits g c = fits_kept (event_of_agent c.args.event.now) (g.P.Parts.state c.args.parts.now) (g.P.Parts.state c.make_up.new.parts) (works_keep c.args.server (g.P.Parts.state c.args.parts.now) (g.P.Parts.state c.make_up.new.parts) (made_up_works c.args.server c.in-Ok.was (g.P.Parts.state c.args.parts.now) (g.P.Parts.state c.make_up.new.parts) c.in-Ok.ensures.whole)) c.requires.fits

pub sync_at-requires-clause-agents : goal.sync_at-requires-clause-agents
sync_at-requires-clause-agents g c = c.requires.agents

pub sync_at-requires-clause-takes : goal.sync_at-requires-clause-takes
sync_at-requires-clause-takes g c = c.requires.takes

pub sync_at-requires-clause-come : goal.sync_at-requires-clause-come
sync_at-requires-clause-come g c = noted_still c.args.server (event_of_agent c.args.event.now) (g.P.Parts.state c.args.parts.now) (g.P.Parts.state c.make_up.new.parts) (made_up_works c.args.server c.in-Ok.was (g.P.Parts.state c.args.parts.now) (g.P.Parts.state c.make_up.new.parts) c.in-Ok.ensures.whole) c.requires.come

pub sync_at-requires-clause-goes : goal.sync_at-requires-clause-goes
sync_at-requires-clause-goes g c = there_kept c.args.server (event_of_agent c.args.event.now) (g.P.Parts.state c.args.parts.now) (g.P.Parts.state c.make_up.new.parts) (works_keep c.args.server (g.P.Parts.state c.args.parts.now) (g.P.Parts.state c.make_up.new.parts) (made_up_works c.args.server c.in-Ok.was (g.P.Parts.state c.args.parts.now) (g.P.Parts.state c.make_up.new.parts) c.in-Ok.ensures.whole)) c.requires.goes

pub sync_at-requires-clause-made_up : goal.sync_at-requires-clause-made_up
sync_at-requires-clause-made_up g c = (made_up_by c.args.server c.in-Ok.was (g.P.Parts.state c.args.parts.now) (g.P.Parts.state c.make_up.new.parts) c.in-Ok.ensures.whole).1

pub finish-requires : goal.finish-requires
finish-requires g c = synced_server c.args.server c.args.server (event_of_agent c.args.event.now) (g.P.Parts.state c.make_up.new.parts) (g.P.Parts.state c.sync_at.new.self) true c.in-Ok-sync_at.ensures.whole (server_kept (g.P.Parts.state c.args.parts.now) (g.P.Parts.state c.make_up.new.parts) c.args.server (works_keep c.args.server (g.P.Parts.state c.args.parts.now) (g.P.Parts.state c.make_up.new.parts) (made_up_works c.args.server c.in-Ok.was (g.P.Parts.state c.args.parts.now) (g.P.Parts.state c.make_up.new.parts) c.in-Ok.ensures.whole)) c.requires.server)

pub returns-in-Ok-sync_at-clause-whole : goal.returns-in-Ok-sync_at-clause-whole
returns-in-Ok-sync_at-clause-whole g c = ok_by c.finish.result (due c.args.server (g.P.Parts.state c.finish.new.parts) ≡ None) _ (λ n. synced_by c.args.server (event_of_agent c.args.event.now) c.in-Ok.was (g.P.Parts.state c.args.parts.now) (g.P.Parts.state c.make_up.new.parts) (g.P.Parts.state c.sync_at.new.self) (g.P.Parts.state c.finish.new.parts) c.in-Ok.ensures.whole c.in-Ok-sync_at.ensures.whole c.finish.ensures.works n) c.finish.ensures.none

pub returns-in-Ok-sync_at-clause-cut : goal.returns-in-Ok-sync_at-clause-cut
returns-in-Ok-sync_at-clause-cut g c =
    err_within c.finish.result (due c.args.server (g.P.Parts.state c.finish.new.parts) ≢ None) (λ found. IsSyncedInPart c.args.server (event_of_agent c.args.event.now) found (g.P.Parts.state c.args.parts.now) (g.P.Parts.state c.finish.new.parts)) c.finish.ensures.behind c.finish.ensures.within
    (λ n. synced_behind c.args.server (event_of_agent c.args.event.now) c.in-Ok.was (g.P.Parts.state c.args.parts.now) (g.P.Parts.state c.make_up.new.parts) (g.P.Parts.state c.sync_at.new.self) (g.P.Parts.state c.finish.new.parts) c.in-Ok.ensures.whole c.in-Ok-sync_at.ensures.whole c.finish.ensures.works n)

pub returns-in-Err-Before-clause-cut : goal.returns-in-Err-Before-clause-cut
returns-in-Err-Before-clause-cut g c =
    let same : (g.P.Parts.state c.sync_at.new.self) ≡ (g.P.Parts.state c.make_up.new.parts) = subst (λ z. SyncsInPart c.args.server (event_of_agent c.args.event.now) z (g.P.Parts.state c.make_up.new.parts) (g.P.Parts.state c.sync_at.new.self)) c.in-Err-Before.field-0-is c.in-Err-Before.ensures.cut in
    subst (λ z. IsSyncedInPart c.args.server (event_of_agent c.args.event.now) z (g.P.Parts.state c.args.parts.now) (g.P.Parts.state c.sync_at.new.self)) (sym c.cut_after.ensures) (synced_before c.args.server (event_of_agent c.args.event.now) c.in-Ok.was (g.P.Parts.state c.args.parts.now) (g.P.Parts.state c.make_up.new.parts) (g.P.Parts.state c.sync_at.new.self) c.in-Ok.ensures.whole same)

pub returns-in-Err-Within-clause-cut : goal.returns-in-Err-Within-clause-cut
returns-in-Err-Within-clause-cut g c = synced_in_part c.args.server (event_of_agent c.args.event.now) c.in-Ok.was (g.P.Parts.state c.args.parts.now) (g.P.Parts.state c.make_up.new.parts) (g.P.Parts.state c.sync_at.new.self) c.in-Ok.ensures.whole (subst (λ z. SyncsInPart c.args.server (event_of_agent c.args.event.now) z (g.P.Parts.state c.make_up.new.parts) (g.P.Parts.state c.sync_at.new.self)) c.in-Err-Within.field-0-is c.in-Err-Within.ensures.cut)

pub returns-in-Err-clause-counted : goal.returns-in-Err-clause-counted
returns-in-Err-clause-counted g c =
    evaluates_more 1 (own_reads (event_of_agent c.args.event.now) + 1) c.args.steps.now c.make_up.new.steps (g.P.Parts.state c.args.parts.now) (g.P.Parts.state c.make_up.new.parts) (omega arith) c.in-Err.ensures.counted

pub returns-in-Ok-sync_at-clause-counted : goal.returns-in-Ok-sync_at-clause-counted
returns-in-Ok-sync_at-clause-counted g c =
    evaluates_around (own_reads (event_of_agent c.args.event.now)) (lacking c.finish.result) c.args.steps.now c.make_up.new.steps c.finish.new.steps (g.P.Parts.state c.args.parts.now) (g.P.Parts.state c.make_up.new.parts) (g.P.Parts.state c.sync_at.new.self) (g.P.Parts.state c.finish.new.parts) c.in-Ok.ensures.counted
    (adds_most 0 (own_reads (event_of_agent c.args.event.now)) (g.P.Parts.state c.make_up.new.parts) (g.P.Parts.state c.sync_at.new.self) (omega arith) (synced_adds c.args.server (event_of_agent c.args.event.now) (g.P.Parts.state c.make_up.new.parts) (g.P.Parts.state c.sync_at.new.self) true c.in-Ok-sync_at.ensures.whole)) c.finish.ensures.counted

pub returns-in-Err-Before-clause-counted : goal.returns-in-Err-Before-clause-counted
returns-in-Err-Before-clause-counted g c =
    evaluates_cut (own_reads (event_of_agent c.args.event.now)) c.args.steps.now c.make_up.new.steps (g.P.Parts.state c.args.parts.now) (g.P.Parts.state c.make_up.new.parts) (g.P.Parts.state c.sync_at.new.self) c.in-Ok.ensures.counted
    (adds_most 0 (own_reads (event_of_agent c.args.event.now)) (g.P.Parts.state c.make_up.new.parts) (g.P.Parts.state c.sync_at.new.self) (omega arith) (synced_part_adds c.args.server (event_of_agent c.args.event.now) c.in-Err-Before.field-0 (g.P.Parts.state c.make_up.new.parts) (g.P.Parts.state c.sync_at.new.self) c.in-Err-Before.ensures.cut))

pub returns-in-Err-Within-clause-counted : goal.returns-in-Err-Within-clause-counted
returns-in-Err-Within-clause-counted g c =
    evaluates_cut (own_reads (event_of_agent c.args.event.now)) c.args.steps.now c.make_up.new.steps (g.P.Parts.state c.args.parts.now) (g.P.Parts.state c.make_up.new.parts) (g.P.Parts.state c.sync_at.new.self) c.in-Ok.ensures.counted
    (adds_most 0 (own_reads (event_of_agent c.args.event.now)) (g.P.Parts.state c.make_up.new.parts) (g.P.Parts.state c.sync_at.new.self) (omega arith) (synced_part_adds c.args.server (event_of_agent c.args.event.now) c.in-Err-Within.field-0 (g.P.Parts.state c.make_up.new.parts) (g.P.Parts.state c.sync_at.new.self) c.in-Err-Within.ensures.cut))
