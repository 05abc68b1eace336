use Rattle.std.proofs.Common.{◌≡◌, ◌≢◌, ◌+◌, None, sym, subst, arith}
use Rattle.cluster_rules.specs.Due.{due}
use Rattle.cluster_order.specs.Turns.{event_of, ActsCut, IsCut}
use Rattle.cluster_order.proofs.Keeping.{server_kept, goes_kept, fits_kept, works_keep, acted_server}
use Rattle.cluster_order.proofs.Working.{made_up_works, cut_at_first, cut_before, cut_behind, cut_forgot, done_by, ok_by, err_within}
use Rattle.cluster_order.specs.Evaluations.{lacking, own_reads}
use Rattle.cluster_order.proofs.Adding.{cut_adds, whole_adds}
use Rattle.cluster_order.proofs.Evaluating.{evaluates_around, evaluates_cut, evaluates_more}
use Rattle.cluster_order.proofs.turns.react.Goals as goal

pub make_up-requires : goal.make_up-requires
make_up-requires g c = c.requires.server

pub returns-in-Err-clause-cut : goal.returns-in-Err-clause-cut
returns-in-Err-clause-cut g c = cut_at_first c.args.server (event_of c.args.impulse) c.in-Err.cut (g.P.Parts.state c.args.parts.now) (g.P.Parts.state c.make_up.new.parts) c.in-Err.ensures.cut

pub act-requires-clause-server : goal.act-requires-clause-server
act-requires-clause-server g c = (server_kept (g.P.Parts.state c.args.parts.now) (g.P.Parts.state c.make_up.new.parts) c.args.server (works_keep c.args.server (g.P.Parts.state c.args.parts.now) (g.P.Parts.state c.make_up.new.parts) (made_up_works c.args.server c.in-Ok.was (g.P.Parts.state c.args.parts.now) (g.P.Parts.state c.make_up.new.parts) c.in-Ok.ensures.whole)) c.requires.server)

pub act-requires-clause-goes : goal.act-requires-clause-goes
act-requires-clause-goes g c = goes_kept c.args.impulse c.args.server (g.P.Parts.state c.args.parts.now) (g.P.Parts.state c.make_up.new.parts) (works_keep c.args.server (g.P.Parts.state c.args.parts.now) (g.P.Parts.state c.make_up.new.parts) (made_up_works c.args.server c.in-Ok.was (g.P.Parts.state c.args.parts.now) (g.P.Parts.state c.make_up.new.parts) c.in-Ok.ensures.whole)) c.requires.goes

pub act-requires-clause-fits : goal.act-requires-clause-fits
act-requires-clause-fits g c = fits_kept (event_of c.args.impulse) (g.P.Parts.state c.args.parts.now) (g.P.Parts.state c.make_up.new.parts) (works_keep c.args.server (g.P.Parts.state c.args.parts.now) (g.P.Parts.state c.make_up.new.parts) (made_up_works c.args.server c.in-Ok.was (g.P.Parts.state c.args.parts.now) (g.P.Parts.state c.make_up.new.parts) c.in-Ok.ensures.whole)) c.requires.fits

pub finish-requires : goal.finish-requires
finish-requires g c = acted_server 0 c.args.server c.args.server (event_of c.args.impulse) (g.P.Parts.state c.make_up.new.parts) (g.P.Parts.state c.act.new.self) c.in-Ok-act.ensures.whole.0 (server_kept (g.P.Parts.state c.args.parts.now) (g.P.Parts.state c.make_up.new.parts) c.args.server (works_keep c.args.server (g.P.Parts.state c.args.parts.now) (g.P.Parts.state c.make_up.new.parts) (made_up_works c.args.server c.in-Ok.was (g.P.Parts.state c.args.parts.now) (g.P.Parts.state c.make_up.new.parts) c.in-Ok.ensures.whole)) c.requires.server)

pub returns-in-Ok-act-clause-whole : goal.returns-in-Ok-act-clause-whole
returns-in-Ok-act-clause-whole g c =
    ok_by c.finish.result (due c.args.server (g.P.Parts.state c.finish.new.parts) ≡ None) _ (λ n. done_by c.args.server c.args.impulse c.in-Ok.was (g.P.Parts.state c.args.parts.now) (g.P.Parts.state c.make_up.new.parts) (g.P.Parts.state c.act.new.self) (g.P.Parts.state c.finish.new.parts) c.in-Ok.ensures.whole c.in-Ok-act.ensures.whole c.finish.ensures.works n) c.finish.ensures.none

pub returns-in-Ok-act-clause-cut : goal.returns-in-Ok-act-clause-cut
returns-in-Ok-act-clause-cut g c =
    err_within c.finish.result (due c.args.server (g.P.Parts.state c.finish.new.parts) ≢ None) (λ found. IsCut c.args.server (event_of c.args.impulse) found (g.P.Parts.state c.args.parts.now) (g.P.Parts.state c.finish.new.parts)) c.finish.ensures.behind c.finish.ensures.within
    (λ n. cut_behind c.args.server (event_of c.args.impulse) c.in-Ok.was (g.P.Parts.state c.args.parts.now) (g.P.Parts.state c.make_up.new.parts) (g.P.Parts.state c.act.new.self) (g.P.Parts.state c.finish.new.parts) c.in-Ok.ensures.whole c.in-Ok-act.ensures.whole c.finish.ensures.works n)

pub returns-in-Err-Before-clause-cut : goal.returns-in-Err-Before-clause-cut
returns-in-Err-Before-clause-cut g c =
    let same : (g.P.Parts.state c.act.new.self) ≡ (g.P.Parts.state c.make_up.new.parts) = subst (λ z. ActsCut c.args.server (event_of c.args.impulse) z (g.P.Parts.state c.make_up.new.parts) (g.P.Parts.state c.act.new.self)) c.in-Err-Before.field-0-is c.in-Err-Before.ensures.cut in
    subst (λ z. IsCut c.args.server (event_of c.args.impulse) z (g.P.Parts.state c.args.parts.now) (g.P.Parts.state c.act.new.self)) (sym c.cut_after.ensures) (cut_before c.args.server (event_of c.args.impulse) c.in-Ok.was (g.P.Parts.state c.args.parts.now) (g.P.Parts.state c.make_up.new.parts) (g.P.Parts.state c.act.new.self) c.in-Ok.ensures.whole same)

pub returns-in-Err-Within-clause-cut : goal.returns-in-Err-Within-clause-cut
returns-in-Err-Within-clause-cut g c =
    cut_forgot c.args.server (event_of c.args.impulse) c.in-Ok.was (g.P.Parts.state c.args.parts.now) (g.P.Parts.state c.make_up.new.parts) (g.P.Parts.state c.act.new.self) c.in-Ok.ensures.whole (subst (λ z. ActsCut c.args.server (event_of c.args.impulse) z (g.P.Parts.state c.make_up.new.parts) (g.P.Parts.state c.act.new.self)) c.in-Err-Within.field-0-is c.in-Err-Within.ensures.cut)

pub returns-in-Err-clause-counted : goal.returns-in-Err-clause-counted
returns-in-Err-clause-counted g c =
    evaluates_more 1 (own_reads (event_of c.args.impulse) + 1) c.args.steps.now c.make_up.new.steps (g.P.Parts.state c.args.parts.now) (g.P.Parts.state c.make_up.new.parts) (omega arith) c.in-Err.ensures.counted

pub returns-in-Ok-act-clause-counted : goal.returns-in-Ok-act-clause-counted
returns-in-Ok-act-clause-counted g c =
    evaluates_around (own_reads (event_of c.args.impulse)) (lacking c.finish.result) c.args.steps.now c.make_up.new.steps c.finish.new.steps (g.P.Parts.state c.args.parts.now) (g.P.Parts.state c.make_up.new.parts) (g.P.Parts.state c.act.new.self) (g.P.Parts.state c.finish.new.parts) c.in-Ok.ensures.counted
    (whole_adds c.args.server (event_of c.args.impulse) (g.P.Parts.state c.make_up.new.parts) (g.P.Parts.state c.act.new.self) c.in-Ok-act.ensures.whole) c.finish.ensures.counted

pub returns-in-Err-Before-clause-counted : goal.returns-in-Err-Before-clause-counted
returns-in-Err-Before-clause-counted g c =
    evaluates_cut (own_reads (event_of c.args.impulse)) c.args.steps.now c.make_up.new.steps (g.P.Parts.state c.args.parts.now) (g.P.Parts.state c.make_up.new.parts) (g.P.Parts.state c.act.new.self) c.in-Ok.ensures.counted (cut_adds c.args.server (event_of c.args.impulse) c.in-Err-Before.field-0 (g.P.Parts.state c.make_up.new.parts) (g.P.Parts.state c.act.new.self) c.in-Err-Before.ensures.cut)

pub returns-in-Err-Within-clause-counted : goal.returns-in-Err-Within-clause-counted
returns-in-Err-Within-clause-counted g c =
    evaluates_cut (own_reads (event_of c.args.impulse)) c.args.steps.now c.make_up.new.steps (g.P.Parts.state c.args.parts.now) (g.P.Parts.state c.make_up.new.parts) (g.P.Parts.state c.act.new.self) c.in-Ok.ensures.counted (cut_adds c.args.server (event_of c.args.impulse) c.in-Err-Within.field-0 (g.P.Parts.state c.make_up.new.parts) (g.P.Parts.state c.act.new.self) c.in-Err-Within.ensures.cut)
