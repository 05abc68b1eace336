use Rattle.std.proofs.Common.{◌≡◌, ◌≢◌, None, true}
use Rattle.cat_model.specs.declared.request.Event.TheVariants as event
use Rattle.cluster_rules.specs.Due.{due}
use Rattle.cluster_order.specs.Turns.{IsCut}
use Rattle.cluster_order.proofs.Keeping.{server_kept, fits_kept, works_keep}
use Rattle.cluster_order.proofs.Working.{made_up_works, cut_at_first, ok_by, err_within}
use Rattle.cluster_order.proofs.Clocked.{ticked_server, tended_server, behind_clock, in_second, behind_second, all_done}
use Rattle.cluster_order.specs.Evaluations.{lacking}
use Rattle.cluster_order.proofs.Adding.{tended_adds, tended_part_adds, ticked_adds}
use Rattle.cluster_order.proofs.Evaluating.{evaluates_around, evaluates_cut}
use Rattle.cluster_order.proofs.ticks.go_on.Goals as goal

pub make_up-requires : goal.make_up-requires
make_up-requires g c = c.requires.0

pub returns-in-Err-clause-cut : goal.returns-in-Err-clause-cut
returns-in-Err-clause-cut g c = cut_at_first c.args.server (event.Tick c.args.server c.args.ms) c.in-Err.cut (g.P.Parts.state c.args.parts.now) (g.P.Parts.state c.make_up.new.parts) c.in-Err.ensures.cut

pub tick-requires : goal.tick-requires
tick-requires g c = (fits_kept (event.Tick c.args.server c.args.ms) (g.P.Parts.state c.args.parts.now) (g.P.Parts.state c.make_up.new.parts) (works_keep c.args.server (g.P.Parts.state c.args.parts.now) (g.P.Parts.state c.make_up.new.parts) (made_up_works c.args.server c.in-Ok.field-0 (g.P.Parts.state c.args.parts.now) (g.P.Parts.state c.make_up.new.parts) c.in-Ok.ensures.whole)) c.requires)

pub finish-requires : goal.finish-requires
finish-requires g c = (ticked_server c.args.server c.args.ms c.args.server (g.P.Parts.state c.make_up.new.parts) (g.P.Parts.state c.tick.new.self) c.tick.ensures (fits_kept (event.Tick c.args.server c.args.ms) (g.P.Parts.state c.args.parts.now) (g.P.Parts.state c.make_up.new.parts) (works_keep c.args.server (g.P.Parts.state c.args.parts.now) (g.P.Parts.state c.make_up.new.parts) (made_up_works c.args.server c.in-Ok.field-0 (g.P.Parts.state c.args.parts.now) (g.P.Parts.state c.make_up.new.parts) c.in-Ok.ensures.whole)) c.requires).0)

pub returns-in-Err-finish-clause-cut : goal.returns-in-Err-finish-clause-cut
returns-in-Err-finish-clause-cut g c = behind_clock c.args.server c.args.ms c.in-Ok.field-0 (g.P.Parts.state c.args.parts.now) (g.P.Parts.state c.make_up.new.parts) (g.P.Parts.state c.tick.new.self) (g.P.Parts.state c.finish.new.parts) c.in-Ok.ensures.whole c.tick.ensures c.finish.ensures.works c.in-Err-finish.ensures.behind

pub tend-requires-clause-server : goal.tend-requires-clause-server
tend-requires-clause-server g c = (server_kept (g.P.Parts.state c.tick.new.self) (g.P.Parts.state c.finish.new.parts) c.args.server (works_keep c.args.server (g.P.Parts.state c.tick.new.self) (g.P.Parts.state c.finish.new.parts) c.finish.ensures.works) (ticked_server c.args.server c.args.ms c.args.server (g.P.Parts.state c.make_up.new.parts) (g.P.Parts.state c.tick.new.self) c.tick.ensures (fits_kept (event.Tick c.args.server c.args.ms) (g.P.Parts.state c.args.parts.now) (g.P.Parts.state c.make_up.new.parts) (works_keep c.args.server (g.P.Parts.state c.args.parts.now) (g.P.Parts.state c.make_up.new.parts) (made_up_works c.args.server c.in-Ok.field-0 (g.P.Parts.state c.args.parts.now) (g.P.Parts.state c.make_up.new.parts) c.in-Ok.ensures.whole)) c.requires).0))

pub tend-requires-clause-made_up : goal.tend-requires-clause-made_up
tend-requires-clause-made_up g c = c.in-Ok-finish.ensures.none

pub returns-in-Err-tend-clause-cut : goal.returns-in-Err-tend-clause-cut
returns-in-Err-tend-clause-cut g c = in_second c.args.server c.args.ms c.in-Ok.field-0 (g.P.Parts.state c.args.parts.now) (g.P.Parts.state c.make_up.new.parts) (g.P.Parts.state c.tick.new.self) (g.P.Parts.state c.finish.new.parts) (g.P.Parts.state c.tend.new.self) c.in-Ok.ensures.whole c.tick.ensures c.finish.ensures.works c.in-Ok-finish.ensures.none c.in-Err-tend.ensures.cut

pub finish-requires-2 : goal.finish-requires-2
finish-requires-2 g c = tended_server c.args.server c.args.server (g.P.Parts.state c.finish.new.parts) (g.P.Parts.state c.tend.new.self) true c.in-Ok-tend.ensures.whole (server_kept (g.P.Parts.state c.tick.new.self) (g.P.Parts.state c.finish.new.parts) c.args.server (works_keep c.args.server (g.P.Parts.state c.tick.new.self) (g.P.Parts.state c.finish.new.parts) c.finish.ensures.works) (ticked_server c.args.server c.args.ms c.args.server (g.P.Parts.state c.make_up.new.parts) (g.P.Parts.state c.tick.new.self) c.tick.ensures (fits_kept (event.Tick c.args.server c.args.ms) (g.P.Parts.state c.args.parts.now) (g.P.Parts.state c.make_up.new.parts) (works_keep c.args.server (g.P.Parts.state c.args.parts.now) (g.P.Parts.state c.make_up.new.parts) (made_up_works c.args.server c.in-Ok.field-0 (g.P.Parts.state c.args.parts.now) (g.P.Parts.state c.make_up.new.parts) c.in-Ok.ensures.whole)) c.requires).0))

pub returns-clause-whole : goal.returns-clause-whole
returns-clause-whole g c = ok_by c.finish-2.result (due c.args.server (g.P.Parts.state c.finish-2.new.parts) ≡ None) _ (λ n. all_done c.args.server c.args.ms c.in-Ok.field-0 (g.P.Parts.state c.args.parts.now) (g.P.Parts.state c.make_up.new.parts) (g.P.Parts.state c.tick.new.self) (g.P.Parts.state c.finish.new.parts) (g.P.Parts.state c.tend.new.self) (g.P.Parts.state c.finish-2.new.parts) c.in-Ok.ensures.whole c.tick.ensures c.finish.ensures.works c.in-Ok-finish.ensures.none c.in-Ok-tend.ensures.whole c.finish-2.ensures.works n) c.finish-2.ensures.none

pub returns-clause-cut : goal.returns-clause-cut
returns-clause-cut g c = err_within c.finish-2.result (due c.args.server (g.P.Parts.state c.finish-2.new.parts) ≢ None) (λ found. IsCut c.args.server (event.Tick c.args.server c.args.ms) found (g.P.Parts.state c.args.parts.now) (g.P.Parts.state c.finish-2.new.parts)) c.finish-2.ensures.behind c.finish-2.ensures.within
    (λ n. behind_second c.args.server c.args.ms c.in-Ok.field-0 (g.P.Parts.state c.args.parts.now) (g.P.Parts.state c.make_up.new.parts) (g.P.Parts.state c.tick.new.self) (g.P.Parts.state c.finish.new.parts) (g.P.Parts.state c.tend.new.self) (g.P.Parts.state c.finish-2.new.parts) c.in-Ok.ensures.whole c.tick.ensures c.finish.ensures.works c.in-Ok-finish.ensures.none c.in-Ok-tend.ensures.whole c.finish-2.ensures.works n)

pub returns-in-Err-clause-counted : goal.returns-in-Err-clause-counted
returns-in-Err-clause-counted g c =
    c.in-Err.ensures.counted

pub returns-in-Err-finish-clause-counted : goal.returns-in-Err-finish-clause-counted
returns-in-Err-finish-clause-counted g c =
    evaluates_around 0 1 c.args.steps.now c.make_up.new.steps c.finish.new.steps (g.P.Parts.state c.args.parts.now) (g.P.Parts.state c.make_up.new.parts) (g.P.Parts.state c.tick.new.self) (g.P.Parts.state c.finish.new.parts) c.in-Ok.ensures.counted (ticked_adds c.args.server c.args.ms (g.P.Parts.state c.make_up.new.parts) (g.P.Parts.state c.tick.new.self) c.tick.ensures) c.in-Err-finish.ensures.counted

pub returns-in-Err-tend-clause-counted : goal.returns-in-Err-tend-clause-counted
returns-in-Err-tend-clause-counted g c =
    evaluates_cut 0 c.args.steps.now c.finish.new.steps (g.P.Parts.state c.args.parts.now) (g.P.Parts.state c.finish.new.parts) (g.P.Parts.state c.tend.new.self) (evaluates_around 0 0 c.args.steps.now c.make_up.new.steps c.finish.new.steps (g.P.Parts.state c.args.parts.now) (g.P.Parts.state c.make_up.new.parts) (g.P.Parts.state c.tick.new.self) (g.P.Parts.state c.finish.new.parts) c.in-Ok.ensures.counted (ticked_adds c.args.server c.args.ms (g.P.Parts.state c.make_up.new.parts) (g.P.Parts.state c.tick.new.self) c.tick.ensures) c.in-Ok-finish.ensures.counted) (tended_part_adds c.args.server (g.P.Parts.state c.finish.new.parts) (g.P.Parts.state c.tend.new.self) c.in-Err-tend.ensures.cut)

pub returns-clause-counted : goal.returns-clause-counted
returns-clause-counted g c =
    evaluates_around 0 (lacking c.finish-2.result) c.args.steps.now c.finish.new.steps c.finish-2.new.steps (g.P.Parts.state c.args.parts.now) (g.P.Parts.state c.finish.new.parts) (g.P.Parts.state c.tend.new.self) (g.P.Parts.state c.finish-2.new.parts) (evaluates_around 0 0 c.args.steps.now c.make_up.new.steps c.finish.new.steps (g.P.Parts.state c.args.parts.now) (g.P.Parts.state c.make_up.new.parts) (g.P.Parts.state c.tick.new.self) (g.P.Parts.state c.finish.new.parts) c.in-Ok.ensures.counted (ticked_adds c.args.server c.args.ms (g.P.Parts.state c.make_up.new.parts) (g.P.Parts.state c.tick.new.self) c.tick.ensures) c.in-Ok-finish.ensures.counted) (tended_adds c.args.server (g.P.Parts.state c.finish.new.parts) (g.P.Parts.state c.tend.new.self) true c.in-Ok-tend.ensures.whole) c.finish-2.ensures.counted
