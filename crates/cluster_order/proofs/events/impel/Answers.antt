use Rattle.std.proofs.Common.{◌∙◌, ap}
use Rattle.cluster_rules.specs.Step.{noted}
use Rattle.cluster_order.specs.Turns.{event_of, IsCut, IsDone}
use Rattle.cluster_order.proofs.Keeping.{server_kept, goes_kept, fits_kept, noted_keeps}
use Rattle.cluster_order.proofs.Working.{step_whole, step_cut}
use Rattle.cluster_order.proofs.Concluding.{concluded_counted, concluded_cut, concluded_whole, just_noted}
use Rattle.cluster_order.specs.Evaluations.{own_reads}
use Rattle.cluster_order.proofs.events.impel.Goals as goal

pub react-done-requires-clause-server : goal.react-done-requires-clause-server
react-done-requires-clause-server g c = server_kept (g.P.Parts.state c.args.parts.now) (g.P.Parts.state c.note.new.self) c.args.server (noted_keeps (event_of c.args.impulse) (g.P.Parts.state c.args.parts.now) (g.P.Parts.state c.note.new.self) (c.note.ensures ∙ ap (λ e. noted e (g.P.Parts.state c.args.parts.now)) c.event.ensures)) c.requires.server

pub react-done-requires-clause-goes : goal.react-done-requires-clause-goes
react-done-requires-clause-goes g c = goes_kept c.args.impulse c.args.server (g.P.Parts.state c.args.parts.now) (g.P.Parts.state c.note.new.self) (noted_keeps (event_of c.args.impulse) (g.P.Parts.state c.args.parts.now) (g.P.Parts.state c.note.new.self) (c.note.ensures ∙ ap (λ e. noted e (g.P.Parts.state c.args.parts.now)) c.event.ensures)) c.requires.goes

pub react-done-requires-clause-fits : goal.react-done-requires-clause-fits
react-done-requires-clause-fits g c = fits_kept (event_of c.args.impulse) (g.P.Parts.state c.args.parts.now) (g.P.Parts.state c.note.new.self) (noted_keeps (event_of c.args.impulse) (g.P.Parts.state c.args.parts.now) (g.P.Parts.state c.note.new.self) (c.note.ensures ∙ ap (λ e. noted e (g.P.Parts.state c.args.parts.now)) c.event.ensures)) c.requires.fits

pub conclude-requires : goal.conclude-requires
conclude-requires g c = just_noted (event_of c.args.impulse) (g.P.Parts.state c.args.parts.now) (g.P.Parts.state c.note.new.self) (g.P.Parts.state c.react-done.new.parts) c.react-done.result (λ z. IsCut c.args.server (event_of c.args.impulse) z (g.P.Parts.state c.note.new.self) (g.P.Parts.state c.react-done.new.parts)) (c.note.ensures ∙ ap (λ e. noted e (g.P.Parts.state c.args.parts.now)) c.event.ensures) c.react-done.ensures.cut (λ e. e)

pub returns-clause-whole : goal.returns-clause-whole
returns-clause-whole g c =
    concluded_whole (event_of c.args.impulse) (g.P.Parts.state c.args.parts.now) (g.P.Parts.state c.react-done.new.parts) (g.P.Parts.state c.conclude.new.parts) c.react-done.result c.conclude.result (IsDone c.args.server (event_of c.args.impulse) (g.P.Parts.state c.note.new.self) (g.P.Parts.state c.react-done.new.parts)) c.react-done.ensures.whole
    (λ w s. step_whole c.args.server c.args.impulse (g.P.Parts.state c.args.parts.now) (g.P.Parts.state c.note.new.self) (g.P.Parts.state c.react-done.new.parts) (g.P.Parts.state c.conclude.new.parts) (c.note.ensures ∙ ap (λ e. noted e (g.P.Parts.state c.args.parts.now)) c.event.ensures) w s) c.conclude.ensures

pub returns-clause-cut : goal.returns-clause-cut
returns-clause-cut g c =
    concluded_cut (event_of c.args.impulse) (g.P.Parts.state c.args.parts.now) (g.P.Parts.state c.note.new.self) (g.P.Parts.state c.react-done.new.parts) (g.P.Parts.state c.conclude.new.parts) c.react-done.result c.conclude.result (λ z. IsCut c.args.server (event_of c.args.impulse) z (g.P.Parts.state c.note.new.self) (g.P.Parts.state c.react-done.new.parts)) (c.note.ensures ∙ ap (λ e. noted e (g.P.Parts.state c.args.parts.now)) c.event.ensures) c.react-done.ensures.cut (λ e. e)
    (λ k s. step_cut c.args.server c.args.impulse (g.P.Parts.state c.args.parts.now) (g.P.Parts.state c.note.new.self) (g.P.Parts.state c.react-done.new.parts) (g.P.Parts.state c.conclude.new.parts) c.requires.goes (c.note.ensures ∙ ap (λ e. noted e (g.P.Parts.state c.args.parts.now)) c.event.ensures) k s) c.conclude.ensures

pub returns-clause-counted : goal.returns-clause-counted
returns-clause-counted g c =
    concluded_counted (own_reads (event_of c.args.impulse)) c.args.steps.now c.react-done.new.steps (event_of c.args.impulse) (g.P.Parts.state c.args.parts.now) (g.P.Parts.state c.note.new.self) (g.P.Parts.state c.react-done.new.parts) (g.P.Parts.state c.conclude.new.parts) c.react-done.result c.conclude.result (λ z. IsCut c.args.server (event_of c.args.impulse) z (g.P.Parts.state c.note.new.self) (g.P.Parts.state c.react-done.new.parts)) (c.note.ensures ∙ ap (λ e. noted e (g.P.Parts.state c.args.parts.now)) c.event.ensures) c.react-done.ensures.cut (λ e. e) c.react-done.ensures.counted c.conclude.ensures
