use Rattle.std.proofs.Common.{refl, sym, subst, ◌∙◌, ap}
use Rattle.cat_model.specs.declared.request.Event.TheVariants as event
use Rattle.cluster_rules.specs.Cluster.{Cluster}
use Rattle.cluster_rules.specs.Requests.{Goes}
use Rattle.cluster_rules.specs.Step.{noted}
use Rattle.cluster_order.specs.Turns.{IsCome, IsServed, IsServedCut}
use Rattle.cluster_order.proofs.Keeping.{server_kept, way_kept, noted_keeps}
use Rattle.cluster_order.proofs.Numbering.{ask_whole, ask_cut}
use Rattle.cluster_order.proofs.Concluding.{concluded_counted, concluded_cut, concluded_whole, just_noted}
use Rattle.cluster_order.specs.Evaluations.{own_reads}
use Rattle.cluster_order.proofs.requests.ask_at.Goals as goal

pub note_request-requires : goal.note_request-requires
note_request-requires g c = subst (λ x. g.P.Parts.takes x) (sym c.deref.ensures) c.requires.takes

pub serve-done-requires-clause-server : goal.serve-done-requires-clause-server
serve-done-requires-clause-server g c = server_kept (g.P.Parts.state c.args.parts.now) (g.P.Parts.state c.note_request.new.self) c.args.server (noted_keeps (event.Ask c.args.agent c.args.asked.now c.args.draw) (g.P.Parts.state c.args.parts.now) (g.P.Parts.state c.note_request.new.self) (c.note_request.ensures ∙ ap (λ x. noted (event.Ask c.args.agent x c.args.draw) (g.P.Parts.state c.args.parts.now)) c.deref.ensures)) c.requires.server

pub serve-done-requires-clause-takes : goal.serve-done-requires-clause-takes
serve-done-requires-clause-takes g c = c.requires.takes

pub serve-done-requires-clause-come : goal.serve-done-requires-clause-come
serve-done-requires-clause-come g c = subst (λ (z : Cluster). IsCome c.args.agent c.args.asked.now c.args.draw z.past) (sym (c.note_request.ensures ∙ ap (λ x. noted (event.Ask c.args.agent x c.args.draw) (g.P.Parts.state c.args.parts.now)) c.deref.ensures)) refl

pub serve-done-requires-clause-goes : goal.serve-done-requires-clause-goes
serve-done-requires-clause-goes g c = way_kept c.args.agent c.args.asked.now (Goes c.args.server) (g.P.Parts.state c.args.parts.now) (g.P.Parts.state c.note_request.new.self) (noted_keeps (event.Ask c.args.agent c.args.asked.now c.args.draw) (g.P.Parts.state c.args.parts.now) (g.P.Parts.state c.note_request.new.self) (c.note_request.ensures ∙ ap (λ x. noted (event.Ask c.args.agent x c.args.draw) (g.P.Parts.state c.args.parts.now)) c.deref.ensures)) c.requires.goes

pub conclude-requires : goal.conclude-requires
conclude-requires g c = just_noted (event.Ask c.args.agent c.args.asked.now c.args.draw) (g.P.Parts.state c.args.parts.now) (g.P.Parts.state c.note_request.new.self) (g.P.Parts.state c.serve-done.new.parts) c.serve-done.result (λ z. IsServedCut c.args.server c.args.agent c.args.asked.now c.args.draw z (g.P.Parts.state c.note_request.new.self) (g.P.Parts.state c.serve-done.new.parts)) (c.note_request.ensures ∙ ap (λ x. noted (event.Ask c.args.agent x c.args.draw) (g.P.Parts.state c.args.parts.now)) c.deref.ensures) c.serve-done.ensures.cut (λ e. e)

pub returns-clause-whole : goal.returns-clause-whole
returns-clause-whole g c =
    concluded_whole (event.Ask c.args.agent c.args.asked.now c.args.draw) (g.P.Parts.state c.args.parts.now) (g.P.Parts.state c.serve-done.new.parts) (g.P.Parts.state c.conclude.new.parts) c.serve-done.result c.conclude.result (IsServed c.args.server c.args.agent c.args.asked.now c.args.draw (g.P.Parts.state c.note_request.new.self) (g.P.Parts.state c.serve-done.new.parts)) c.serve-done.ensures.whole
    (λ w s. ask_whole c.args.server c.args.agent c.args.asked.now c.args.draw (g.P.Parts.state c.args.parts.now) (g.P.Parts.state c.note_request.new.self) (g.P.Parts.state c.serve-done.new.parts) (g.P.Parts.state c.conclude.new.parts) c.requires.goes (c.note_request.ensures ∙ ap (λ x. noted (event.Ask c.args.agent x c.args.draw) (g.P.Parts.state c.args.parts.now)) c.deref.ensures) w s) c.conclude.ensures

pub returns-clause-cut : goal.returns-clause-cut
returns-clause-cut g c =
    concluded_cut (event.Ask c.args.agent c.args.asked.now c.args.draw) (g.P.Parts.state c.args.parts.now) (g.P.Parts.state c.note_request.new.self) (g.P.Parts.state c.serve-done.new.parts) (g.P.Parts.state c.conclude.new.parts) c.serve-done.result c.conclude.result (λ z. IsServedCut c.args.server c.args.agent c.args.asked.now c.args.draw z (g.P.Parts.state c.note_request.new.self) (g.P.Parts.state c.serve-done.new.parts)) (c.note_request.ensures ∙ ap (λ x. noted (event.Ask c.args.agent x c.args.draw) (g.P.Parts.state c.args.parts.now)) c.deref.ensures) c.serve-done.ensures.cut (λ e. e)
    (λ k s. ask_cut c.args.server c.args.agent c.args.asked.now c.args.draw (g.P.Parts.state c.args.parts.now) (g.P.Parts.state c.note_request.new.self) (g.P.Parts.state c.serve-done.new.parts) (g.P.Parts.state c.conclude.new.parts) c.requires.goes (c.note_request.ensures ∙ ap (λ x. noted (event.Ask c.args.agent x c.args.draw) (g.P.Parts.state c.args.parts.now)) c.deref.ensures) k s) c.conclude.ensures

pub returns-clause-counted : goal.returns-clause-counted
returns-clause-counted g c =
    concluded_counted (own_reads (event.Ask c.args.agent c.args.asked.now c.args.draw)) c.args.steps.now c.serve-done.new.steps (event.Ask c.args.agent c.args.asked.now c.args.draw) (g.P.Parts.state c.args.parts.now) (g.P.Parts.state c.note_request.new.self) (g.P.Parts.state c.serve-done.new.parts) (g.P.Parts.state c.conclude.new.parts) c.serve-done.result c.conclude.result (λ z. IsServedCut c.args.server c.args.agent c.args.asked.now c.args.draw z (g.P.Parts.state c.note_request.new.self) (g.P.Parts.state c.serve-done.new.parts)) (c.note_request.ensures ∙ ap (λ x. noted (event.Ask c.args.agent x c.args.draw) (g.P.Parts.state c.args.parts.now)) c.deref.ensures) c.serve-done.ensures.cut (λ e. e) c.serve-done.ensures.counted c.conclude.ensures
