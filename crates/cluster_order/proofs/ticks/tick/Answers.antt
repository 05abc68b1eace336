use Rattle.cat_model.specs.declared.request.Event.TheVariants as event
use Rattle.cluster_order.specs.Turns.{IsCut, IsDone}
use Rattle.cluster_order.proofs.Keeping.{fits_kept, noted_keeps}
use Rattle.cluster_order.proofs.Clocked.{tick_whole, tick_cut}
use Rattle.cluster_order.proofs.Concluding.{concluded_counted, concluded_cut, concluded_whole, just_noted}
use Rattle.cluster_order.specs.Evaluations.{own_reads}
use Rattle.cluster_order.proofs.ticks.tick.Goals as goal

pub go_on-done-requires : goal.go_on-done-requires
go_on-done-requires g c = fits_kept (event.Tick c.args.server c.args.ms) (g.P.Parts.state c.args.parts.now) (g.P.Parts.state c.note.new.self) (noted_keeps (event.Tick c.args.server c.args.ms) (g.P.Parts.state c.args.parts.now) (g.P.Parts.state c.note.new.self) c.note.ensures) c.requires

pub conclude-requires : goal.conclude-requires
conclude-requires g c = just_noted (event.Tick c.args.server c.args.ms) (g.P.Parts.state c.args.parts.now) (g.P.Parts.state c.note.new.self) (g.P.Parts.state c.go_on-done.new.parts) c.go_on-done.result (λ z. IsCut c.args.server (event.Tick c.args.server c.args.ms) z (g.P.Parts.state c.note.new.self) (g.P.Parts.state c.go_on-done.new.parts)) c.note.ensures c.go_on-done.ensures.cut (λ e. e)

pub returns-clause-whole : goal.returns-clause-whole
returns-clause-whole g c =
    concluded_whole (event.Tick c.args.server c.args.ms) (g.P.Parts.state c.args.parts.now) (g.P.Parts.state c.go_on-done.new.parts) (g.P.Parts.state c.conclude.new.parts) c.go_on-done.result c.conclude.result (IsDone c.args.server (event.Tick c.args.server c.args.ms) (g.P.Parts.state c.note.new.self) (g.P.Parts.state c.go_on-done.new.parts)) c.go_on-done.ensures.whole
    (λ w s. tick_whole c.args.server c.args.ms (g.P.Parts.state c.args.parts.now) (g.P.Parts.state c.note.new.self) (g.P.Parts.state c.go_on-done.new.parts) (g.P.Parts.state c.conclude.new.parts) c.note.ensures w s) c.conclude.ensures

pub returns-clause-cut : goal.returns-clause-cut
returns-clause-cut g c =
    concluded_cut (event.Tick c.args.server c.args.ms) (g.P.Parts.state c.args.parts.now) (g.P.Parts.state c.note.new.self) (g.P.Parts.state c.go_on-done.new.parts) (g.P.Parts.state c.conclude.new.parts) c.go_on-done.result c.conclude.result (λ z. IsCut c.args.server (event.Tick c.args.server c.args.ms) z (g.P.Parts.state c.note.new.self) (g.P.Parts.state c.go_on-done.new.parts)) c.note.ensures c.go_on-done.ensures.cut (λ e. e)
    (λ k s. tick_cut c.args.server c.args.ms (g.P.Parts.state c.args.parts.now) (g.P.Parts.state c.note.new.self) (g.P.Parts.state c.go_on-done.new.parts) (g.P.Parts.state c.conclude.new.parts) c.note.ensures k s) c.conclude.ensures

pub returns-clause-counted : goal.returns-clause-counted
returns-clause-counted g c =
    concluded_counted (own_reads (event.Tick c.args.server c.args.ms)) c.args.steps.now c.go_on-done.new.steps (event.Tick c.args.server c.args.ms) (g.P.Parts.state c.args.parts.now) (g.P.Parts.state c.note.new.self) (g.P.Parts.state c.go_on-done.new.parts) (g.P.Parts.state c.conclude.new.parts) c.go_on-done.result c.conclude.result (λ z. IsCut c.args.server (event.Tick c.args.server c.args.ms) z (g.P.Parts.state c.note.new.self) (g.P.Parts.state c.go_on-done.new.parts)) c.note.ensures c.go_on-done.ensures.cut (λ e. e) c.go_on-done.ensures.counted c.conclude.ensures
