use Rattle.std.proofs.Common.{◌≡◌, ◌≢◌, None, sym, subst, ◌+◌, arith}
use Rattle.cluster_rules.specs.Due.{due}
use Rattle.cluster_rules.specs.Requests.{Goes}
use Rattle.cluster_order.specs.Turns.{IsServedCut, numbered}
use Rattle.cluster_order.proofs.Keeping.{server_kept, way_kept, works_keep, handled_server}
use Rattle.cluster_order.proofs.Working.{made_up_by, made_up_works, ok_by, err_within}
use Rattle.cluster_order.proofs.Numbering.{works_come, served_at_first, served_before, served_behind, served_by}
use Rattle.cluster_order.specs.Evaluations.{asked_reads, lacking}
use Rattle.cluster_order.proofs.Adding.{newest_adds}
use Rattle.cluster_order.proofs.Evaluating.{adds_same, evaluates_around, evaluates_cut, evaluates_more}
use Rattle.cluster_order.proofs.requests.serve.Goals as goal

pub make_up-requires : goal.make_up-requires
make_up-requires g c = c.requires.server

pub returns-in-Err-clause-cut : goal.returns-in-Err-clause-cut
returns-in-Err-clause-cut g c = served_at_first c.args.server c.args.agent c.args.asked.now c.args.draw c.in-Err.cut (g.P.Parts.state c.args.parts.now) (g.P.Parts.state c.make_up.new.parts) c.in-Err.ensures.cut

pub handle-requires-clause-server : goal.handle-requires-clause-server
handle-requires-clause-server g c = (server_kept (g.P.Parts.state c.args.parts.now) (g.P.Parts.state c.make_up.new.parts) c.args.server (works_keep c.args.server (g.P.Parts.state c.args.parts.now) (g.P.Parts.state c.make_up.new.parts) (made_up_works c.args.server c.in-Ok.was (g.P.Parts.state c.args.parts.now) (g.P.Parts.state c.make_up.new.parts) c.in-Ok.ensures.whole)) c.requires.server)

pub handle-requires-clause-takes : goal.handle-requires-clause-takes
handle-requires-clause-takes g c = c.requires.takes

pub handle-requires-clause-come : goal.handle-requires-clause-come
handle-requires-clause-come g c = works_come c.args.server c.args.agent c.args.asked.now c.args.draw (g.P.Parts.state c.args.parts.now) (g.P.Parts.state c.make_up.new.parts) (made_up_works c.args.server c.in-Ok.was (g.P.Parts.state c.args.parts.now) (g.P.Parts.state c.make_up.new.parts) c.in-Ok.ensures.whole) c.requires.come

pub handle-requires-clause-goes : goal.handle-requires-clause-goes
handle-requires-clause-goes g c = way_kept c.args.agent c.args.asked.now (Goes c.args.server) (g.P.Parts.state c.args.parts.now) (g.P.Parts.state c.make_up.new.parts) (works_keep c.args.server (g.P.Parts.state c.args.parts.now) (g.P.Parts.state c.make_up.new.parts) (made_up_works c.args.server c.in-Ok.was (g.P.Parts.state c.args.parts.now) (g.P.Parts.state c.make_up.new.parts) c.in-Ok.ensures.whole)) c.requires.goes

pub handle-requires-clause-made_up : goal.handle-requires-clause-made_up
handle-requires-clause-made_up g c = (made_up_by c.args.server c.in-Ok.was (g.P.Parts.state c.args.parts.now) (g.P.Parts.state c.make_up.new.parts) c.in-Ok.ensures.whole).1

pub finish-requires : goal.finish-requires
finish-requires g c = handled_server c.args.server c.args.server _ (numbered c.args.agent c.args.asked.now c.args.draw (g.P.Parts.state c.make_up.new.parts)) (g.P.Parts.state c.handle.new.self) c.in-Ok-handle.ensures.ok (server_kept (g.P.Parts.state c.args.parts.now) (g.P.Parts.state c.make_up.new.parts) c.args.server (works_keep c.args.server (g.P.Parts.state c.args.parts.now) (g.P.Parts.state c.make_up.new.parts) (made_up_works c.args.server c.in-Ok.was (g.P.Parts.state c.args.parts.now) (g.P.Parts.state c.make_up.new.parts) c.in-Ok.ensures.whole)) c.requires.server)

pub returns-in-Ok-handle-clause-whole : goal.returns-in-Ok-handle-clause-whole
returns-in-Ok-handle-clause-whole g c =
    ok_by c.finish.result (due c.args.server (g.P.Parts.state c.finish.new.parts) ≡ None) _ (λ n. served_by c.args.server c.args.agent c.args.asked.now c.args.draw c.in-Ok.was (g.P.Parts.state c.args.parts.now) (g.P.Parts.state c.make_up.new.parts) (g.P.Parts.state c.handle.new.self) (g.P.Parts.state c.finish.new.parts) c.in-Ok.ensures.whole c.in-Ok-handle.ensures.ok c.finish.ensures.works n) c.finish.ensures.none

pub returns-in-Ok-handle-clause-cut : goal.returns-in-Ok-handle-clause-cut
returns-in-Ok-handle-clause-cut g c =
    err_within c.finish.result (due c.args.server (g.P.Parts.state c.finish.new.parts) ≢ None) (λ found. IsServedCut c.args.server c.args.agent c.args.asked.now c.args.draw found (g.P.Parts.state c.args.parts.now) (g.P.Parts.state c.finish.new.parts)) c.finish.ensures.behind c.finish.ensures.within
    (λ n. served_behind c.args.server c.args.agent c.args.asked.now c.args.draw c.in-Ok.was (g.P.Parts.state c.args.parts.now) (g.P.Parts.state c.make_up.new.parts) (g.P.Parts.state c.handle.new.self) (g.P.Parts.state c.finish.new.parts) c.in-Ok.ensures.whole c.in-Ok-handle.ensures.ok c.finish.ensures.works n)

pub returns-in-Err-handle-clause-cut : goal.returns-in-Err-handle-clause-cut
returns-in-Err-handle-clause-cut g c =
    subst (λ z. IsServedCut c.args.server c.args.agent c.args.asked.now c.args.draw z (g.P.Parts.state c.args.parts.now) (g.P.Parts.state c.handle.new.self)) (sym c.cut_after.ensures) (served_before c.args.server c.args.agent c.args.asked.now c.args.draw c.in-Ok.was (g.P.Parts.state c.args.parts.now) (g.P.Parts.state c.make_up.new.parts) (g.P.Parts.state c.handle.new.self) c.in-Ok.ensures.whole c.in-Err-handle.ensures.err)

pub returns-in-Err-clause-counted : goal.returns-in-Err-clause-counted
returns-in-Err-clause-counted g c =
    evaluates_more 1 (asked_reads c.args.asked.now + 1) c.args.steps.now c.make_up.new.steps (g.P.Parts.state c.args.parts.now) (g.P.Parts.state c.make_up.new.parts) (omega arith) c.in-Err.ensures.counted

pub returns-in-Ok-handle-clause-counted : goal.returns-in-Ok-handle-clause-counted
returns-in-Ok-handle-clause-counted g c =
    evaluates_around (asked_reads c.args.asked.now) (lacking c.finish.result) c.args.steps.now c.make_up.new.steps c.finish.new.steps (g.P.Parts.state c.args.parts.now) (g.P.Parts.state c.make_up.new.parts) (g.P.Parts.state c.handle.new.self) (g.P.Parts.state c.finish.new.parts) c.in-Ok.ensures.counted (newest_adds c.args.server c.args.agent c.args.asked.now c.args.draw (g.P.Parts.state c.make_up.new.parts) (g.P.Parts.state c.handle.new.self) c.in-Ok-handle.ensures.ok) c.finish.ensures.counted

pub returns-in-Err-handle-clause-counted : goal.returns-in-Err-handle-clause-counted
returns-in-Err-handle-clause-counted g c =
    evaluates_cut (asked_reads c.args.asked.now) c.args.steps.now c.make_up.new.steps (g.P.Parts.state c.args.parts.now) (g.P.Parts.state c.make_up.new.parts) (g.P.Parts.state c.handle.new.self) c.in-Ok.ensures.counted (adds_same (asked_reads c.args.asked.now) (g.P.Parts.state c.make_up.new.parts) (g.P.Parts.state c.handle.new.self) c.in-Err-handle.ensures.err)
