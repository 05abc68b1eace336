use Rattle.std.proofs.Common.{ap}
use Rattle.cluster_requests.specs.Requests.{Requests}
use Rattle.cluster_works.proofs.Kept.{answer_call, forget_stands}
use Rattle.cluster_works.proofs.works.answer.Goals as goal

pub returns-clause-stands : goal.returns-clause-stands
returns-clause-stands c = λ w servers s.
    forget_stands c.args.watch.now c.forget.new.self w servers c.answer.new.self c.args.requests.now.held c.args.number (ap (λ (r : Requests). r.held) c.in_ok-answer.ensures.ok)
    c.forget.ensures.kept c.forget.ensures.slept c.forget.ensures.servers c.forget.ensures.lines c.forget.ensures.seen
    (answer_call c.args.watch.now w servers c.args.requests.now c.answer.new.self c.args.number c.args.kind _ _ _ c.answer.result s c.answer.ensures.ok c.answer.ensures.err)

pub returns-in_err-answer-clause-stands : goal.returns-in_err-answer-clause-stands
returns-in_err-answer-clause-stands c = λ w servers s. answer_call c.args.watch.now w servers c.args.requests.now c.answer.new.self c.args.number c.args.kind _ _ _ c.answer.result s c.answer.ensures.ok c.answer.ensures.err
