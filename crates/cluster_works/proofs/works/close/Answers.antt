use Rattle.std.proofs.Common.{ap}
use Rattle.cluster_requests.specs.Requests.{Requests}
use Rattle.cluster_works.proofs.Kept.{close_call, forget_stands}
use Rattle.cluster_works.proofs.works.close.Goals as goal

pub returns-clause-stands : goal.returns-clause-stands
returns-clause-stands c = λ w servers s.
    forget_stands c.args.watch.now c.forget.new.self w servers c.close.new.self c.args.requests.now.held c.args.number (ap (λ (r : Requests). r.held) c.in_ok-close.ensures.ok)
    c.forget.ensures.kept c.forget.ensures.slept c.forget.ensures.servers c.forget.ensures.lines c.forget.ensures.seen
    (close_call c.args.watch.now w servers c.args.requests.now c.close.new.self c.args.number c.args.event c.close.result s c.close.ensures.ok c.close.ensures.err)

pub returns-in_err-close-clause-stands : goal.returns-in_err-close-clause-stands
returns-in_err-close-clause-stands c = λ w servers s. close_call c.args.watch.now w servers c.args.requests.now c.close.new.self c.args.number c.args.event c.close.result s c.close.ensures.ok c.close.ensures.err
