use Rattle.std.proofs.Common.{rules, ◌≡◌, ◌+◌, subst, sym}
use Rattle.cluster_order.proofs.Working.{err_any}
use Rattle.cluster_order.specs.Evaluations.{EvaluatesIn, asked_reads, lacking}
use Rattle.cluster_order.proofs.requests.ask.Goals as goal

pub request-requires-clause-agent : goal.request-requires-clause-agent
request-requires-clause-agent g c = c.requires.agent

pub request-requires-clause-takes : goal.request-requires-clause-takes
request-requires-clause-takes g c = c.requires.takes

pub returns-in_err-request-clause-whole : goal.returns-in_err-request-clause-whole
returns-in_err-request-clause-whole g c = search rules

pub returns-in_err-request-clause-number : goal.returns-in_err-request-clause-number
returns-in_err-request-clause-number g c = search rules

pub returns-in_err-request-clause-cut : goal.returns-in_err-request-clause-cut
returns-in_err-request-clause-cut g c = err_any c.from_residual.result _ c.in_err-request.ensures.cut

pub returns-clause-whole : goal.returns-clause-whole
returns-clause-whole g c = c.in_ok-request.ensures.whole

pub returns-clause-number : goal.returns-clause-number
returns-clause-number g c = c.asked.ensures

pub returns-in_err-request-clause-counted : goal.returns-in_err-request-clause-counted
returns-in_err-request-clause-counted g c =
    let one : lacking c.from_residual.result ≡ 1 = search rules in
    subst (λ n. EvaluatesIn (asked_reads c.args.asked.now + n) c.args.steps.now c.request.new.steps (g.P.Parts.state c.args.parts.now) (g.P.Parts.state c.request.new.parts)) (sym one) c.in_err-request.ensures.counted

pub returns-clause-counted : goal.returns-clause-counted
returns-clause-counted g c =
    c.in_ok-request.ensures.counted
