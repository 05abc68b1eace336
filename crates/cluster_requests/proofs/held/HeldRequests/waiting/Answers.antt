use Rattle.std.proofs.Common.{◌∙◌, ap}
use Rattle.cluster_rules.specs.Due.{waiting}
use Rattle.cluster_requests.specs.Held.{HeldRequests}
use Rattle.cluster_requests.proofs.held.HeldRequests.waiting.Goals as goal

pub returns-in-Some : goal.returns-in-Some
returns-in-Some c =
    c.in-Some.ensures.1 ∙ c.self.invariant.1 c.args.server c.in-Some.ensures.0 ∙ ap (λ (r : HeldRequests). waiting c.args.server r.requests) c.self.view_is
