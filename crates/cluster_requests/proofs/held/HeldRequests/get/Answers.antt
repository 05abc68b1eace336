use Rattle.std.proofs.Common.{◌==◌, ◌∙◌, ap, sym}
use Rattle.std.specs.List.{find}
use Rattle.cluster_rules.specs.Cluster.{Pending}
use Rattle.cluster_requests.specs.Held.{HeldRequests, pending_of}
use Rattle.cluster_requests.proofs.Slots.{found_at, others_by, others_found}
use Rattle.cluster_requests.proofs.held.HeldRequests.get.Goals as goal

pub returns-in-Some : goal.returns-in-Some
returns-in-Some c =
    let number = c.args.number in
    let at = c.in-Some.at in
    let found = c.in-Some.ensures in
    let place = rw c.as_slice.ensures.value at found in
    let d = c.index.result.now in
    c.pending.ensures ∙ ap pending_of c.index.ensures ∙ found_at number c.self.inside.slots.items at d c.self.invariant.0 place.0 (place.1 d)
    ∙ ap (λ (r : HeldRequests). find (λ (h : Pending). h.question.number == number) r.requests) c.self.view_is

pub returns-in-None : goal.returns-in-None
returns-in-None c =
    let number = c.args.number in
    let none = c.in-None.ensures in
    let place = rw c.as_slice.ensures.value at none in
    sym (others_found number c.self.inside.slots.items (others_by number c.self.inside.slots.items place))
    ∙ ap (λ (r : HeldRequests). find (λ (h : Pending). h.question.number == number) r.requests) c.self.view_is
