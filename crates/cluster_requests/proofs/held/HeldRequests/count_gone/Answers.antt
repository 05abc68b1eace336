use Rattle.std.proofs.Common.{is_some, ◌∙◌, ap, sym, subst}
use Rattle.cluster_requests.specs.Counts.{AreCounts}
use Rattle.cluster_requests.specs.Held.{HeldRequests, Rises, held_in, pending_of}
use Rattle.cluster_requests.proofs.Slots.{held_swept, rises_filter}
use Rattle.cluster_requests.proofs.held.HeldRequests.count_gone.Goals as goal

pub invariant_of-self-else-self-len : goal.invariant_of-self-else-self-len
invariant_of-self-else-self-len c = (
  subst Rises (sym c.sweep.ensures.items) (rises_filter (λ s. is_some (pending_of s)) c.self.inside.slots.items c.self.invariant.0),
  subst (AreCounts c.self.inside.waiting) (sym (ap held_in c.sweep.ensures.items ∙ held_swept c.self.inside.slots.items)) c.self.invariant.1,
)

pub returns-else-self-len-clause-requests : goal.returns-else-self-len-clause-requests
returns-else-self-len-clause-requests c = ap held_in c.sweep.ensures.items ∙ held_swept c.self.inside.slots.items ∙ ap (λ (r : HeldRequests). r.requests) c.self.view_is
