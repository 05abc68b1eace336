use Rattle.std.proofs.Common.{◌∙◌, List, ap, sym, subst}
use Rattle.cluster_rules.specs.Due.{without}
use Rattle.cluster_requests.specs.declared.slot.HeldSlot.{HeldSlot}
use Rattle.cluster_requests.specs.declared.slot.HeldSlot.TheVariants.{LetGo}
use Rattle.cluster_requests.specs.Counts.{AreCounts}
use Rattle.cluster_requests.specs.Held.{HeldRequests, Rises, held_in}
use Rattle.cluster_requests.proofs.Counting.{can_leave, left_counts}
use Rattle.cluster_requests.proofs.Slots.{let_go_at, others_by, others_stay, rises_set}
use Rattle.cluster_requests.proofs.held.HeldRequests.let_go.Goals as goal

pub invariant_of-self : goal.invariant_of-self
invariant_of-self c =
    let found = c.in-Some.ensures in
    let place = rw c.as_slice.ensures.value at found in
    let new = LetGo c.args.number in (
      subst Rises (sym c.set_at.ensures.items) (rises_set c.self.inside.slots.items c.in-Some.at new place.0 (sym (place.1 new)) c.self.invariant.0),
      subst (λ (l : List HeldSlot). AreCounts c.count_out.new.counts (held_in l)) (sym c.set_at.ensures.items)
          (left_counts c.self.inside.waiting c.count_out.new.counts c.self.inside.slots.items c.in-Some.at c.args.number c.index.result.now place.0 c.index.ensures c.self.invariant.1 c.count_out.ensures),
    )

pub count_out-requires : goal.count_out-requires
count_out-requires c =
    let found = c.in-Some.ensures in
    let place = rw c.as_slice.ensures.value at found in
    can_leave c.self.inside.waiting c.self.inside.slots.items c.in-Some.at c.index.result.now place.0 c.index.ensures c.self.invariant.1

pub returns-in-Some-clause-requests : goal.returns-in-Some-clause-requests
returns-in-Some-clause-requests c =
    let found = c.in-Some.ensures in
    let place = rw c.as_slice.ensures.value at found in
    let new = LetGo c.args.number in
    c.count_gone.ensures.requests ∙ ap held_in c.set_at.ensures.items ∙ let_go_at c.args.number c.self.inside.slots.items c.in-Some.at new c.self.invariant.0 place.0 (place.1 new)
    ∙ ap (λ (r : HeldRequests). without c.args.number r.requests) c.self.view_is

pub returns-in_default-clause-requests : goal.returns-in_default-clause-requests
returns-in_default-clause-requests c =
    let none = c.in_default.ensures in
    let place = rw c.as_slice.ensures.value at none in
    let is = ap (λ (r : HeldRequests). r.requests) c.self.view_is in
    sym is ∙ others_stay c.args.number c.self.inside.slots.items (others_by c.args.number c.self.inside.slots.items place) ∙ ap (without c.args.number) is
