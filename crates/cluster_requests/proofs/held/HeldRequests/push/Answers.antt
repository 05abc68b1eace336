use Rattle.std.proofs.Common.{◌<◌, ◌∙◌, ◌∷◌, ◌++◌, [], List, ap, sym, subst, arith}
use Rattle.std.specs.List.{AllByRecursion as Each}
use Rattle.cluster_rules.specs.Cluster.{Pending}
use Rattle.cluster_requests.specs.declared.slot.HeldSlot.{HeldSlot}
use Rattle.cluster_requests.specs.declared.slot.HeldSlot.TheVariants.{Held}
use Rattle.cluster_requests.specs.Counts.{AreCounts}
use Rattle.cluster_requests.specs.Held.{HeldRequests, Rises, held_in, slot_number}
use Rattle.cluster_requests.proofs.Counting.{can_come, more_counts}
use Rattle.cluster_requests.proofs.Slots.{held_more, rises_last}
use Rattle.cluster_requests.proofs.held.HeldRequests.push.Goals as goal

pub invariant_of-self : goal.invariant_of-self
invariant_of-self c =
    let below = subst (λ n. Each (λ (s : HeldSlot). slot_number s < n) c.make_last.new.slots.items) c.number.ensures c.make_last.ensures.last in (
      subst Rises (sym c.push_reserved.ensures.items) (rises_last c.make_last.new.slots.items (Held c.args.pending) below c.make_last.ensures.items.1),
      subst (λ (l : List HeldSlot). AreCounts c.count_in.new.counts (held_in l)) (sym c.push_reserved.ensures.items)
          (more_counts c.self.inside.waiting c.count_in.new.counts c.make_last.new.slots.items (Held c.args.pending) (subst (AreCounts c.self.inside.waiting) (sym c.make_last.ensures.items.0) c.self.invariant.1) c.count_in.ensures),
    )

pub count_in-requires : goal.count_in-requires
count_in-requires c = can_come c.self.inside.waiting c.make_last.new.slots.items (Held c.args.pending) (omega arith) (subst (AreCounts c.self.inside.waiting) (sym c.make_last.ensures.items.0) c.self.invariant.1)

pub returns-clause-requests : goal.returns-clause-requests
returns-clause-requests c =
    ap held_in c.push_reserved.ensures.items ∙ held_more c.make_last.new.slots.items (Held c.args.pending ∷ [])
    ∙ ap (λ (l : List Pending). l ++ c.args.pending ∷ []) (c.make_last.ensures.items.0 ∙ ap (λ (r : HeldRequests). r.requests) c.self.view_is)
