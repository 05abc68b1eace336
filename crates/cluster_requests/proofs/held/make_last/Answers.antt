use Rattle.std.proofs.Common.{◌<◌, is_some, ◌∙◌, ap, sym, subst}
use Rattle.std.specs.List.{AllByRecursion as Each}
use Rattle.cluster_requests.specs.declared.slot.HeldSlot.{HeldSlot}
use Rattle.cluster_requests.specs.Held.{Rises, held_in, pending_of, slot_number}
use Rattle.cluster_requests.proofs.Slots.{held_swept, rises_filter, swept_below}
use Rattle.cluster_requests.proofs.held.make_last.Goals as goal

pub returns-then-not-is_last-clause-items : goal.returns-then-not-is_last-clause-items
returns-then-not-is_last-clause-items c = (
  ap held_in c.sweep.ensures.items ∙ held_swept c.args.slots.now.items,
  subst Rises (sym c.sweep.ensures.items) (rises_filter (λ s. is_some (pending_of s)) c.args.slots.now.items c.requires.rises),
)

pub returns-then-not-is_last-clause-last : goal.returns-then-not-is_last-clause-last
returns-then-not-is_last-clause-last c = subst (Each (λ (s : HeldSlot). slot_number s < c.args.number)) (sym c.sweep.ensures.items) (swept_below c.args.number c.args.slots.now.items c.requires.last)
