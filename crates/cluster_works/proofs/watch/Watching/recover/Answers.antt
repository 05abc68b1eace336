use Rattle.std.proofs.Common.{inr, refl, ◌∙◌}
use Rattle.cluster_requests.specs.Held.{held_in}
use Rattle.cluster_works.proofs.Recovering.{added_next, any_due}
use Rattle.cluster_works.proofs.watch.Watching.recover.Goals as goal

pub loop-slot-preserved : goal.loop-slot-preserved
loop-slot-preserved c =
    let i = c.loop-slot.invariant in (
      c.add_slot.ensures.all ∙ i.0,
      c.add_slot.ensures.servers ∙ i.1,
      c.add_slot.ensures.seen ∙ i.2,
      added_next c.loop-slot.self.watch.awake c.add_slot.new.self.watch.awake c.args.slots.now c.loop-slot.slot-index c.slot-item.result c.loop-slot-test.true c.slot-item.is c.add_slot.ensures.kept (c.if-not-add_slot.ensures.there refl) i.3,
    )

pub returns-then-not-add_slot-clause-awake : goal.returns-then-not-add_slot-clause-awake
returns-then-not-add_slot-clause-awake c = inr (any_due c.add_slot.new.self (held_in c.args.slots.now) (c.add_slot.ensures.all ∙ c.loop-slot.invariant.0))
