use Rattle.std.proofs.Common.{◌≡◌, ◌<◌, ◌≤◌, length, map, sym, ◌∙◌, ap, subst, arith}
use Rattle.cluster_requests.specs.Held.{Rises, held_in, slot_ended}
use Rattle.cluster_requests.proofs.Fronts.{front_none, front_step, front_all}
use Rattle.cluster_requests.proofs.Slots.{held_ended, rises_ended}
use Rattle.cluster_requests.proofs.held.end_each.Goals as goal

pub loop-slot-init : goal.loop-slot-init
loop-slot-init c = sym (front_none (slot_ended c.args.server c.args.event) c.args.slots.now)

pub loop-slot-preserved : goal.loop-slot-preserved
loop-slot-preserved c =
    let low : c.loop-slot.slot-index < length c.loop-slot.slots = omega (arith, c.loop-slot-test.true, c.loop-slot.auto.slots) in
    front_step (slot_ended c.args.server c.args.event) c.args.slots.now c.loop-slot.slots c.loop-slot.slot-index c.slot-item.result c.end.new.self c.loop-slot.invariant c.end.ensures low

pub returns-clause-held : goal.returns-clause-held
returns-clause-held c =
    let past : length c.args.slots.now ≤ c.loop-slot.slot-index = omega (arith, c.loop-slot-test.false, c.loop-slot.auto.slots) in
    let all : c.loop-slot.slots ≡ map (slot_ended c.args.server c.args.event) c.args.slots.now = c.loop-slot.invariant ∙ front_all (slot_ended c.args.server c.args.event) c.args.slots.now c.loop-slot.slot-index past in
    ap held_in all ∙ held_ended c.args.server c.args.event c.args.slots.now

pub returns-clause-rises : goal.returns-clause-rises
returns-clause-rises c =
    let past : length c.args.slots.now ≤ c.loop-slot.slot-index = omega (arith, c.loop-slot-test.false, c.loop-slot.auto.slots) in
    let all : c.loop-slot.slots ≡ map (slot_ended c.args.server c.args.event) c.args.slots.now = c.loop-slot.invariant ∙ front_all (slot_ended c.args.server c.args.event) c.args.slots.now c.loop-slot.slot-index past in
    subst Rises (sym all) (rises_ended c.args.server c.args.event c.args.slots.now c.requires)
