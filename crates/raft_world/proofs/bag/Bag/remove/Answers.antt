use Rattle.std.proofs.Common.{◌∙◌, sym, ap, arith}
use Rattle.raft_model.specs.World.{Bag}
use Rattle.raft_world.proofs.Numbering.{non_decreasing, taken_bytes, taken_order, without_place, without_none}
use Rattle.raft_world.proofs.bag.Bag.remove.Goals as goal

pub place-requires : goal.place-requires
place-requires c = non_decreasing c.self.inside.last c.self.inside.packets.items c.self.invariant.1.rises

pub returns-in_default : goal.returns-in_default
returns-in_default c =
    rw (← c.self.view_is)
    (let as_it_is : Bag = record { packets = c.self.inside.packets.items; last = c.self.inside.last } in
    ap (λ l. record as_it_is { packets = l }) (sym (without_none c.args.number c.self.inside.packets.items c.in_default.ensures.absent)))

pub overflow_sub-self : goal.overflow_sub-self
overflow_sub-self c = taken_bytes c.args.number c.self.inside.bytes c.self.inside.last c.self.inside.packets.items c.in-Some.at c.take_out.result c.in-Some.ensures.found c.self.invariant.1 c.take_out.ensures.bytes

pub invariant_of-self : goal.invariant_of-self
invariant_of-self c = (
  omega (arith, c.take_out.ensures.capacity, c.self.invariant.0),
  rw c.take_out.ensures.items (taken_order c.args.number c.self.inside.bytes c.self.inside.last c.self.inside.packets.items c.in-Some.at c.take_out.result c.in-Some.ensures.found c.self.invariant.1 c.take_out.ensures.bytes),
)

pub returns : goal.returns
returns c =
    rw (← c.self.view_is)
    (let as_it_is : Bag = record { packets = c.self.inside.packets.items; last = c.self.inside.last } in
    ap (λ l. record as_it_is { packets = l }) (c.take_out.ensures.items ∙ sym (without_place c.args.number c.self.inside.packets.items c.in-Some.at c.in-Some.ensures.found)))
