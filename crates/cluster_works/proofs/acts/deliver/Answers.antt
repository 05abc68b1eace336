use Rattle.cat_model.specs.declared.request.Event.TheVariants as event
use Rattle.raft_model.specs.Rules.{Receive}
use Rattle.raft_model.specs.World.{numbered}
use Rattle.cluster_works.proofs.Acting.{acts_by, delivery, packet_for, receives}
use Rattle.cluster_works.proofs.acts.deliver.Goals as goal

pub returns : goal.returns
returns g c = λ gs wt s.
    let packet = packet_for gs wt (numbered c.args.number c.args.servers.now.world.bag.packets) c.args.server c.requires.goes in
    let found = delivery gs wt c.deliver-made.result c.args.servers.now.world c.deliver-made.new.self.world c.args.number packet.0 c.args.server packet.1 packet.2 c.deliver-made.ensures.ok c.deliver-made.ensures.memory in
    acts_by gs wt c.args.server (event.Deliver c.args.number) (Receive packet.0.from packet.0.message) c.args.servers.now.world c.args.servers.now.servers c.deliver-made.new.self c.seat.new.servers c.args.requests.now c.end.new.requests
    c.see-before.result c.see-now.result c.agreed.result.now c.deliver-made.result c.end.result s c.deliver-made.ensures.servers tt (receives gs wt c.args.servers.now.world c.args.number packet.0 c.args.server packet.1 packet.2)
    found.0 found.1 c.see-before.ensures.seen c.see-now.ensures.seen c.seat.ensures c.agreed.ensures c.end.ensures
