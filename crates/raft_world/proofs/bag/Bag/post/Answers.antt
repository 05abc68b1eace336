use Rattle.std.proofs.Common.{◌≡◌, arith, add-one, suc, refl}
use Rattle.raft_model.specs.World.{Packet, message_bytes}
use Rattle.raft_world.proofs.Numbering.{rises_more, bytes_more}
use Rattle.raft_world.proofs.bag.Bag.post.Goals as goal

pub invariant_of-self : goal.invariant_of-self
invariant_of-self c =
    let b = c.self.inside in
    let old = c.self.invariant.1 in
    let p : Packet = record { number = suc b.last; from = c.args.from; to = c.args.sent.to; message = c.args.sent.message } in
    let bytes : c.message_bytes-bytes.result ≡ message_bytes c.args.sent.message = omega (arith, c.message_bytes-bytes.ensures, c.if-bytes-self.false, old.within) in
    let more = bytes_more b.packets.items p in
    let rises = rises_more 0 b.last b.packets.items p refl old.rises in (
      omega (arith, c.push_back_reserved.ensures.capacity, c.self.invariant.0),
      record {
        counted = rw (c.push_back_reserved.ensures.items, add-one b.last) (omega (arith, more, old.counted, bytes));
        within = omega (arith, c.if-bytes-self.false, old.within);
        rises = rw (c.push_back_reserved.ensures.items, add-one b.last) rises;
      },
    )
