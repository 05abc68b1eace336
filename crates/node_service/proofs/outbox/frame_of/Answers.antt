use Rattle.node_service.proofs.Frames.{body_short}
use Rattle.node_service.proofs.outbox.frame_of.Goals as goal

pub write_message-requires : goal.write_message-requires
write_message-requires c = body_short c.args.sender c.args.message.now c.requires
