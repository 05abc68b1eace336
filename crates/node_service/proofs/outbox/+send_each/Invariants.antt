use Rattle.std.proofs.Common.{length}
use Rattle.node_service.proofs.outbox.+send_each.Given as goal

abbrev pub decreases-send_each : goal.decreases-send_each
decreases-send_each g l = length l.messages.now
