use Rattle.std.proofs.Common.{length}
use Rattle.node_service.proofs.outbox.+count_bytes.Given as goal

abbrev pub decreases-count_bytes : goal.decreases-count_bytes
decreases-count_bytes l = length l.entries.now
