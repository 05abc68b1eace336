use Rattle.std.proofs.Common.{length}
use Rattle.peer_frames.proofs.limits.+count_in_log.Given as goal

abbrev pub decreases-count_in_log : goal.decreases-count_in_log
decreases-count_in_log l = length l.entries.now
