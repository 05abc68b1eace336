use Rattle.std.proofs.Common.{length}
use Rattle.peer_frames.proofs.limits.+count_all.Given as goal

abbrev pub decreases-count_all : goal.decreases-count_all
decreases-count_all l = length l.entries.now
