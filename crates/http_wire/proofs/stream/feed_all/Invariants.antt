use Rattle.std.proofs.Common.{length, map}
use Rattle.http_wire.specs.State.{given, Taking}
use Rattle.http_wire.proofs.stream.feed_all.Given as goal

abbrev pub invariant-feed : goal.invariant-feed
invariant-feed l = Taking l.fn.reader (map given l.fn.items.items) l.piece l.reader (map given l.items.items) l.rest

abbrev pub decreases-feed : goal.decreases-feed
decreases-feed l = length l.rest
