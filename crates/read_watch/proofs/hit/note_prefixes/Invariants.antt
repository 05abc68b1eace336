use Rattle.read_watch.proofs.Hits.{Prefixing}
use Rattle.read_watch.proofs.hit.note_prefixes.Given as goal

abbrev pub invariant-loop-byte : goal.invariant-loop-byte
invariant-loop-byte l = Prefixing l.list l.waiters.entries l.fired l.fn.found.keys l.key l.byte-index l.hash l.found.keys
