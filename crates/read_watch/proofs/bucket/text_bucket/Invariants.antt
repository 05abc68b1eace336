use Rattle.std.proofs.Common.{◌≡◌, ◌<◌, take}
use Rattle.std.specs.List.{fold}
use Rattle.read_watch.specs.Buckets.{mixed}
use Rattle.read_watch.proofs.bucket.text_bucket.Given as goal

abbrev pub invariant-loop-byte : goal.invariant-loop-byte
invariant-loop-byte l = (l.hash ≡ fold mixed l.start (take l.byte-index l.text)) × (l.hash < 65536)
