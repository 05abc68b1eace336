use Rattle.std.proofs.Common.{◌≡◌, ◌+◌, ◌≤◌, length, drop, map}
use Rattle.httparse.specs.Spans.{header_bytes}
use Rattle.http_wire.specs.Judge.{values}
use Rattle.http_wire.proofs.judge.count_of.Given as goal

abbrev pub invariant-headers : goal.invariant-headers
invariant-headers l =
    (l.count + length (values l.name (map (header_bytes l.buf) (drop l.header-index l.headers))) ≡ length (values l.name (map (header_bytes l.buf) l.headers)))
    × (l.count ≤ l.header-index)
