use Rattle.std.proofs.Common.{◌≡◌, drop, map}
use Rattle.httparse.specs.Spans.{header_bytes}
use Rattle.http_wire.specs.Judge.{has_value}
use Rattle.http_wire.proofs.judge.has_value_in.Given as goal

abbrev pub invariant-headers : goal.invariant-headers
invariant-headers l = has_value l.name l.value (map (header_bytes l.buf) (drop l.header-index l.headers)) ≡ has_value l.name l.value (map (header_bytes l.buf) l.headers)
