use Rattle.std.proofs.Common.{◌≡◌, drop, map, Some, None}
use Rattle.httparse.specs.Spans.{header_bytes}
use Rattle.http_wire.specs.Judge.{values, one_length}
use Rattle.http_wire.proofs.judge.length_in.Given as goal

abbrev pub invariant-headers : goal.invariant-headers
invariant-headers l = one_length l.found (values l.name (map (header_bytes l.buf) (drop l.header-index l.headers))) ≡ one_length (Some None) (values l.name (map (header_bytes l.buf) l.headers))
