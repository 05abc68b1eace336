use Rattle.std.proofs.Common.{◌≡◌, ◌<◌, drop}
use Rattle.http_wire.specs.Judge.{value_after}
use Rattle.http_wire.proofs.judge.value_of.Given as goal

abbrev pub invariant-digits : goal.invariant-digits
invariant-digits l = (value_after l.value (drop l.byte-index l.text) ≡ value_after 0 l.text) × (l.value < 18446744073709551616)
