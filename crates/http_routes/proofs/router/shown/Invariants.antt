use Rattle.std.proofs.Common.{◌≡◌, take, map}
use Rattle.std.specs.String.{string_bytes}
use Rattle.http_routes.specs.Routers as spec
use Rattle.http_routes.proofs.router.shown.Given as goal

abbrev pub invariant-bytes : goal.invariant-bytes
invariant-bytes l = string_bytes l.text ≡ map spec.shown (take l.byte-index l.path)
