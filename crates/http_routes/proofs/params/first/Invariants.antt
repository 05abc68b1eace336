use Rattle.std.proofs.Common.{◌≡◌, drop}
use Rattle.http_routes.specs.Params.{first_of}
use Rattle.http_routes.proofs.params.first.Given as goal

abbrev pub invariant-pairs : goal.invariant-pairs
invariant-pairs l = first_of l.name (drop l.pair-index l.pairs) ≡ first_of l.name l.pairs
