use Rattle.std.proofs.Common.{◌≡◌, ◌++◌, drop}
use Rattle.http_routes.specs.Params.{all_of}
use Rattle.http_routes.proofs.params.all.Given as goal

abbrev pub invariant-pairs : goal.invariant-pairs
invariant-pairs l = l.texts ++ all_of l.name (drop l.pair-index l.pairs) ≡ all_of l.name l.pairs
