use Rattle.std.proofs.Common.{◌≡◌, ◌++◌, map}
use Rattle.form_urlencoded.specs.Parse.{owned_pairs_left}
use Rattle.http_routes.specs.Params.{pair_of, pairs_of}
use Rattle.http_routes.proofs.params.pairs_in.Given as goal

abbrev pub invariant-items : goal.invariant-items
invariant-items l = l.pairs ++ map pair_of (owned_pairs_left l.items) ≡ pairs_of l.fn.query
