-- What was asked of a cluster.
use Rattle.std.specs.Prelude.{◌≡◌, ℕ, List, [], reverse}
use Rattle.cluster_rules.specs.Cluster.{Cluster}
use Rattle.turn_lock.specs.Lists.{numbers}
use Rattle.http_exchanges.specs.Marks.{opens}

-- the numbers of the requests that were asked of it, by its marks
abbrev pub asked_in : Cluster → List ℕ
asked_in c = numbers opens (reverse c.past)

-- none was asked yet
abbrev pub IsUnasked : Cluster → Type 0
IsUnasked c = asked_in c ≡ []
