-- Why a cluster did not begin.
use Rattle.std.specs.Prelude.{ℕ, List, map}
use Rattle.cluster_interface.specs.Starting.{HasFailed}
use Rattle.http_front.specs.declared.cluster.NotBegun.{NotBegun}
use Rattle.http_front.specs.declared.cluster.NotBegun.TheVariants.{Failed, Memory}

-- A store could not be read, which it has counted, as those that come back show. Lack of memory has no cause.
abbrev pub HasCause : {K : Type 0} → (K → ℕ) → List K → NotBegun K → Type 0
HasCause faults keepers (Failed back) = HasFailed (map faults keepers) (map faults back)
HasCause faults keepers Memory = Unit {0}
