-- What is tested of many requests, in this order: the datacenter, the mode, the index, the wait, that no filter is
-- left, and after a path's own parameters the length of the body. Consul, HTTP API: "Consistency Modes", "Blocking
-- Queries", "Filtering".
use Rattle.std.specs.Prelude.{ℕ, nat_le, false, if◌then◌else◌, List, length, Result, Ok, Err, ⊤, codes}
use Rattle.cat_model.specs.declared.query.Query.{Query}
use Rattle.cat_model.specs.declared.request.Mode.{Mode}
use Rattle.cat_model.specs.declared.request.Mode.TheVariants.{Default, Consistent, Stale}
use Rattle.cat_model.specs.declared.request.Request.{Request}
use Rattle.cat_model.specs.declared.request.Request.TheVariants.{Read}
use Rattle.json_bodies.specs.Durations.{duration_of}
use Rattle.json_bodies.specs.Registers.{is_other_center}
use Rattle.http_routes.specs.declared.error.Parameter.TheVariants as p
use Rattle.http_routes.specs.declared.error.RouteError.{RouteError}
use Rattle.http_routes.specs.declared.error.RouteError.TheVariants.{TooLarge}
use Rattle.http_routes.specs.declared.params.Pair.{Pair}
use Rattle.http_routes.specs.declared.checks.Reading.{Reading}
use Rattle.http_routes.specs.Errors.{◌>>=◌, refuse, refuse_if, name_of}
use Rattle.http_routes.specs.Params.{first_of, is_there, is_on, text_at, of_option, number_at}

-- there is one datacenter
unfoldable pub center_at : List Pair → Result ⊤ RouteError
center_at pairs = refuse_if (is_other_center (text_at (codes "dc") pairs)) p.Dc

unfoldable pub mode_at : List Pair → Result Mode RouteError
mode_at pairs =
    if is_on (codes "stale") pairs
    then (if is_on (codes "consistent") pairs then refuse p.Mode else Ok Stale)
    else (if is_on (codes "consistent") pairs then Ok Consistent else Ok Default)

-- the most milliseconds that a read waits
unfoldable pub wait_at : List Pair → Result ℕ RouteError
wait_at pairs = of_option 0 p.Wait duration_of (first_of (name_of p.Wait) pairs)

-- there is no filter that was not read
unfoldable pub unfiltered_at : List Pair → Result ⊤ RouteError
unfiltered_at pairs = refuse_if (is_there (codes "filter") pairs) p.Filter

-- no body is longer than this
abbrev pub most : ℕ
most = 1048576

unfoldable pub short : ℕ → List ℕ → Result ⊤ RouteError
short limit body = if nat_le (length body) limit then Ok tt else Err TooLarge

-- ---- a request that reads no mode, and one that reads no parameter of its own either

unfoldable pub plain_at : List Pair → Result ⊤ RouteError
plain_at pairs = center_at pairs >>= λ center. unfiltered_at pairs

unfoldable pub plain : List Pair → List ℕ → Result ⊤ RouteError
plain pairs body = plain_at pairs >>= λ done. short most body

-- ---- a read

unfoldable pub reading : List Pair → List ℕ → Result Reading RouteError
reading pairs body = do
  center ← center_at pairs
  mode ← mode_at pairs
  index ← number_at p.Index pairs
  wait ← wait_at pairs
  unfiltered ← unfiltered_at pairs
  fits ← short most body
  Ok (record { mode = mode; min = index; wait_ms = wait })

abbrev pub read : Query → Reading → Request
read query r = Read query r.mode r.min r.wait_ms false
