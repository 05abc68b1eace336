-- The methods of a path. A path with another method than it has is refused with those that it has.
use Rattle.std.specs.Prelude.{ℕ, if◌then◌else◌, List, Result, Ok, Err, ⊤, codes, bytes_eq}
use Rattle.cat_model.specs.declared.request.Request.{Request}
use Rattle.http_routes.specs.declared.error.Allow.{Allow}
use Rattle.http_routes.specs.declared.error.Allow.TheVariants as allows
use Rattle.http_routes.specs.declared.error.RouteError.{RouteError}
use Rattle.http_routes.specs.declared.error.RouteError.TheVariants.{Method}
use Rattle.http_routes.specs.declared.params.Pair.{Pair}
use Rattle.http_routes.specs.Errors.{◌>>=◌}

-- what a method of a path asks for, by the parameters of the query and the body
abbrev pub Asks : Type 0
Asks = List Pair → List ℕ → Result Request RouteError

-- the same by the method
abbrev pub Methods : Type 0
Methods = List ℕ → Asks

abbrev pub only : List ℕ → Allow → List ℕ → Result ⊤ RouteError
only name allow method = if bytes_eq method name then Ok tt else Err (Method allow)

abbrev pub get : Asks → Methods
get asks method pairs body = only (codes "GET") allows.Get method >>= λ got. asks pairs body

abbrev pub put : Asks → Methods
put asks method pairs body = only (codes "PUT") allows.Put method >>= λ got. asks pairs body

abbrev pub get_post : Asks → Asks → Methods
get_post gets posts method pairs body =
    if bytes_eq method (codes "GET") then gets pairs body
    else (if bytes_eq method (codes "POST") then posts pairs body
    else Err (Method allows.GetPost))

abbrev pub delete_get_put : Asks → Asks → Asks → Methods
delete_get_put deletes gets puts method pairs body =
    if bytes_eq method (codes "DELETE") then deletes pairs body
    else (if bytes_eq method (codes "GET") then gets pairs body
    else (if bytes_eq method (codes "PUT") then puts pairs body
    else Err (Method allows.DeleteGetPut)))
