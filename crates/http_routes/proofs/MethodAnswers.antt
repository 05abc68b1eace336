-- Methods of which each asks for requests that are taken ask for no others.
use Rattle.std.proofs.Common.{ℕ, List, Err, bytes_eq, codes}
use Rattle.http_routes.specs.declared.error.Allow.TheVariants as allows
use Rattle.http_routes.specs.declared.error.RouteError.TheVariants.{Method}
use Rattle.http_routes.specs.declared.params.Pair.{Pair}
use Rattle.http_routes.specs.Methods.{Asks, Methods, only, get, put, get_post, delete_get_put}
use Rattle.http_routes.proofs.Answers.{IsFit, after, of_test}

abbrev pub AsksFit : Asks → Type 0
AsksFit asks = (pairs : List Pair) (body : List ℕ) → IsFit (asks pairs body)

abbrev pub MethodsFit : Methods → Type 0
MethodsFit methods = (method : List ℕ) → AsksFit (methods method)

pub get_fits : (asks : Asks) → AsksFit asks → MethodsFit (get asks)
get_fits asks h method pairs body = after (only (codes "GET") allows.Get method) (λ got. asks pairs body) (λ got. h pairs body)

pub put_fits : (asks : Asks) → AsksFit asks → MethodsFit (put asks)
put_fits asks h method pairs body = after (only (codes "PUT") allows.Put method) (λ got. asks pairs body) (λ got. h pairs body)

pub get_post_fits : (gets posts : Asks) → AsksFit gets → AsksFit posts → MethodsFit (get_post gets posts)
get_post_fits gets posts g p method pairs body =
    of_test (bytes_eq method (codes "GET")) (gets pairs body) _ (g pairs body)
    (of_test (bytes_eq method (codes "POST")) (posts pairs body) (Err (Method allows.GetPost)) (p pairs body) tt)

pub delete_get_put_fits : (deletes gets puts : Asks) → AsksFit deletes → AsksFit gets → AsksFit puts → MethodsFit (delete_get_put deletes gets puts)
delete_get_put_fits deletes gets puts d g p method pairs body =
    of_test (bytes_eq method (codes "DELETE")) (deletes pairs body) _ (d pairs body)
    (of_test (bytes_eq method (codes "GET")) (gets pairs body) _ (g pairs body)
    (of_test (bytes_eq method (codes "PUT")) (puts pairs body) (Err (Method allows.DeleteGetPut)) (p pairs body) tt))
