-- A request that was refused for a fault, other than lack of memory, asks for that refusal.
use Rattle.std.proofs.Common.{◌≡◌, Result, refl, ap}
use Rattle.cat_model.specs.declared.request.Asked.TheVariants.{Bad}
use Rattle.cat_model.specs.declared.request.Request.{Request}
use Rattle.http_routes.specs.declared.error.RouteError.{RouteError}
use Rattle.http_routes.specs.declared.error.RouteError.TheVariants.{NoRoute, Method, Target, Body, TooLarge, Memory}
use Rattle.http_routes.specs.Errors.{Fails, refusal_of}
use Rattle.http_routes.specs.Routes.{asked_of}

pub refused_is : (why : RouteError) (read : Result Request RouteError) → (why ≡ Memory → ⊥) → Fails why read → asked_of read ≡ Bad (refusal_of why)
refused_is NoRoute read other h = ap asked_of h
refused_is (Method allow) read other h = ap asked_of h
refused_is (Target parameter) read other h = ap asked_of h
refused_is (Body field) read other h = ap asked_of h
refused_is TooLarge read other h = ap asked_of h
refused_is Memory read other h = absurd (other refl)
