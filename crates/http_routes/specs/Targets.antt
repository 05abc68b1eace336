-- The two parts of a target, and the parameter of a path (RFC 3986, sections 2.1, 3.3 and 3.4).
use Rattle.std.specs.Prelude.{ℕ, if◌then◌else◌, List, Result, Ok}
use Rattle.std.specs.Str.{is_utf8}
use Rattle.form_urlencoded.specs.Form.{split_once}
use Rattle.percent_encoding.specs.Percent.{percent_decode}
use Rattle.http_routes.specs.declared.error.Parameter.{Parameter}
use Rattle.http_routes.specs.declared.error.RouteError.{RouteError}
use Rattle.http_routes.specs.Errors.{refuse}

-- The path is the target up to the first `?`, and the query is what follows it.
abbrev pub path_of : List ℕ → List ℕ
path_of target = (split_once 63 target).0

abbrev pub query_of : List ℕ → List ℕ
query_of target = (split_once 63 target).1

-- A parameter is percent-decoded once, and is then a text.
unfoldable pub text_of : Parameter → List ℕ → Result (List ℕ) RouteError
text_of parameter part = if is_utf8 (percent_decode part) then Ok (percent_decode part) else refuse parameter
