-- Why a request is refused, and what a function that reads one gives.
use Rattle.std.specs.Prelude.{◌≡◌, ℕ, Bool, true, false, List, [], ◌∷◌, Option, None, Some, Result, Ok, Err, ⊤, codes}
use Rattle.cat_model.specs.declared.reply.Refusal.{Refusal}
use Rattle.cat_model.specs.declared.reply.Refusal.TheVariants as refusals
use Rattle.json_bodies.specs.Fields as fields
use Rattle.json_bodies.specs.declared.error.ReadError.{ReadError}
use Rattle.json_bodies.specs.declared.error.ReadError.TheVariants as why
use Rattle.http_routes.specs.declared.error.Parameter.{Parameter}
use Rattle.http_routes.specs.declared.error.Parameter.TheVariants as p
use Rattle.http_routes.specs.declared.error.Allow.{Allow}
use Rattle.http_routes.specs.declared.error.Allow.TheVariants as allows
use Rattle.http_routes.specs.declared.error.RouteError.{RouteError}
use Rattle.http_routes.specs.declared.error.RouteError.TheVariants.{NoRoute, Method, Target, Body, TooLarge, Memory}

abbrev pub name_of : Parameter → List ℕ
name_of p.Key = codes "key"
name_of p.Name = codes "name"
name_of p.Node = codes "node"
name_of p.State = codes "state"
name_of p.Id = codes "id"
name_of p.IdOrName = codes "idn"
name_of p.Dc = codes "dc"
name_of p.Mode = codes "stale,consistent"
name_of p.Index = codes "index"
name_of p.Wait = codes "wait"
name_of p.Filter = codes "filter"
name_of p.Conditions = codes "cas,acquire,release"
name_of p.Cas = codes "cas"
name_of p.Acquire = codes "acquire"
name_of p.Release = codes "release"
name_of p.Flags = codes "flags"
name_of p.CasOfTree = codes "cas,recurse"
name_of p.Limit = codes "limit"
name_of p.Note = codes "note"

-- methods in byte order
abbrev pub methods_of : Allow → List (List ℕ)
methods_of allows.Get = codes "GET" ∷ []
methods_of allows.Put = codes "PUT" ∷ []
methods_of allows.GetPost = codes "GET" ∷ codes "POST" ∷ []
methods_of allows.DeleteGetPut = codes "DELETE" ∷ codes "GET" ∷ codes "PUT" ∷ []

abbrev pub refusal_of : RouteError → Refusal
refusal_of NoRoute = refusals.NotFound (codes "Not found")
refusal_of (Method allow) = refusals.Method (methods_of allow)
refusal_of (Target parameter) = refusals.Invalid (name_of parameter)
refusal_of (Body field) = refusals.Invalid (fields.name_of field)
refusal_of TooLarge = refusals.TooLarge
refusal_of Memory = refusals.Memory

-- ---- reading stops at the first fault

infixl 10 ◌>>=◌
abbrev pub ◌>>=◌ : {A B : Type 0} → Result A RouteError → (A → Result B RouteError) → Result B RouteError
(Ok x) >>= f = f x
(Err e) >>= f = Err e

-- the part of the target is wrong
abbrev pub refuse : {A : Type 0} → Parameter → Result A RouteError
refuse parameter = Err (Target parameter)

abbrev pub refuse_if : Bool → Parameter → Result ⊤ RouteError
refuse_if true parameter = refuse parameter
refuse_if false parameter = Ok tt

abbrev pub or_refuse : {A : Type 0} → Parameter → Option A → Result A RouteError
or_refuse parameter None = refuse parameter
or_refuse parameter (Some x) = Ok x

-- what is read from a body
abbrev pub error_of : ReadError → RouteError
error_of (why.Invalid field) = Body field
error_of why.TooLarge = TooLarge
error_of why.Memory = Memory

abbrev pub in_body : {A : Type 0} → Result A ReadError → Result A RouteError
in_body (Ok x) = Ok x
in_body (Err e) = Err (error_of e)

-- ---- What a function returned is what reading gives, unless memory ran out.

abbrev pub Fails : {A : Type 0} → RouteError → Result A RouteError → Type 0
Fails Memory read = Unit {0}
Fails NoRoute read = read ≡ Err NoRoute
Fails (Method allow) read = read ≡ Err (Method allow)
Fails (Target parameter) read = read ≡ Err (Target parameter)
Fails (Body field) read = read ≡ Err (Body field)
Fails TooLarge read = read ≡ Err TooLarge

abbrev pub Gives : {A : Type 0} → Result A RouteError → Result A RouteError → Type 0
Gives (Ok x) read = read ≡ Ok x
Gives (Err e) read = Fails e read
