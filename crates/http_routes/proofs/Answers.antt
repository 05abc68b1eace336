-- How what is read in steps is taken: a step and what follows it.
use Rattle.std.proofs.Common.{◌≡◌, Bool, true, false, cond, Result, Ok, Err, IfOk}
use Rattle.cat_model.specs.declared.command.Command.{Command}
use Rattle.cat_model.specs.declared.request.Request.{Request}
use Rattle.cat_model.specs.declared.request.Request.TheVariants.{Write}
use Rattle.json_bodies.specs.declared.error.ReadError.{ReadError}
use Rattle.http_routes.specs.declared.error.RouteError.{RouteError}
use Rattle.http_routes.specs.Errors.{◌>>=◌, in_body}
use Rattle.cat_model.specs.Taken.{is_command_taken, is_taken}

-- the request, if there is one, is taken
abbrev pub IsFit : Result Request RouteError → Type 0
IsFit r = IfOk r (λ request. is_taken request ≡ true)

-- the command that a body asks for, if it asks for one, is taken
abbrev pub IsFitCommand : Result Command ReadError → Type 0
IsFitCommand r = IfOk r (λ command. is_command_taken command ≡ true)

pub after : {A : Type 0} (r : Result A RouteError) (f : A → Result Request RouteError) → ((a : A) → IsFit (f a)) → IsFit (r >>= f)
after (Err why) f h = tt
after (Ok a) f h = h a

pub after_command : (r : Result Command ReadError) → IsFitCommand r → IsFit (in_body r >>= λ command. Ok (Write command))
after_command (Err why) h = tt
after_command (Ok command) h = h

pub of_test : (b : Bool) (x y : Result Request RouteError) → IsFit x → IsFit y → IsFit (cond b x y)
of_test true x y p q = p
of_test false x y p q = q
