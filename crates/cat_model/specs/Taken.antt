-- Which requests a cluster takes: all that a target and a body can ask for.
use Rattle.std.specs.Prelude.{◌≡◌, nat_le, Bool, true, false, length}
use Rattle.cat_model.specs.declared.command.Command.{Command}
use Rattle.cat_model.specs.declared.command.Command.TheVariants.{Noop, Txn, Reap}
use Rattle.cat_model.specs.declared.request.Request.{Request}
use Rattle.cat_model.specs.declared.request.Request.TheVariants.{Write}
use Rattle.cat_model.specs.declared.request.Asked.{Asked}
use Rattle.cat_model.specs.declared.request.Asked.TheVariants.{Good, Bad}

-- Every command that a request can ask for: no Noop and no Reap, which servers enter themselves, and transactions of at
-- most 64 operations.
abbrev pub is_command_taken : Command → Bool
is_command_taken Noop = false
is_command_taken (Txn ops) = nat_le (length ops) 64
is_command_taken Reap = false
is_command_taken other = true

abbrev pub is_taken : Request → Bool
is_taken (Write command) = is_command_taken command
is_taken other = true

-- what is no request is taken too: it is refused
abbrev pub IsTakenAsked : Asked → Type 0
IsTakenAsked (Good request) = is_taken request ≡ true
IsTakenAsked (Bad why) = Unit {0}
