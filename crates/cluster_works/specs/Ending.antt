-- The ends of sessions.
use Rattle.cat_model.specs.declared.command.Command.{Command}
use Rattle.cat_model.specs.declared.command.Command.TheVariants.{SessionDestroy}
use Rattle.session_ttl.specs.declared.ends.Ending.{Ending}

-- the command that ends a session
abbrev pub end_command : Ending → Command
end_command ending = SessionDestroy ending.id
