use Rattle.std.proofs.Common.{List}
use Rattle.cat_model.specs.declared.command.Command.{Command}
use Rattle.dns_server.specs.Cached.{AllHold}
use Rattle.dns_server.proofs.cache.empty_places.Given as goal

abbrev pub invariant-loop : goal.invariant-loop
invariant-loop l = (commands : List Command) → AllHold commands l.places.items
