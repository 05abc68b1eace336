use Rattle.node_link.specs.Hosts.{untold}
use Rattle.node_link.proofs.history.History.begun.Given as goal

abbrev pub ghost-of : goal.ghost-of
ghost-of g a = untold a.shown.now
