use Rattle.node_link.specs.Hosts.{event_of, told}
use Rattle.node_link.proofs.history.History.then.Given as goal

abbrev pub ghost-of : goal.ghost-of
ghost-of g a = told a.shown.now.0.value.process (event_of a.shown.now.1.value) a.shown.now.2.value.process.start a.shown.now.3.value
