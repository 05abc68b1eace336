use Rattle.run_rules.proofs.Fitting.{event_fits}
use Rattle.cluster.proofs.cluster.Cluster.step.Goals as goal

pub make-requires-clause-fits : goal.make-requires-clause-fits
make-requires-clause-fits g c = event_fits c.args.self.now c.args.event.now c.requires.fits
