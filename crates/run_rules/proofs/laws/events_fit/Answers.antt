use Rattle.run_rules.proofs.Fitting.{event_fits}
use Rattle.run_rules.proofs.laws.events_fit.Goals as goal

pub returns : goal.returns
returns c = event_fits
