use Rattle.run_rules.proofs.Serving.{is_booked}
use Rattle.run_rules.proofs.serving_laws.serving_is_booked.Goals as goal

pub returns : goal.returns
returns c = is_booked
