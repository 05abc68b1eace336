use Rattle.rerun_rules.proofs.Beginning.{ahead_foremost, empty_ahead}
use Rattle.rerun_rules.proofs.leader.empty_stores_are_ahead.Goals as goal

pub returns : goal.returns
returns c = record { empty = empty_ahead; foremost = λ first stores a. ahead_foremost stores first a }
