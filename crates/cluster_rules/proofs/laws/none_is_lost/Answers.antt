use Rattle.cluster_rules.proofs.Answers.{found_once, none_beyond}
use Rattle.cluster_rules.proofs.laws.none_is_lost.Goals as goal

pub returns-clause-once : goal.returns-clause-once
returns-clause-once c = found_once

pub returns-clause-none : goal.returns-clause-none
returns-clause-none c = λ c b k l. none_beyond c b.none_lost k l
