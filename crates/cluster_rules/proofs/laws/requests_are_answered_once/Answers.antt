use Rattle.cluster_rules.proofs.Once.{answered_once, held_unanswered}
use Rattle.cluster_rules.proofs.laws.requests_are_answered_once.Goals as goal

pub returns-clause-once : goal.returns-clause-once
returns-clause-once c = answered_once

pub returns-clause-held : goal.returns-clause-held
returns-clause-held c = held_unanswered
