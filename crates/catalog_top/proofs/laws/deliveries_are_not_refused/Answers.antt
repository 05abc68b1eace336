use Rattle.catalog_top.proofs.Unrefused.{unrefused, is_short}
use Rattle.catalog_top.proofs.laws.deliveries_are_not_refused.Goals as goal

pub returns-clause-unrefused : goal.returns-clause-unrefused
returns-clause-unrefused c = unrefused

pub returns-clause-short : goal.returns-clause-short
returns-clause-short c = is_short
