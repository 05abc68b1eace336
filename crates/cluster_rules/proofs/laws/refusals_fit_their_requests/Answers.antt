use Rattle.cluster_rules.proofs.Wrong.{good_never_invalid, bad_keeps_its_refusal, read_never_lost, write_never_crowded, read_never_full}
use Rattle.cluster_rules.proofs.laws.refusals_fit_their_requests.Goals as goal

pub returns-clause-good : goal.returns-clause-good
returns-clause-good c = good_never_invalid

pub returns-clause-bad : goal.returns-clause-bad
returns-clause-bad c = bad_keeps_its_refusal

pub returns-clause-lost : goal.returns-clause-lost
returns-clause-lost c = read_never_lost

pub returns-clause-crowded : goal.returns-clause-crowded
returns-clause-crowded c = write_never_crowded

pub returns-clause-full : goal.returns-clause-full
returns-clause-full c = read_never_full
