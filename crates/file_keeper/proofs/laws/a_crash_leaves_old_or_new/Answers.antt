use Rattle.file_keeper.proofs.Putting.{torn_cases}
use Rattle.file_keeper.proofs.laws.a_crash_leaves_old_or_new.Goals as goal

pub returns : goal.returns
returns c = torn_cases
