use Rattle.file_keeper.proofs.Limits.{limits_of}
use Rattle.file_keeper.proofs.laws.journals_keep_limits.Goals as goal

pub returns : goal.returns
returns c = limits_of
