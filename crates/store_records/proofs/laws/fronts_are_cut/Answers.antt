use Rattle.store_records.proofs.RecordReads.{front_is_cut}
use Rattle.store_records.proofs.laws.fronts_are_cut.Goals as goal

pub returns : goal.returns
returns c = front_is_cut
