use Rattle.std.proofs.Common.{Some}
use Rattle.file_keeper.proofs.Putting.{vote_short}
use Rattle.file_keeper.proofs.tests.records_have_their_spellings.Goals as goal

pub write_record-requires : goal.write_record-requires
write_record-requires g c = vote_short 3 (Some 1)
