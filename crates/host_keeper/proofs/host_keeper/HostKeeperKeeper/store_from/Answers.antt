use Rattle.std.proofs.Common.{ap, ◌∙◌}
use Rattle.host_keeper.specs.Stores.{held_of}
use Rattle.host_keeper.proofs.host_keeper.HostKeeperKeeper.store_from.Goals as goal

pub store_from-requires-in-File : goal.store_from-requires-in-File
store_from-requires-in-File g c = λ kept told. c.requires kept (ap held_of c.in-File.is ∙ told)
