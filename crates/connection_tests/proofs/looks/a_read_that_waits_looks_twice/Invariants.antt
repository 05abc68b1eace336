use Rattle.std.proofs.Common.{Some, true, [], ◌∷◌}
use Rattle.cat_model.specs.Keeping.{nothing_kept}
use Rattle.cluster_interface.specs.Starting.{store_of}
use Rattle.connection_tests.proofs.looks.a_read_that_waits_looks_twice.Given as goal

-- the cluster is of one server over an empty store, and one agent
abbrev pub ghosts-is_answered-J-ClusterSize : goal.ghosts-is_answered-J-ClusterSize
ghosts-is_answered-J-ClusterSize g a = record { size = record { stores = store_of (Some nothing_kept) 0 0 true ∷ []; agents = 1 } }

-- its publisher and its viewer are of the history that was opened
abbrev pub ghosts-is_answered-J-PairName : goal.ghosts-is_answered-J-PairName
ghosts-is_answered-J-PairName g a = record { book = a.opened.front.book }
