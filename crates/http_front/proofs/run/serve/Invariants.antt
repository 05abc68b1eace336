use Rattle.std.proofs.Common.{map}
use Rattle.cluster_interface.specs.Starting.{store_of}
use Rattle.http_front.proofs.run.serve.Given as goal

-- the cluster is over the stores that were made
abbrev pub ghosts-serve_sized-J-ClusterSize : goal.ghosts-serve_sized-J-ClusterSize
ghosts-serve_sized-J-ClusterSize g a = record { size = record { stores = map (λ k. store_of (g.S.K.Keeper.held k) (g.S.K.Keeper.armed k) (g.S.K.Keeper.faults k) (g.S.K.Keeper.sure k)) a.stores; agents = a.options.now.agents } }

-- its publisher and its viewers are of the history that was opened
abbrev pub ghosts-serve_sized-J-PairName : goal.ghosts-serve_sized-J-PairName
ghosts-serve_sized-J-PairName g a = record { book = a.opened.front.book }
