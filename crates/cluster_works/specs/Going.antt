-- What is told of a server that is held for leader.
use Rattle.std.specs.Prelude.{ℕ}
use Rattle.cat_model.specs.declared.reply.Held.{Held}
use Rattle.raft_model.specs.World.{World}
use Rattle.cluster_rules.specs.Cluster.{node_of}

abbrev pub held_of : World → ℕ → Held
held_of w l = record { server = l; term = (node_of w l).term; role = (node_of w l).role }
