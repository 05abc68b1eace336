-- What holds of a cluster that serves, where its stores were empty or such as an earlier run of as many servers left.
use Rattle.std.specs.Prelude.{◌≡◌, ℕ, List, length, take, true}
use Rattle.cat_model.specs.Log.{IsWellFormed, IsEnteredOnce, commands_of}
use Rattle.cluster_rules.specs.Cluster.{Cluster, applied_of}
use Rattle.raft_model.specs.Node.{Store}
use Rattle.raft_model.specs.World.{AreEmpty}
use Rattle.cluster_rules.specs.Reached.{IsStart, Move, Reached}
use Rattle.cluster_rules.specs.Sound.{Sound}
use Rattle.run_rules.specs.Reads.{ReadsAreFresh, ReadsWait}
use Rattle.run_rules.specs.Holds.{IndexesTell}

pub record Holds (stores : List Store) (c : Cluster) : Type 0 where
  -- each answer came after its request, once, and what it rests on lasts
  pub sound : Sound c
  -- each server has applied a front of one agreed log
  pub fronts : (server : ℕ) → applied_of c server ≡ take (length (applied_of c server)) c.world.agreed
  -- which is well formed, and where the stores were empty has each request at most once
  pub formed : IsWellFormed c.world.agreed
  pub once : AreEmpty stores → IsEnteredOnce c.world.agreed
  -- and at whose prefixes indexes tell answers apart
  pub indexes : IndexesTell (commands_of c.world.agreed)
  -- a read is as fresh as its mode asks
  pub reads_fresh : ReadsAreFresh c
  -- And where memory sufficed in every event, it was answered with an index above the one given, or after its full wait by
  -- the clock of the server that held it.
  pub reads_wait : (start : Cluster) (moves : List Move) → IsStart start → Reached start true moves c → ReadsWait c.starts c.past
