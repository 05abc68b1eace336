-- A run over the stores that an earlier run left.
use Rattle.std.specs.Prelude.{List}
use Rattle.raft_model.specs.Node.{Store}
use Rattle.raft_model.specs.World.{Begins, HoldAll, Reaches, World}

-- It began over stores that hold what those of the earlier run's last world held, and reached this world.
pub record Follows (v w : World) : Type 0 where
  pub stores : List Store
  pub start : World
  pub held : HoldAll stores v.nodes
  pub begins : Begins stores start
  pub reaches : Reaches start w
