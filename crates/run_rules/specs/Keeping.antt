-- What a step leaves as it is, whatever else it does.
use Rattle.std.specs.Prelude.{◌≡◌, List, [], ◌++◌, length}
use Rattle.cat_model.specs.declared.reply.Mark.{Mark}
use Rattle.cluster_rules.specs.Cluster.{Cluster}
use Rattle.cluster_rules.specs.Reached.{moves_of}

-- As many agents, no request more, and no marks more but those that name no move: answers, halts and entries.
pub record Keeps (c c' : Cluster) : Type 0 where
  pub agents : length c'.agents ≡ length c.agents
  pub asked : c'.asked ≡ c.asked
  pub more : List Mark
  pub past : c'.past ≡ more ++ c.past
  pub quiet : moves_of more ≡ []
