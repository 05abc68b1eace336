-- What a server writes.
use Rattle.std.specs.Prelude.{ℕ, List, ◌++◌, codes}
use Rattle.std.specs.Fmt.{decimal}
use Rattle.cluster_rules.specs.Cluster.{Cluster}
use Rattle.run_rules.specs.Plays.{Whole}
use Rattle.script_player.specs.Text.{last_text}

-- the line that it writes once it listens
abbrev pub listening_text : ℕ → List ℕ
listening_text port = codes "listening " ++ decimal port ++ codes "\n"

-- and all that it writes where it leaves this cluster
abbrev pub served_text : ℕ → Cluster → List ℕ
served_text port c = listening_text port ++ last_text Whole c
