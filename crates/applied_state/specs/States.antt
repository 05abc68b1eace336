-- What a server has applied since it last started. (Extended Raft paper, figure 2, "State": lastApplied.)
use Rattle.std.specs.Prelude.{ℕ, List, [], ◌∷◌, ◌++◌, Option, None, Some, reverse}
use Rattle.cat_model.specs.Machine.{reply_to}
use Rattle.cat_model.specs.declared.applied.Applied.{Applied}
use Rattle.cat_model.specs.declared.command.Command.{Command}
use Rattle.cluster_rules.specs.Offices.{Office, no_office}

-- the commands, the first one first, the server's clock at each of them, in milliseconds, and its time in office
pub record ReplicaState : Type 0 where
  pub commands : List Command
  pub clocks : List ℕ
  pub office : Office

abbrev pub nothing_applied : ReplicaState
nothing_applied = record { commands = []; clocks = []; office = no_office }

-- with one more command, applied at this time of the clock
abbrev pub applied_at : Command → ℕ → ReplicaState → ReplicaState
applied_at command clock s = record s { commands = s.commands ++ command ∷ []; clocks = s.clocks ++ clock ∷ [] }

-- with another time in office
abbrev pub in_office : Office → ReplicaState → ReplicaState
in_office o s = record s { office = o }

-- the catalog's answer to the last command, looking back over the log
abbrev pub reply_back : List Command → Option Applied
reply_back [] = None
reply_back (c ∷ past) = Some (reply_to (reverse past) c)

abbrev pub last_reply : List Command → Option Applied
last_reply log = reply_back (reverse log)
