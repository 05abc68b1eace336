-- The servers of a cluster: their world, and what each has applied, which is the first entries of its node's log, as
-- many as its replica has commands.
use Rattle.std.specs.Prelude.{◌≡◌, ℕ, suc, ◌≤◌, ◌<◌, List, [], ◌∷◌, length, take}
use Rattle.cat_model.specs.Log.{commands_of}
use Rattle.raft_model.specs.Log.{entry_at}
use Rattle.raft_model.specs.Node.{Node, set_server}
use Rattle.raft_model.specs.World.{World}
use Rattle.cluster_rules.specs.Offices.{Office}
use Rattle.applied_state.specs.States.{ReplicaState}
use Rattle.cluster_rules.specs.Cluster.{Server, clock_of, no_server, node_of, server_of}
use Rattle.cluster_rules.specs.Due.{applies_entry}

-- what a cluster has beside its requests
pub record Servers : Type 0 where
  pub world : World
  pub servers : List Server

-- a server with this node and this replica
abbrev pub server_with : Node → ReplicaState → Server
server_with n r = record { applied = take (length r.commands) n.log; clocks = r.clocks; office = r.office }

-- the servers, in the order of their numbers
abbrev pub servers_with : List Node → List ReplicaState → List Server
servers_with [] rs = []
servers_with (n ∷ ns) [] = []
servers_with (n ∷ ns) (r ∷ rs) = server_with n r ∷ servers_with ns rs

-- A replica has the commands of the first entries of its node's log, of which the node has committed as many or more.
pub record Follows (n : Node) (r : ReplicaState) : Type 0 where
  pub committed : length r.commands ≤ n.commit
  pub there : length r.commands ≤ length n.log
  pub same : r.commands ≡ commands_of (take (length r.commands) n.log)

-- each node has its replica
abbrev pub AllFollow : List Node → List ReplicaState → Type 0
AllFollow [] [] = Unit {0}
AllFollow [] (r ∷ rs) = ⊥
AllFollow (n ∷ ns) [] = ⊥
AllFollow (n ∷ ns) (r ∷ rs) = Follows n r × AllFollow ns rs

-- more is committed at server i than applied
abbrev pub HasNext : Servers → ℕ → Type 0
HasNext s i = length (server_of s.servers i).applied < (node_of s.world i).commit

-- Server i has applied no more than its node has committed, and that has committed no more than its log has.
pub record IsBehind (s : Servers) (i : ℕ) : Type 0 where
  pub applied : length (server_of s.servers i).applied ≤ (node_of s.world i).commit
  pub committed : (node_of s.world i).commit ≤ length (node_of s.world i).log

-- server i applies its next position, at its clock's time
abbrev pub applies_next : ℕ → Servers → Servers
applies_next i s = record s {
  servers = set_server s.servers i (applies_entry (clock_of s.world i) (server_of s.servers i) (entry_at (suc (length (server_of s.servers i).applied)) (node_of s.world i).log));
}

-- server i with another time in office
abbrev pub officed : ℕ → Office → Servers → Servers
officed i o s = record s { servers = set_server s.servers i (record (server_of s.servers i) { office = o }) }

-- the same servers in this world
abbrev pub in_world : World → Servers → Servers
in_world w s = record s { world = w }

-- server i begins again, in this world, and has applied nothing
abbrev pub begins_again : ℕ → World → Servers → Servers
begins_again i w s = record { world = w; servers = set_server s.servers i no_server }
