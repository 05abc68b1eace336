-- Which servers have a number, and what the rule of commit reads of a server.
use Rattle.std.specs.Prelude.{ℕ, ◌==◌, ◌||◌, nat_le, false, List, [], None}
use Rattle.cat_model.specs.declared.reply.Role.TheVariants.{Leader}
use Rattle.raft_model.specs.Log.{Log}
use Rattle.raft_model.specs.Node.{Node, of_server}
use Rattle.raft_model.specs.Quorum.{Servers}

-- a leader with these values, and nothing else
abbrev pub counting : ℕ → ℕ → ℕ → ℕ → Log → List ℕ → Node
counting id servers term commit log matched = record {
  id = id;
  servers = servers;
  store = record { contents = None; armed = 0; faults = 0; sure = false };
  term = term;
  vote = None;
  log = log;
  commit = commit;
  role = Leader;
  leader = None;
  halted = false;
  votes = [];
  round = 0;
  next = [];
  matched = matched;
  acked = [];
}

-- a server's number, in a list by server, is that or more, or it is the server id
unfoldable pub reached : ℕ → List ℕ → ℕ → Servers
reached id numbers least peer = peer == id || nat_le least (of_server numbers peer)
