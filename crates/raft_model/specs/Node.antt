-- One server's values: what it keeps in its durable store, and what it knows while it runs (extended Raft paper,
-- figure 2, "State"). Servers have the numbers 1, 2, .., servers.
use Rattle.std.specs.Prelude.{ℕ, zero, suc, ◌==◌, Bool, false, List, [], ◌∷◌, ◌++◌, length, take, get_or, set, if◌then◌else◌, Option, None}
use Rattle.cat_model.specs.declared.reply.Role.{Role}
use Rattle.cat_model.specs.declared.reply.Role.TheVariants.{Follower}
pub use Rattle.cat_model.specs.declared.kept.Kept.{Kept}
use Rattle.raft_model.specs.declared.message.Message.{Message}
use Rattle.raft_model.specs.declared.message.Sent.{Sent}
use Rattle.raft_model.specs.Log.{Log}

-- A durable store. `contents` is none where the store does not tell. The call number `armed` from now on is to
-- fail, and 0 stands for none. `faults` is its count of failed calls. A store that is `sure` fails only where it is
-- armed, and then holds what it held.
pub record Store : Type 0 where
  pub contents : Option Kept
  pub armed : ℕ
  pub faults : ℕ
  pub sure : Bool

pub record Node : Type 0 where
  pub id : ℕ
  pub servers : ℕ
  pub store : Store
  pub term : ℕ
  pub vote : Option ℕ
  pub log : Log
  pub commit : ℕ
  pub role : Role
  pub leader : Option ℕ  -- the known leader
  pub halted : Bool
  pub votes : List ℕ  -- a candidate's: who voted for it
  pub round : ℕ  -- a leader's, as the three below, which are by server
  pub next : List ℕ
  pub matched : List ℕ
  pub acked : List ℕ  -- the round that it acknowledged

-- a server that has read this from its store
abbrev pub begun : ℕ → ℕ → Store → Kept → Node
begun id servers store kept = record {
  id = id;
  servers = servers;
  store = store;
  term = kept.term;
  vote = kept.vote;
  log = kept.log;
  commit = 0;
  role = Follower;
  leader = None;
  halted = false;
  votes = [];
  round = 0;
  next = [];
  matched = [];
  acked = [];
}

-- the index of the last entry
abbrev pub last : Node → ℕ
last n = length n.log

-- what the server has committed
abbrev pub committed : Node → Log
committed n = take n.commit n.log

-- of a list by server: server s's item, and 0 where there is no such server
abbrev pub of_server : List ℕ → ℕ → ℕ
of_server items zero = 0
of_server items (suc s) = get_or items s 0

-- the list with another item for server s
abbrev pub set_server : {A : Type 0} → List A → ℕ → A → List A
set_server items zero item = items
set_server items (suc s) item = set items s item

-- a node after an input, and what it sends
pub record Done : Type 0 where
  pub node : Node
  pub sent : List Sent

abbrev pub quiet : Node → Done
quiet n = record { node = n; sent = [] }

abbrev pub reply : Node → ℕ → Message → Done
reply n to message = record { node = n; sent = record { to = to; message = message } ∷ [] }

-- a message to each of the servers 1 to k but this one
abbrev pub to_others : ℕ → (ℕ → Message) → ℕ → List Sent
to_others id message zero = []
to_others id message (suc k) =
    if suc k == id then to_others id message k
    else to_others id message k ++ record { to = suc k; message = message (suc k) } ∷ []
