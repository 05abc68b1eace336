-- A node as its parts: its store, its log, and its state, which is all else. And what a step plans of them, before its
-- store calls are made.
use Rattle.std.specs.Prelude.{◌≡◌, ◌≢◌, ◌-◌, ◌^◌, ◌≤◌, nat_lt, Bool, true, false, not, ◌&&◌, [], ◌++◌, length, take, Option, Some, None}
use Rattle.std.specs.Option.{ForSome}
use Rattle.cat_model.specs.LogLimits.{keeps_limits}
use Rattle.cat_model.specs.declared.command.Entry.{Entry}
use Rattle.cat_model.specs.declared.reply.Role.TheVariants.{Follower}
use Rattle.raft_model.specs.Log.{Log}
use Rattle.raft_model.specs.Node.{Kept, Store, Node, Done}
use Rattle.raft_model.specs.Rules.{append_all, appended, candidate, is_leader, stands}
use Rattle.raft_node.specs.Counts.{IsCount}
use Rattle.raft_node.specs.declared.counted.Counted.{Counted}
use Rattle.raft_node.specs.declared.state.State.{State}
use Rattle.raft_node.specs.declared.state.Tail.{Tail}
use Rattle.raft_node.specs.declared.state.Planned.{Planned}

-- the node of these parts
abbrev pub seen : Store → State → Log → Node
seen store state log = record {
  id = state.id;
  servers = state.servers;
  store = store;
  term = state.term;
  vote = state.vote;
  log = log;
  commit = state.commit;
  role = state.role;
  leader = state.leader;
  halted = state.halted;
  votes = state.votes.items;
  round = state.round;
  next = state.next.items;
  matched = state.matched.items;
  acked = state.acked.items;
}

-- a store, for what reads none
abbrev pub nowhere : Store
nowhere = record { contents = None; armed = 0; faults = 0; sure = false }

-- two states that are one to a node
abbrev pub IsSame : State → State → Type 0
IsSame copy state = seen nowhere copy [] ≡ seen nowhere state []

-- the log after its entries behind the first `keep` were replaced
abbrev pub after : Log → Option Tail → Log
after log None = log
after log (Some tail) = take tail.keep log ++ tail.entries

-- a tail that changes the log, and stays within the limits where the log does
pub record MayReplace (log : Log) (tail : Tail) : Type 0 where
  pub within : tail.keep ≤ length log
  pub changes : take tail.keep log ++ tail.entries ≢ log
  pub limits : keeps_limits log ≡ true → keeps_limits (take tail.keep log ++ tail.entries) ≡ true

abbrev pub Fits : Log → Option Tail → Type 0
Fits log tail = ForSome tail (MayReplace log)

-- the node that was planned, and what it is to send
abbrev pub planned_of : Store → Log → Planned → Done
planned_of store log planned = record { node = seen store planned.state (after log planned.tail); sent = planned.sent }

-- A plan by a rule: it is what the rule gives, whatever the store.
pub record Plans (rule : Node → Done) (state : State) (log : Log) (planned : Planned) : Type 0 where
  pub done : (store : Store) → planned_of store log planned ≡ rule (seen store state log)
  pub fits : Fits log planned.tail
  pub running : planned.state.halted ≡ state.halted
  pub commit : state.commit ≤ length log → planned.state.commit ≤ length (after log planned.tail)

-- a leader that appends an entry, and sends it to all others
unfoldable pub appends : Entry → Node → Done
appends entry n = append_all (appended n entry)

-- a timeout of a server that does not lead and has a next term
unfoldable pub elects : Node → Done
elects n = candidate (stands n)

-- contents whose log is within the limits
abbrev pub KeepsLimits : Kept → Type 0
KeepsLimits kept = keeps_limits kept.log ≡ true

-- What a store that tells its contents holds: a log within the limits, which is the node's where it runs.
pub record HoldsLog (state : State) (log : Log) (kept : Kept) : Type 0 where
  pub limits : keeps_limits kept.log ≡ true
  pub same : state.halted ≡ false → kept.log ≡ log

-- What always holds of a node's parts.
pub record IsKept (held : Option Kept) (state : State) (log : Log) (count : Counted) : Type 0 where
  pub commit : state.commit ≤ length log
  pub halted : state.halted ≡ true → state.role ≡ Follower
  pub store : ForSome held (HoldsLog state log)
  pub counted : IsCount log count

-- a running server that a timeout makes a candidate
abbrev pub may_stand : Node → Bool
may_stand n = not n.halted && not (is_leader n.role) && nat_lt n.term (2 ^ 64 - 1)
