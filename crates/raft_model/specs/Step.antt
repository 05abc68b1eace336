-- A server's steps with its durable store: the calls that a step makes, and what becomes of it where one fails or
-- finds no memory.
use Rattle.std.specs.Prelude.{◌≡◌, ◌≢◌, ℕ, ◌+◌, ◌-◌, ◌^◌, ◌≤◌, min, ◌⊎◌, true, false, List, [], Option, Some, None}
use Rattle.cat_model.specs.declared.reply.Role.TheVariants.{Follower}
pub use Rattle.cat_model.specs.Keeping.{with_vote}
use Rattle.raft_model.specs.declared.message.Sent.{Sent}
use Rattle.raft_model.specs.Log.{Log}
use Rattle.raft_model.specs.Node.{Kept, Store, Node, begun}
use Rattle.raft_model.specs.Rules.{Input, done}

-- the contents after a change, where the store tells them
abbrev pub changed : (Kept → Kept) → Option Kept → Option Kept
changed change None = None
changed change (Some kept) = Some (change kept)

-- `save_vote` replaces term and vote, `store_from` gives the log that then stands, `load` changes nothing
abbrev pub with_log : Log → Kept → Kept
with_log log kept = record kept { log = log }

abbrev pub as_before : Kept → Kept
as_before kept = kept

-- A store call that worked.
pub record CallWorks (change : Kept → Kept) (old new : Store) : Type 0 where
  pub unarmed : old.armed ≢ 1
  pub armed : new.armed ≡ old.armed - 1
  pub faults : old.faults ≤ new.faults
  pub contents : new.contents ≡ changed change old.contents
  pub sure : new.sure ≡ old.sure

-- A store call that failed: the count of faults rose, and the store holds the old contents or the new. A store that is
-- sure was armed for this call, and holds the old.
pub record CallFails (change : Kept → Kept) (old new : Store) : Type 0 where
  pub armed : new.armed ≡ old.armed - 1
  pub faults : min (old.faults + 1) (2 ^ 64 - 1) ≤ new.faults
  pub contents : (new.contents ≡ old.contents) ⊎ (new.contents ≡ changed change old.contents)
  pub sure : new.sure ≡ old.sure
  pub asked : old.sure ≡ true → (old.armed ≡ 1) × (new.contents ≡ old.contents)

-- what a node has to save of its values
abbrev pub HasVoteOf : Node → Node → Type 0
HasVoteOf old new = (new.term ≡ old.term) × (new.vote ≡ old.vote)

abbrev pub SavesVote : Node → Node → Type 0
SavesVote old new = ¬ HasVoteOf old new

abbrev pub StoresLog : Node → Node → Type 0
StoresLog old new = new.log ≢ old.log

-- The step's `save_vote` worked, or there is none since neither term nor vote changed.
abbrev pub VoteSaved : Node → Node → Store → Store → Type 0
VoteSaved old new before after =
    (HasVoteOf old new × (after ≡ before)) ⊎ (SavesVote old new × CallWorks (with_vote new.term new.vote) before after)

-- The step's `store_from` worked, or there is none since the log did not change.
abbrev pub LogStored : Node → Node → Store → Store → Type 0
LogStored old new before after =
    ((new.log ≡ old.log) × (after ≡ before)) ⊎ (StoresLog old new × CallWorks (with_log new.log) before after)

-- A node whose store failed: its term, vote, log and commit are as before, and it does nothing until a restart.
abbrev pub halts : Node → Store → Node
halts n store = record n { store = store; role = Follower; leader = None; halted = true }

-- A node whose `save_vote` worked and whose `store_from` found no memory.
abbrev pub forgets : Node → Node → Store → Node
forgets old new store = record old { store = store; term = new.term; vote = new.vote; role = Follower; leader = None }

-- what became of a step's store calls
pub data Outcome : Type 0 where
  Works : Outcome
  VoteFails : Outcome  -- `save_vote` failed
  LogFails : Outcome  -- `store_from` failed
  Forgets : Outcome  -- `save_vote` worked, and `store_from` found no memory

-- One step: the node `old` is given an input and becomes `new`, and these are sent.
abbrev pub NodeStep : Outcome → Node → Input → Node → List Sent → Type 0
NodeStep Works old input new sent =
    (between : Store) × VoteSaved old (done old input).node old.store between × LogStored old (done old input).node between new.store
    × (new ≡ record (done old input).node { store = new.store }) × (sent ≡ (done old input).sent)
NodeStep VoteFails old input new sent =
    SavesVote old (done old input).node × CallFails (with_vote (done old input).node.term (done old input).node.vote) old.store new.store
    × (new ≡ halts old new.store) × (sent ≡ [])
NodeStep LogFails old input new sent =
    (between : Store) × VoteSaved old (done old input).node old.store between
    × StoresLog old (done old input).node × CallFails (with_log (done old input).node.log) between new.store
    × (new ≡ halts old new.store) × (sent ≡ [])
NodeStep Forgets old input new sent =
    SavesVote old (done old input).node × CallWorks (with_vote (done old input).node.term (done old input).node.vote) old.store new.store
    × StoresLog old (done old input).node × (new ≡ forgets old (done old input).node new.store) × (sent ≡ [])

-- what a `load` answers: the contents, where the store tells them
abbrev pub Reads : Store → Kept → Type 0
Reads store kept = (store.contents ≡ None) ⊎ (store.contents ≡ Some kept)

-- A server starts: a follower with commit 0 and no known leader.
abbrev pub Starts : ℕ → ℕ → Store → Node → Type 0
Starts id servers store new = (kept : Kept) × CallWorks as_before store new.store × Reads store kept × (new ≡ begun id servers new.store kept)

-- A restart reads the store anew. A failed read halts, with commit 0.
abbrev pub restarted : Node → Store → Kept → Node
restarted n store kept = record n { store = store; term = kept.term; vote = kept.vote; log = kept.log; commit = 0; role = Follower; leader = None; halted = false }

abbrev pub unread : Node → Store → Node
unread n store = record n { store = store; commit = 0; role = Follower; leader = None; halted = true }

abbrev pub RestartWorks : Node → Node → Type 0
RestartWorks old new = (kept : Kept) × CallWorks as_before old.store new.store × Reads old.store kept × (new ≡ restarted old new.store kept)

abbrev pub RestartFails : Node → Node → Type 0
RestartFails old new = CallFails as_before old.store new.store × (new ≡ unread old new.store)

-- The store's call number nth from now on is to fail, in place of what was armed before.
abbrev pub arms : Node → ℕ → Node
arms n nth = record n { store = record n.store { armed = nth } }
