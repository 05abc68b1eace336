-- What becomes of a node whose step was planned, as its store calls go.
use Rattle.std.specs.Prelude.{◌≡◌, ◌≢◌, ℕ, ◌+◌, ◌⊎◌, List, [], Bool, true, false, Option, Result, Ok, Err}
use Rattle.raft_model.specs.declared.message.Place.{Place}
use Rattle.raft_model.specs.declared.message.Sent.{Sent}
use Rattle.raft_node.specs.declared.fault.ProposeFault.{ProposeFault}
use Rattle.raft_node.specs.declared.fault.ProposeFault.TheVariants.{NotLeader, Halted, Full, Memory as ProposeMemory}
use Rattle.raft_model.specs.Log.{Log}
use Rattle.raft_model.specs.Node.{Kept, Store, Node, Done, last}
use Rattle.cat_model.specs.declared.command.Command.{Command}
use Rattle.cat_model.specs.declared.reply.Role.TheVariants.{Leader}
use Rattle.outside.specs.declared.faults.KeepFail.{KeepFail}
use Rattle.outside.specs.declared.faults.KeepFail.TheVariants.{Failed, Memory}
use Rattle.raft_model.specs.Rules.{Input, Propose, has_room}
use Rattle.raft_model.specs.Step.{CallWorks, CallFails, SavesVote, StoresLog, VoteSaved, LogStored, Outcome, Works, VoteFails, LogFails, Forgets, NodeStep, as_before, halts, forgets, with_vote, with_log}
use Rattle.cat_model.specs.Keeping.{with_entries}
use Rattle.raft_node.specs.declared.state.State.{State}

-- as `NodeStep`, with what is done
abbrev pub Becomes : Outcome → Node → Done → Node → List Sent → Type 0
Becomes Works old done new sent =
    (between : Store) × VoteSaved old done.node old.store between × LogStored old done.node between new.store
    × (new ≡ record done.node { store = new.store }) × (sent ≡ done.sent)
Becomes VoteFails old done new sent =
    SavesVote old done.node × CallFails (with_vote done.node.term done.node.vote) old.store new.store
    × (new ≡ halts old new.store) × (sent ≡ [])
Becomes LogFails old done new sent =
    (between : Store) × VoteSaved old done.node old.store between
    × StoresLog old done.node × CallFails (with_log done.node.log) between new.store
    × (new ≡ halts old new.store) × (sent ≡ [])
Becomes Forgets old done new sent =
    SavesVote old done.node × CallWorks (with_vote done.node.term done.node.vote) old.store new.store
    × StoresLog old done.node × (new ≡ forgets old done.node new.store) × (sent ≡ [])

-- A planned step was made, or a store call failed in it.
abbrev pub Makes : Node → Done → Node → List Sent → Type 0
Makes old done new sent = Becomes Works old done new sent ⊎ (Becomes VoteFails old done new sent ⊎ Becomes LogFails old done new sent)

-- A planned step found no memory: all is as before, or the vote was saved.
abbrev pub Remains : Node → Done → Node → Type 0
Remains old done new = (new ≡ old) ⊎ Becomes Forgets old done new []

-- A step was made, or a store call failed in it and the node halted.
abbrev pub Steps : Node → Input → Node → List Sent → Type 0
Steps old input new sent = NodeStep Works old input new sent ⊎ (NodeStep VoteFails old input new sent ⊎ NodeStep LogFails old input new sent)

-- A step found no memory: the node is as before, or a follower with the term and vote that were saved.
abbrev pub FindsNoMemory : Node → Input → Node → Type 0
FindsNoMemory old input new = (new ≡ old) ⊎ NodeStep Forgets old input new []

-- a store that holds this, where it tells, with these numbers, and whether it is sure
abbrev pub stored : Option Kept → ℕ → ℕ → Bool → Store
stored held armed faults sure = record { contents = held; armed = armed; faults = faults; sure = sure }

abbrev pub IsSameVote : State → State → Type 0
IsSameVote old new = (new.term ≡ old.term) × (new.vote ≡ old.vote)

-- term and vote had changed and were saved, or had not
abbrev pub VoteKept : Bool → State → State → Store → Store → Type 0
VoteKept true old new before now = (¬ IsSameVote old new) × CallWorks (with_vote new.term new.vote) before now
VoteKept false old new before now = IsSameVote old new × (now ≡ before)

-- term and vote had changed, and the call that was to save them failed
abbrev pub VoteFailed : State → State → Store → Store → Type 0
VoteFailed old new before now = (¬ IsSameVote old new) × CallFails (with_vote new.term new.vote) before now

-- the vote was kept, and then the log was stored from behind its first `keep` entries on
abbrev pub IsStored : State → State → ℕ → Log → Store → Store → Type 0
IsStored old new keep entries before now =
    (saved : Bool) × (between : Store) × VoteKept saved old new before between × CallWorks (with_entries (keep + 1) entries) between now

-- one of the calls failed
abbrev pub IsFailed : State → State → ℕ → Log → Store → Store → Type 0
IsFailed old new keep entries before now =
    VoteFailed old new before now
    ⊎ ((saved : Bool) × (between : Store) × VoteKept saved old new before between × CallFails (with_entries (keep + 1) entries) between now)

-- what a `load` that failed, or found no memory, made of the store
abbrev pub FailsToLoad : KeepFail → Store → Store → Type 0
FailsToLoad Failed before now = CallFails as_before before now
FailsToLoad Memory before now = now ≡ before

-- a proposal of a running leader whose log then keeps its limits
abbrev pub MayPropose : Node → ℕ → Command → Type 0
MayPropose n number command = (n.halted ≡ false) × (n.role ≡ Leader) × (has_room n number command ≡ true)

-- What a proposal answers, and what becomes of the node. It is refused as not led exactly where the node runs and does
-- not lead, as full only where a limit of the log would be passed, and as halted exactly where the node had halted or
-- its store failed now.
abbrev pub Proposes : Node → ℕ → Command → Node → Result (Place × List Sent) ProposeFault → Type 0
Proposes old number command new (Ok (place, sent)) =
    MayPropose old number command × NodeStep Works old (Propose number command) new sent × (place ≡ record { index = last new; term = new.term })
Proposes old number command new (Err NotLeader) = (old.halted ≡ false) × (old.role ≢ Leader) × (new ≡ old)
Proposes old number command new (Err Halted) =
    ((old.halted ≡ true) × (new ≡ old)) ⊎ (MayPropose old number command × NodeStep LogFails old (Propose number command) new [])
Proposes old number command new (Err Full) = (old.halted ≡ false) × (old.role ≡ Leader) × (has_room old number command ≡ false) × (new ≡ old)
Proposes old number command new (Err ProposeMemory) = (old.halted ≡ false) × (old.role ≡ Leader) × (new ≡ old)
