-- A host: a node with its history, and what links have still to send of what it made.
use Rattle.std.specs.Prelude.{◌≡◌, ℕ, ◌+◌, nat_lt, true, if◌then◌else◌, ◌⊎◌, Bool, false, List, [], ◌∷◌, ◌++◌, length, Contains, Option, Some, None, Result, Ok, Err}
use Rattle.std.specs.List.{AllByRecursion, list_any}
use Rattle.std.specs.Option.{option_map}
use Rattle.cat_model.specs.declared.command.Command.{Command}
use Rattle.raft_model.specs.declared.message.Message.{Message}
use Rattle.raft_model.specs.declared.message.Message.TheVariants.{AskVote, Vote, Append, Yes, No}
use Rattle.raft_model.specs.declared.message.Place.{Place}
use Rattle.raft_model.specs.declared.message.Sent.{Sent}
use Rattle.raft_model.specs.Log.{entry_at}
use Rattle.raft_model.specs.Node.{Node, Store, last}
use Rattle.raft_model.specs.Rules.{Input, Timeout, Beat, Receive, Propose}
use Rattle.raft_model.specs.Step.{Forgets, LogFails, NodeStep, RestartFails, RestartWorks, Starts}
use Rattle.raft_node.specs.Steps.{MayPropose, Proposes, Steps}
use Rattle.raft_node.specs.declared.fault.ProposeFault.{ProposeFault}
use Rattle.raft_node.specs.declared.fault.ProposeFault.TheVariants.{Halted}
use Rattle.node_journals.specs.Journals.{Event, Given, Restart, Step, Process, IsJournal, ended}
use Rattle.node_link.specs.declared.happened.Happened.{Happened}
use Rattle.node_link.specs.declared.happened.Happened.TheVariants as happened
use Rattle.node_link.specs.declared.status.Status.{Status}
use Rattle.node_link.specs.Outboxes.{Unsent, no_messages, posted_all}

pub record Hosted : Type 0 where
  pub process : Process  -- the node as it started, and its journal
  pub node : Node
  pub outbox : Unsent
  pub applied : ℕ  -- the index of the last entry that was handed out to be applied

-- a step of the journal sent this message
abbrev pub IsMade : List Step → Sent → Type 0
IsMade steps m = (s : Step) × Contains steps s × Contains s.sent m

-- The rules allow the journal, the node is the one behind it, and a step of it sent each message in the outbox.
pub record IsHost (h : Hosted) : Type 0 where
  pub journal : IsJournal h.process.start h.process.steps
  pub behind : ended h.process.start h.process.steps ≡ h.node
  pub made : AllByRecursion (IsMade h.process.steps) h.outbox.messages

-- The journal with one more step. A process knows of no other's clock, so the time of a step is its number here.
abbrev pub told : Process → Event → Node → List Sent → Process
told p event node sent = record {
  start = p.start;
  steps = p.steps ++ record { time = length p.steps; event = event; node = node; sent = sent } ∷ [];
}

-- a node that has just started
abbrev pub untold : Node → Process
untold node = record { start = node; steps = [] }

abbrev pub event_of : Happened → Event
event_of happened.Timeout = Given Timeout
event_of happened.Beat = Given Beat
event_of (happened.Received from message) = Given (Receive from message.value)
event_of (happened.Proposed command) = Given (Propose 0 command.value)
event_of happened.Restarted = Restart

-- The history tells of this step, and what it sent went into the outbox.
pub record IsNoted (old : Hosted) (event : Event) (sent : List Sent) (new : Hosted) : Type 0 where
  pub process : new.process ≡ told old.process event new.node sent
  pub outbox : new.outbox ≡ posted_all sent old.outbox
  pub applied : new.applied ≡ old.applied

-- a host as it begins over a store
pub record Begins (id servers : ℕ) (store : Store) (h : Hosted) : Type 0 where
  pub starts : Starts id servers store h.node
  pub process : h.process ≡ untold h.node
  pub outbox : h.outbox ≡ no_messages
  pub applied : h.applied ≡ 0

-- a step in which the node became what such steps make of it
pub record Makes (By : Node → Input → Node → List Sent → Type 0) (old : Hosted) (input : Input) (new : Hosted) : Type 0 where
  pub sent : List Sent
  pub step : By old.node input new.node sent
  pub noted : IsNoted old (Given input) sent new

-- a message that grants a vote
abbrev pub grants : Message → Bool
grants (Vote term granted) = granted
grants (AskVote term last_index last_term) = false
grants (Append term prev_index prev_term entries commit round) = false
grants (Yes term matched round) = false
grants (No term last) = false

-- one of these messages grants a vote
abbrev pub has_grant : List Sent → Bool
has_grant sent = list_any (λ m. grants m.message) sent

-- A message was received; `granted` says whether the node granted a vote in that step.
abbrev pub Receives : Hosted → ℕ → Message → Bool → Hosted → Type 0
Receives old from message granted new = (made : Makes Steps old (Receive from message) new) × (granted ≡ has_grant made.sent)

-- A step found no memory: all is as before, or the node kept its vote and forgot the rest, which is a step too.
abbrev pub FindsNoMemory : Hosted → Input → Hosted → Type 0
FindsNoMemory old input new =
    (new ≡ old) ⊎ (NodeStep Forgets old.node input new.node [] × IsNoted old (Given input) [] new)

-- The node began again over its store, or halted where that failed. What waits is still to be sent, and nothing is applied.
pub record BeginsAgain (old new : Hosted) : Type 0 where
  pub step : RestartWorks old.node new.node ⊎ RestartFails old.node new.node
  pub process : new.process ≡ told old.process Restart new.node []
  pub outbox : new.outbox ≡ old.outbox
  pub applied : new.applied ≡ 0

-- What a proposal answers. It is told where it changed the node: where it was made, or the store failed.
abbrev pub Answers : Hosted → Command → Hosted → Result Place ProposeFault → Type 0
Answers old command new (Ok place) =
    (sent : List Sent) × Proposes old.node 0 command new.node (Ok (place, sent)) × IsNoted old (Given (Propose 0 command)) sent new
Answers old command new (Err Halted) =
    ((old.node.halted ≡ true) × (new ≡ old))
    ⊎ (MayPropose old.node 0 command × NodeStep LogFails old.node (Propose 0 command) new.node [] × IsNoted old (Given (Propose 0 command)) [] new)
Answers old command new (Err fault) = Proposes old.node 0 command new.node (Err fault) × (new ≡ old)

abbrev pub status_of : Hosted → Status
status_of h = record {
  role = h.node.role;
  term = h.node.term;
  leader = h.node.leader;
  last = last h.node;
  commit = h.node.commit;
  applied = h.applied;
  lost = h.outbox.lost;
}

-- the command of the next committed entry, which is to be applied
abbrev pub next_of : Hosted → Option Command
next_of h = if nat_lt h.applied h.node.commit then option_map (λ e. e.command) (entry_at (h.applied + 1) h.node.log) else None

-- the host once that was handed out
abbrev pub handed : Hosted → Option Command → Hosted
handed h None = h
handed h (Some command) = record h { applied = h.applied + 1 }

-- the same server of a cluster of as many
pub record IsSameServer (old new : Node) : Type 0 where
  pub id : new.id ≡ old.id
  pub servers : new.servers ≡ old.servers

-- A host was always the same server of a cluster of as many: at its start, after each step, and now.
pub record KeepsPlace (h : Hosted) : Type 0 where
  pub ever : (s : Step) → Contains h.process.steps s → IsSameServer h.process.start s.node
  pub now : IsSameServer h.process.start h.node
