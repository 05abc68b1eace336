-- What a host answers to a frame, and what becomes of it.
use Rattle.std.specs.Prelude.{◌≡◌, false, Option, Some, None, Result, Ok, Err}
use Rattle.cat_model.specs.declared.memory.Memory.{Memory}
use Rattle.raft_model.specs.declared.message.Place.{Place}
use Rattle.raft_model.specs.Rules.{Receive}
use Rattle.raft_node.specs.declared.fault.ProposeFault.{ProposeFault}
use Rattle.raft_node.specs.declared.fault.ProposeFault.TheVariants as faults
use Rattle.node_link.specs.Hosts.{Hosted, Answers, FindsNoMemory, Receives, status_of}
use Rattle.peer_frames.specs.declared.frame.Frame.{Frame}
use Rattle.peer_frames.specs.declared.frame.Frame.TheVariants.{Peer, Placed, Propose, Refused, State, Status}
use Rattle.peer_frames.specs.declared.frame.Peers.{Peers}
use Rattle.peer_frames.specs.declared.frame.Why.TheVariants as whys
use Rattle.node_service.specs.declared.answers.Answer.{Answer}

-- whose frames the host's reader reads
abbrev pub peers_of : Hosted → Peers
peers_of h = record { id = h.node.id; servers = h.node.servers }

-- how the node stands, for a client
abbrev pub state_of : Hosted → Frame
state_of h = let status = status_of h in State status.term status.role status.commit status.last

-- The frame that says how a proposal ended. Running out of memory has none.
abbrev pub Says : Result Place ProposeFault → Option Frame → Type 0
Says (Ok place) answer = answer ≡ Some (Placed place.index place.term)
Says (Err faults.NotLeader) answer = answer ≡ Some (Refused whys.NotLeader)
Says (Err faults.Full) answer = answer ≡ Some (Refused whys.Full)
Says (Err faults.Halted) answer = answer ≡ Some (Refused whys.Halted)
Says (Err faults.Memory) answer = ⊥

-- there is nothing to say
abbrev pub nothing : Answer
nothing = record { frame = None; granted = false }

-- A server's message is received, and what the node says to it waits in the outbox. A client's proposal is made or
-- refused, and its question is answered by the node's state. A frame that is itself an answer changes nothing.
abbrev pub IsAnswered : Hosted → Frame → Answer → Hosted → Type 0
IsAnswered old (Peer sender message) answer new = Receives old sender message answer.granted new × (answer.frame ≡ None)
IsAnswered old (Propose command) answer new =
    (end : Result Place ProposeFault) × Answers old command new end × Says end answer.frame × (answer.granted ≡ false)
IsAnswered old Status answer new = (new ≡ old) × (answer ≡ record { frame = Some (state_of old); granted = false })
IsAnswered old (Placed index term) answer new = (new ≡ old) × (answer ≡ nothing)
IsAnswered old (Refused why) answer new = (new ≡ old) × (answer ≡ nothing)
IsAnswered old (State term role commit last) answer new = (new ≡ old) × (answer ≡ nothing)

-- A server's message or a proposal found no memory. The other frames take none.
abbrev pub LacksMemory : Hosted → Frame → Hosted → Type 0
LacksMemory old (Peer sender message) new = FindsNoMemory old (Receive sender message) new
LacksMemory old (Propose command) new = new ≡ old
LacksMemory old Status new = ⊥
LacksMemory old (Placed index term) new = ⊥
LacksMemory old (Refused why) new = ⊥
LacksMemory old (State term role commit last) new = ⊥

abbrev pub AnswersFrame : Hosted → Frame → Result Answer Memory → Hosted → Type 0
AnswersFrame old frame (Ok answer) new = IsAnswered old frame answer new
AnswersFrame old frame (Err e) new = LacksMemory old frame new
