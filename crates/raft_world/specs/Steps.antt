-- What a call of the world makes of it.
use Rattle.std.specs.Prelude.{◌≡◌, ◌≢◌, ℕ, zero, suc, get_or, ◌++◌, ◌≤◌, max, ◌⊎◌, true, false, [], ◌∷◌, length, take, Option, Some, None, Result, Ok, Err}
use Rattle.cat_model.specs.declared.command.Command.{Command}
use Rattle.cat_model.specs.declared.reply.Role.TheVariants.{Leader}
use Rattle.raft_model.specs.declared.message.Place.{Place}
use Rattle.raft_model.specs.declared.message.Round.{Round}
use Rattle.raft_model.specs.Facts.{IsLeading, IsPlaced, IsReady, ShowsAgreed, next_round}
use Rattle.raft_model.specs.Node.{Node, last}
use Rattle.raft_model.specs.Rules.{Input, Propose, Probe, Receive, has_room, proposal}
use Rattle.raft_model.specs.Step.{Forgets, LogFails, Works}
use Rattle.raft_model.specs.World.{World, Packet, Acts, Agrees, IsReached, IsServer, numbered}
use Rattle.raft_node.specs.declared.fault.ProposeFault.{ProposeFault}
use Rattle.raft_node.specs.declared.fault.ProposeFault.TheVariants.{NotLeader, Halted, Full, Memory}
use Rattle.raft_node.specs.Steps.{MayPropose}

-- a server's number
abbrev pub IsNumber : ℕ → World → Type 0
IsNumber s w = (1 ≤ s) × (s ≤ length w.nodes)

-- of a server: its clock when it last accepted an Append
abbrev pub contact_of : ℕ → World → Option ℕ
contact_of zero w = None
contact_of (suc i) w = get_or w.contacts i None

-- a server makes its step: its store worked, or failed and the server halted
abbrev pub StepsWhole : World → ℕ → Input → World → Type 0
StepsWhole w i input w' = (acts : Acts w i input w') × (acts.outcome ≢ Forgets)

-- it found no memory: the world is as before, or the vote was saved
abbrev pub FindsNoMemory : World → ℕ → Input → World → Type 0
FindsNoMemory w i input w' = (w' ≡ w) ⊎ ((acts : Acts w i input w') × (acts.outcome ≡ Forgets))

-- a server makes its step, and its store works
abbrev pub StepsWorking : World → ℕ → Input → World → Type 0
StepsWorking w i input w' = (acts : Acts w i input w') × (acts.outcome ≡ Works)

-- What agreement says of a call: worlds that are reached stay so, each server has then committed a front of the agreed
-- log, and the agreed log before is a front of it.
abbrev pub KeepsAgreement : World → World → Type 0
KeepsAgreement w w' = IsReached w → IsReached w' × Agrees w' × (take (length w.agreed) w'.agreed ≡ w.agreed)

-- No server has committed more than its log has, whatever its store held.
abbrev pub CommitsWithin : World → Type 0
CommitsWithin w = (s : ℕ) (n : Node) → IsServer w s n → n.commit ≤ length n.log

-- the message of this number makes its receiver step, so; where there is none, nothing is said
abbrev pub Delivers : (World → ℕ → Input → World → Type 0) → World → ℕ → World → Type 0
Delivers steps w k w' = (p : Packet) × (numbered k w.bag.packets ≡ Some p) × steps w p.to (Receive p.from p.message) w'

-- A refused proposal: its number is counted, and nothing else changes.
abbrev pub raised_to : ℕ → World → World
raised_to number w = record w { greatest = max w.greatest number }

abbrev pub IsRefused : World → ℕ → ℕ → Command → World → Type 0
IsRefused w s number command w' = StepsWorking w s (Propose number command) w' × (w' ≡ raised_to number w)

-- the greatest number proposed, once a proposal was refused for this
abbrev pub counted : ProposeFault → ℕ → ℕ → ℕ
counted Memory number greatest = greatest
counted fault number greatest = max greatest number

-- it runs and leads
abbrev pub Leads : World → ℕ → Type 0
Leads w s = (n : Node) × IsServer w s n × IsLeading n

-- A proposal's entry was put last into the log of a running leader.
pub record IsProposed (w : World) (s number : ℕ) (command : Command) (w' : World) (place : Place) : Type 0 where
  pub acts : Acts w s (Propose number command) w'
  pub works : acts.outcome ≡ Works
  pub may : MayPropose acts.old number command
  pub runs : acts.new.halted ≡ false
  pub log : acts.new.log ≡ acts.old.log ++ proposal acts.old number command ∷ []
  pub is : place ≡ record { index = suc (last acts.old); term = acts.old.term }

-- What a proposal at server s answers, and what becomes of the world.
abbrev pub Proposes : World → ℕ → ℕ → Command → World → Result Place ProposeFault → Type 0
Proposes w s number command w' (Ok place) = IsProposed w s number command w' place
Proposes w s number command w' (Err NotLeader) =
    IsRefused w s number command w' × ((n : Node) → IsServer w s n → (n.halted ≡ false) × (n.role ≢ Leader))
Proposes w s number command w' (Err Full) =
    IsRefused w s number command w' × ((n : Node) → IsServer w s n → (n.halted ≡ false) × (n.role ≡ Leader) × (has_room n number command ≡ false))
Proposes w s number command w' (Err Halted) =
    (IsRefused w s number command w' × ((n : Node) → IsServer w s n → n.halted ≡ true))
    ⊎ ((acts : Acts w s (Propose number command) w') × (acts.outcome ≡ LogFails) × MayPropose acts.old number command)
Proposes w s number command w' (Err Memory) = (w' ≡ w) × Leads w s

-- The entry of a proposal has its place in each world that is reached from here.
abbrev pub Places : World → ℕ → ℕ → Command → World → Place → Type 0
Places w s number command w' place =
    IsReached w → (n : Node) → IsServer w s n → IsPlaced w' place.index (proposal n number command)

-- A probe begins the node's next round.
abbrev pub Begun : World → ℕ → World → Round → Type 0
Begun w s w' round = (acts : Acts w s Probe w') × (acts.outcome ≡ Works) × IsLeading acts.old × (round ≡ next_round acts.old)

-- A round shows all that was agreed when it was begun, in each world that is reached from here, where its leader had
-- committed an entry of its own term.
abbrev pub Shows : World → ℕ → Round → Type 0
Shows w s round = IsReached w → (n : Node) → IsServer w s n → IsReady n → ShowsAgreed w round
