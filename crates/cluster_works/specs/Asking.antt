-- What becomes of a request that a server handles, in the terms of the requests' own parts.
use Rattle.std.specs.Prelude.{◌≡◌, ℕ, ◌+◌, false, length, Result, Ok, Err, Some}
use Rattle.cat_model.specs.declared.command.Command.{Command}
use Rattle.cat_model.specs.declared.memory.Memory.{Memory}
use Rattle.cat_model.specs.declared.request.Asked.{Asked}
use Rattle.cat_model.specs.declared.request.Asked.TheVariants.{Good}
use Rattle.cat_model.specs.declared.request.Request.TheVariants.{Write as Writes}
use Rattle.cat_model.specs.declared.request.Draw.{Draw}
use Rattle.cat_model.specs.declared.request.Mode.TheVariants.{Consistent}
use Rattle.cat_model.specs.declared.reply.Kind.TheVariants.{Refused}
use Rattle.cat_model.specs.declared.reply.Refusal.{Refusal}
use Rattle.cat_model.specs.declared.reply.Refusal.TheVariants as refusal
use Rattle.cat_model.specs.LogLimits.{command_bytes, log_bytes}
use Rattle.raft_model.specs.declared.message.Place.{Place}
use Rattle.raft_model.specs.declared.message.Round.{Round}
use Rattle.raft_model.specs.Log.{Log}
use Rattle.raft_node.specs.declared.fault.ProbeFault.{ProbeFault}
use Rattle.raft_node.specs.declared.fault.ProposeFault.{ProposeFault}
use Rattle.raft_node.specs.declared.fault.ProposeFault.TheVariants as fault
use Rattle.cat_model.specs.Taken.{IsTakenAsked}
use Rattle.cluster_rules.specs.Replies.{Question, Says, entered}
use Rattle.cluster_rules.specs.Cluster.{Cluster, AtPlace, InRound, Proposed, Probed, clock_of, node_of}
use Rattle.cluster_rules.specs.Requests.{look_of, wait_of}
use Rattle.cluster_requests.specs.Requests.{Requests, answered_with, holding_with, numbered_with, used}
use Rattle.cluster_works.specs.declared.writes.Write.{Write}
use Rattle.cluster_works.specs.declared.moves.Seen.{Seen}
use Rattle.cluster_works.specs.Moving.{MarksStep}

-- the copies of a write that asks for this command, with its entry, and what the log of server i would have with that
pub record IsCopied (c : Cluster) (i agent : ℕ) (asked : Asked) (draw : Draw) (command : Command) (write : Write) : Type 0 where
  pub question : write.question ≡ record { number = c.asked + 1; agent = agent; asked = asked; draw = draw }
  pub entry : write.entry ≡ record { term = (node_of c.world i).term; number = write.question.number; command = entered write.question command }
  pub entries : write.entries ≡ length (node_of c.world i).log + 1
  pub bytes : write.bytes ≡ log_bytes (node_of c.world i).log + command_bytes (entered write.question command)

-- the same of a write that is taken, whatever it asks for
pub record IsTakenWrite (c : Cluster) (i : ℕ) (write : Write) : Type 0 where
  pub taken : IsTakenAsked write.question.asked
  pub command : Command
  pub asked : write.question.asked ≡ Good (Writes command)
  pub copied : IsCopied c i write.question.agent write.question.asked write.question.draw command write

-- A write takes its number, the step of server i is marked, and the write is refused.
abbrev pub RefusesWrite : Write → Seen → Seen → ℕ → Log → Refusal → Requests → Requests → Type 0
RefusesWrite write before now i agreed why old new =
    (mid : Requests) × MarksStep before now i agreed (used (numbered_with write.question.agent write.question.asked write.question.draw old)) mid
    × (new ≡ used (answered_with write.question.number (Refused why) false 0 (Says why) mid))

-- It takes its number, the step is marked, and the write is held until its place is applied.
abbrev pub HoldsWrite : Write → Seen → Seen → ℕ → Log → Place → Requests → Requests → Type 0
HoldsWrite write before now i agreed place old new =
    (mid : Requests) × MarksStep before now i agreed (used (numbered_with write.question.agent write.question.asked write.question.draw old)) mid
    × (new ≡ used (holding_with write.question i (AtPlace place.index place.term) (Proposed place.index write.entry) mid))

-- a consistent read with its number, and its deadline by the clock of server i
pub record IsNewRead (c : Cluster) (i : ℕ) (read : Question) (deadline : ℕ) : Type 0 where
  pub wait : ℕ
  pub look : look_of read.asked ≡ Some (Consistent, wait)
  pub number : read.number ≡ c.asked + 1
  pub deadline_is : deadline ≡ clock_of c.world i + wait_of wait

-- A read takes its number, the step of server i is marked, and the read is held until its round is confirmed.
abbrev pub HoldsRead : Question → Seen → Seen → ℕ → Log → ℕ → Round → Requests → Requests → Type 0
HoldsRead read before now i agreed deadline round old new =
    (mid : Requests) × MarksStep before now i agreed (used (numbered_with read.agent read.asked read.draw old)) mid
    × (new ≡ used (holding_with read i (InRound round deadline) (Probed read.number i round) mid))

-- what becomes of a read whose probe answers this
abbrev pub EndsProbe : Question → Seen → Seen → ℕ → Log → ℕ → Result Round ProbeFault → Result Unit Memory → Requests → Requests → Type 0
EndsProbe read before now i agreed deadline (Ok round) (Ok _) old new = HoldsRead read before now i agreed deadline round old new
EndsProbe read before now i agreed deadline (Err why) (Err _) old new = new ≡ old
EndsProbe read before now i agreed deadline probed result old new = ⊥

-- what becomes of a write whose proposal answers this
abbrev pub EndsWrite : Write → Seen → Seen → ℕ → Log → Result Place ProposeFault → Result Unit Memory → Requests → Requests → Type 0
EndsWrite write before now i agreed (Ok place) (Ok _) old new = HoldsWrite write before now i agreed place old new
EndsWrite write before now i agreed (Err fault.Full) (Ok _) old new = RefusesWrite write before now i agreed (refusal.LogFull write.entries write.bytes) old new
EndsWrite write before now i agreed (Err fault.Halted) (Ok _) old new = RefusesWrite write before now i agreed (refusal.Halted i) old new
EndsWrite write before now i agreed (Err fault.NotLeader) (Err _) old new = new ≡ old
EndsWrite write before now i agreed (Err fault.Memory) (Err _) old new = new ≡ old
EndsWrite write before now i agreed proposed result old new = ⊥
