-- What becomes of commands that a server proposes for no request.
use Rattle.std.specs.Prelude.{◌≡◌, ℕ, ◌⊎◌, Bool, true, false, List, IfOk, OnErr, Result, Ok, Err}
use Rattle.cluster_rules.specs.Agents.{Agent}
use Rattle.cat_model.specs.declared.command.Command.{Command}
use Rattle.cat_model.specs.declared.memory.Memory.{Memory}
use Rattle.raft_model.specs.declared.message.Place.{Place}
use Rattle.raft_model.specs.Log.{Log}
use Rattle.raft_model.specs.Rules.{Propose, has_room}
use Rattle.raft_model.specs.World.{World, Acts as NodeActs}
use Rattle.raft_node.specs.declared.fault.ProposeFault.{ProposeFault}
use Rattle.raft_node.specs.declared.fault.ProposeFault.TheVariants as fault
use Rattle.cluster_rules.specs.Cluster.{Cluster, Server, node_of, runs_leading}
use Rattle.cluster_rules.specs.Proposals.{Proposals}
use Rattle.cluster_rules.specs.Requests.{moved}
use Rattle.cluster_replicas.specs.Servers.{Servers}
use Rattle.cluster_requests.specs.Requests.{Requests, cluster_of}
use Rattle.cluster_works.specs.declared.moves.Seen.{Seen}
use Rattle.cluster_works.specs.declared.proposals.Proposed.{Proposed}
use Rattle.cluster_works.specs.Moving.{MarksStep}
use Rattle.cluster_works.specs.Standing.{Stands}
use Rattle.cluster_works.specs.Watching.{Watching}

-- A proposal that this answers: the step is marked, also where the proposal is refused.
abbrev pub EndsProposal : Seen → Seen → ℕ → Log → Result Place ProposeFault → Result Bool Memory → Requests → Requests → Type 0
EndsProposal before now i agreed (Ok place) (Ok entered) old new = (entered ≡ true) × MarksStep before now i agreed old new
EndsProposal before now i agreed (Err fault.Full) (Ok entered) old new = (entered ≡ false) × MarksStep before now i agreed old new
EndsProposal before now i agreed (Err fault.Halted) (Ok entered) old new = (entered ≡ false) × MarksStep before now i agreed old new
EndsProposal before now i agreed (Err fault.NotLeader) (Err _) old new = new ≡ old
EndsProposal before now i agreed (Err fault.Memory) (Err _) old new = new ≡ old
EndsProposal before now i agreed proposed result old new = ⊥

-- A leading server entered the command into its log.
pub record IsEntered (i : ℕ) (command : Command) (c c' : Cluster) : Type 0 where
  pub world : World
  pub leads : runs_leading c.world i ≡ true
  pub room : has_room (node_of c.world i) 0 command ≡ true
  pub acts : NodeActs c.world i (Propose 0 command) world
  pub runs : (node_of world i).halted ≡ false
  pub is : c' ≡ moved i world c

-- Its log has no room for the command, or its durable store failed at it.
pub record IsRefused (i : ℕ) (command : Command) (c c' : Cluster) : Type 0 where
  pub world : World
  pub leads : runs_leading c.world i ≡ true
  pub acts : NodeActs c.world i (Propose 0 command) world
  pub why : (has_room (node_of c.world i) 0 command ≡ false) ⊎ ((node_of world i).halted ≡ true)
  pub is : c' ≡ moved i world c

-- whether it entered one command
abbrev pub OneProposed : ℕ → Command → Cluster → Bool → Cluster → Type 0
OneProposed i command c true c' = IsEntered i command c c'
OneProposed i command c false c' = IsRefused i command c c'

-- From this cluster on one command was proposed, and the parts stand. Where there was no memory, the cluster is as before.
pub record EndedOne (agents : List Agent) (watch : Watching) (i : ℕ) (command : Command) (c : Cluster) (w' : World) (servers : List Server) (r' : Requests) (result : Result Bool Memory) : Type 0 where
  pub told : IfOk result (λ entered. OneProposed i command c entered (cluster_of w' servers agents r'))
  pub leads : IfOk result (λ entered. entered ≡ true → runs_leading w' i ≡ true)
  pub same : OnErr result (cluster_of w' servers agents r' ≡ c)
  pub stands : Stands watch w' servers r'

-- From parts that stand server i proposes this command so, whatever agents there are, and whichever requests are awake.
abbrev pub ProposesOne : ℕ → Command → (old : Servers) → Requests → (new : Servers) → Requests → Result Bool Memory → Type 0
ProposesOne i command old r new r' result =
    (agents : List Agent) (watch : Watching) → Stands watch old.world old.servers r → EndedOne agents watch i command (cluster_of old.world old.servers agents r) new.world new.servers r' result

-- From this cluster on commands were proposed, so many were entered, and the parts stand.
pub record EndedAll (agents : List Agent) (watch : Watching) (i : ℕ) (commands : List Command) (c : Cluster) (w' : World) (servers : List Server) (r' : Requests) (result : Proposed) : Type 0 where
  pub proposals : Proposals i commands c result.entered (cluster_of w' servers agents r') result.whole
  pub stands : Stands watch w' servers r'

-- From parts that stand server i proposes these commands so, whatever agents there are, and whichever requests are awake.
abbrev pub ProposesAll : ℕ → List Command → (old : Servers) → Requests → (new : Servers) → Requests → Proposed → Type 0
ProposesAll i commands old r new r' result =
    (agents : List Agent) (watch : Watching) → Stands watch old.world old.servers r → EndedAll agents watch i commands (cluster_of old.world old.servers agents r) new.world new.servers r' result
