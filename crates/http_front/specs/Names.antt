-- What a server did that answers questions of names (DNS) beside its connections.
use Rattle.std.specs.Prelude.{◌≡◌, ◌≢◌, ◌⊎◌, ℕ, Bool, false, List, [], ◌∷◌, ◌++◌, Option, None, Some}
use mathlib.Core.List.{IsPrefix}
use Rattle.cat_model.specs.declared.command.Command.{Command}
use Rattle.outside.specs.Causes.{Rose}
use Rattle.datagram_outside.specs.Ports.{IsNew, PortState}
use Rattle.dns_server.specs.declared.packets.DnsCause.TheVariants as cause
use Rattle.dns_server.specs.declared.packets.DnsEnded.{DnsEnded}
use Rattle.dns_jobs.specs.Answered.{HasAnswered}
use Rattle.http_connections.specs.Runs.{most_of}
use Rattle.http_front.specs.declared.names.Answering.{Answering}
use Rattle.http_front.specs.declared.names.Answering.TheVariants.{Refused, Started}
use Rattle.http_front.specs.declared.names.Names.{Names}
use Rattle.http_front.specs.declared.options.Dns.{Dns}

-- the ports that were handed back are those of before and this one
abbrev pub ClosesOne : List PortState → List PortState → PortState → Type 0
ClosesOne ports ports' port = ports' ≡ ports ++ port ∷ []

-- Packets of a port were answered, as many as were asked for unless a call of the port failed; memory was not wanting.
-- Where the servers agree, all that its viewer had read begins the commands that were agreed.
pub record IsAnswered (agrees : Type 0) (agreed : List Command) (packets : ℕ) (first port : PortState) : Type 0 where
  pub ended : DnsEnded (List Command)
  pub answered : HasAnswered first port [] packets ended
  pub long : ended.cause ≢ cause.Memory
  pub view : agrees → IsPrefix ended.catalog agreed

-- The port's packets were answered, or its job could not be started, which the spawner has counted.
abbrev pub IsServed : Type 0 → List Command → ℕ → ℕ → ℕ → PortState → PortState → Type 0
IsServed agrees agreed packets spawns spawns' first port = IsAnswered agrees agreed packets first port ⊎ ((port ≡ first) × Rose spawns spawns')

-- One port came new, was served as was asked for, and was handed back. None was where none was asked for.
abbrev pub NamesServed : Option Dns → Type 0 → List Command → ℕ → ℕ → List PortState → List PortState → Type 0
NamesServed None agrees agreed spawns spawns' ports ports' = ports' ≡ ports
NamesServed (Some dns) agrees agreed spawns spawns' ports ports' =
    (first : PortState) × (port : PortState) × IsNew first × ClosesOne ports ports' port × IsServed agrees agreed (most_of dns.packets) spawns spawns' first port

-- However a server ended, a port of names that was bound was handed back. None is bound where none was asked for.
abbrev pub GivesPortBack : Option Dns → List PortState → List PortState → Type 0
GivesPortBack dns ports ports' = (ports' ≡ ports) ⊎ ((dns ≢ None) × (port : PortState) × ClosesOne ports ports' port)

-- what answers questions of names, by whether its job was started
abbrev pub AnswersAs : {T P : Type 0} → (T → Type 0) → (P → Type 0) → Answering T P → Type 0
AnswersAs started refused (Started task) = started task
AnswersAs started refused (Refused port) = refused port

module _ {T P : Type 0} where
  -- What answers questions of names is of the port that is bound. `asked` tells it of a task, and `missed` holds where none
  -- could be started.
  abbrev pub Answers : (T → Names P → Type 0) → Type 0 → Option (Names P) → Option (Answering T P) → Type 0
  Answers asked missed None answering = answering ≡ None
  Answers asked missed (Some names) answering =
      (a : Answering T P) × (answering ≡ Some a) × AnswersAs (λ task. asked task names) (λ port. (port ≡ names.port) × missed) a

  -- What answered leaves its port. Where memory was not wanting, `answered` tells of it what a task did.
  abbrev pub Finishes : Option (Answering T P) → (T → P → Type 0) → Option P → Bool → Type 0
  Finishes None answered left short = left ≡ None
  Finishes (Some (Started task)) answered left short = (p : P) × (left ≡ Some p) × (short ≡ false → answered task p)
  Finishes (Some (Refused port)) answered left short = left ≡ Some port

-- the port that was bound is left, however it was served
abbrev pub LeavesPort : {P : Type 0} → Option (Names P) → Option P → Type 0
LeavesPort {P} None port = port ≡ None
LeavesPort {P} (Some names) port = (p : P) × (port ≡ Some p)

module _ {P : Type 0} (state : P → PortState) where
  -- the port that was asked for is bound, new
  abbrev pub IsBound : Option Dns → Option (Names P) → Type 0
  IsBound None names = names ≡ None
  IsBound (Some dns) names = (n : Names P) × (names ≡ Some n) × IsNew (state n.port) × (n.packets ≡ most_of dns.packets)

  -- it is left as it was served
  abbrev pub LeavesServed : Type 0 → List Command → ℕ → ℕ → Option (Names P) → Option P → Type 0
  LeavesServed agrees agreed spawns spawns' None port = port ≡ None
  LeavesServed agrees agreed spawns spawns' (Some names) port =
      (p : P) × (port ≡ Some p) × IsServed agrees agreed names.packets spawns spawns' (state names.port) (state p)

  -- what a port tells that is handed back, where there is one
  abbrev pub told_by : Option P → List PortState
  told_by None = []
  told_by (Some port) = state port ∷ []
