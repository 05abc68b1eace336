-- The journal of a node's process, and what it tells.
use Rattle.std.specs.Prelude.{◌≡◌, ℕ, zero, suc, List, [], ◌∷◌, ◌++◌, Option, Some, None, Result}
use Rattle.std.specs.Option.{option_map}
use Rattle.cat_model.specs.declared.memory.Memory.{Memory}
use Rattle.node_link.specs.Hosts.{IsHost}
use Rattle.peer_frames.specs.declared.frame.Frame.{Frame}
use Rattle.peer_frames.specs.declared.frame.Peers.{Peers}
use Rattle.peer_frames.specs.Spelling.{Accepts}
use Rattle.node_service.specs.Alarms.{Rings, is_due}
use Rattle.node_service.specs.Answering.{peers_of}
use Rattle.node_service.specs.Dialers.{DialerState}
use Rattle.node_service.specs.Processes.{Running, TakesFrame}
use Rattle.node_service.specs.Sending.{SendsAll}
use Rattle.turn_lock.specs.Lists.{numbers}
use Rattle.node_connections.specs.declared.item.Item.{Item}
use Rattle.node_connections.specs.declared.item.Item.TheVariants as items
use Rattle.node_connections.specs.declared.item.Taken.{Taken}

-- a process, and what its dialer tells
pub record Standing : Type 0 where
  pub running : Running
  pub dialer : DialerState

-- the frame was taken, if there is one, which the process accepts
abbrev pub Takes : Option Taken → ℕ → ℕ → Running → Running → Type 0
Takes None now word old new = new ≡ old
Takes (Some t) now word old new = Accepts (peers_of old.host) t.frame.value × TakesFrame old t.frame.value now word t.answer.value new

-- A turn: what was due at this time was done, then the frame was taken, and then all that waited was brought to the peers.
pub record Turns (ports : List ℕ) (now word : ℕ) (due : Result Unit Memory) (taken : Option Taken) (sent : Result Unit Memory) (old new : Standing) : Type 0 where
  pub rung : Running
  pub rings : Rings (is_due old.running.alarm old.running.host.node.role now) old.running.alarm old.running.host now word due rung.alarm rung.host
  pub heard : Running
  pub takes : Takes taken now word rung heard
  pub sends : SendsAll ports heard.host old.dialer sent new.running.host new.dialer
  pub alarm : new.running.alarm ≡ heard.alarm

-- the frame of an item
abbrev pub taken_of : {D : Type 0} → Item Running D → Option Taken
taken_of (items.Began process dialer ports) = None
taken_of (items.Turned now word due taken sent) = taken

-- A frame opens its number. No item takes one.
abbrev pub opens : {D : Type 0} → Item Running D → Option ℕ
opens item = option_map (λ t. t.number) (taken_of item)

abbrev pub takes : {D : Type 0} → Item Running D → Option ℕ
takes item = None

-- the numbers from 1 to n
abbrev pub count_to : ℕ → List ℕ
count_to zero = []
count_to (suc n) = count_to n ++ suc n ∷ []

-- `state` says what a dialer tells
module _ {D : Type 0} (state : D → DialerState) where
  -- the items lead from the one standing to the other, over peers with these ports
  abbrev pub Lead : List ℕ → List (Item Running D) → Standing → Standing → Type 0
  Lead ports [] old new = new ≡ old
  Lead ports (items.Began process dialer at ∷ rest) old new = ⊥
  Lead ports (items.Turned now word due taken sent ∷ rest) old new =
      (next : Standing) × Turns ports now word due taken sent old next × Lead ports rest next new

  -- The journal of a process that stands so: how it began, and what happened since.
  abbrev pub Tells : List ℕ → List (Item Running D) → Standing → Type 0
  Tells ports [] now = ⊥
  Tells ports (items.Began process dialer at ∷ rest) now =
      (at.value.items ≡ ports) × Lead ports rest (record { running = process.value; dialer = state dialer.value }) now
  Tells ports (items.Turned n word due taken sent ∷ rest) now = ⊥

-- the journal is that of a server among these
abbrev pub IsOf : {D : Type 0} → Peers → List (Item Running D) → Type 0
IsOf peers [] = ⊥
IsOf peers (items.Began process dialer ports ∷ rest) = peers_of process.value.host ≡ peers
IsOf peers (items.Turned now word due taken sent ∷ rest) = ⊥

-- a process with what brings its frames to its peers, how many frames were taken, and its journal
pub record Shared (D : Type 0) : Type 0 where
  pub running : Running
  pub dialer : D
  pub ports : List ℕ
  pub count : ℕ
  pub items : List (Item Running D)

-- how it stands
abbrev pub standing : {D : Type 0} → (D → DialerState) → Shared D → Standing
standing state s = record { running = s.running; dialer = state s.dialer }

-- The journal tells how the process stands, and numbers the frames from 1 in the order in which they were taken.
pub record IsShared {D : Type 0} (state : D → DialerState) (s : Shared D) : Type 0 where
  pub told : Tells state s.ports s.items (standing state s)
  pub numbered : numbers opens s.items ≡ count_to s.count
  pub of : IsOf (peers_of s.running.host) s.items

-- What a journal tells of its process: how it stands, that Raft's rules allow all that its node did, that it is a server
-- among these, and that frames are numbered from 1.
pub record IsTold {D : Type 0} (state : D → DialerState) (journal : List (Item Running D)) : Type 0 where
  pub ports : List ℕ
  pub now : Standing
  pub tells : Tells state ports journal now
  pub host : IsHost now.running.host
  pub count : ℕ
  pub numbered : numbers opens journal ≡ count_to count
  pub of : IsOf (peers_of now.running.host) journal
