-- What passes on a connection, up to its end.
use Rattle.std.specs.Prelude.{◌≡◌, ℕ, ◌+◌, ◌≤◌, ◌==◌, Bool, List, [], ◌∷◌, ◌++◌, length, map, Option, Some, None, Result, Ok, Err}
use Rattle.std.specs.List.{AllByRecursion, filter, filter_map, flat_map, list_any}
use Rattle.std.specs.Io.KnownBytes.{append_known}
use Rattle.cat_model.specs.declared.memory.Memory.{Memory}
use Rattle.command_codec.specs.Counts.{capped}
use Rattle.outside.specs.Causes.{Rose}
use Rattle.serve_outside.specs.Links.{LinkState}
use Rattle.peer_frames.specs.declared.frame.Frame.{Frame}
use Rattle.peer_frames.specs.declared.frame.Peers.{Peers}
use Rattle.peer_frames.specs.Spelling.{Accepts, frame_bytes}
use Rattle.peer_frames.specs.Fronts.{Part, Stuck}
use Rattle.node_service.specs.Processes.{Running}
use Rattle.turn_lock.specs.declared.knowledge.Knowledge.{Knowledge}
use Rattle.turn_lock.specs.Lists.{EachOnce, IsFront, numbers}
use Rattle.node_connections.specs.declared.cause.PeerCause.{PeerCause}
use Rattle.node_connections.specs.declared.cause.PeerCause.TheVariants as cause
use Rattle.node_connections.specs.declared.item.Item.{Item}
use Rattle.node_connections.specs.declared.item.Taken.{Taken}
use Rattle.node_connections.specs.Journals.{opens, taken_of}

-- its number is one of these
abbrev pub has_number : List ℕ → Taken → Bool
has_number own t = list_any (λ n. n == t.number) own

-- the frames of a journal whose numbers these are, in their order
abbrev pub taken_by : {D : Type 0} → List ℕ → List (Item Running D) → List Taken
taken_by own journal = filter (has_number own) (filter_map taken_of journal)

abbrev pub numbers_of : List Taken → List ℕ
numbers_of ts = map (λ t. t.number) ts

-- the bytes of these frames, one behind another
abbrev pub stream_of : List Taken → List ℕ
stream_of ts = flat_map (λ t. frame_bytes t.frame.value) ts

-- What is due to be written to a frame: its answer, if it has one.
abbrev pub answer_bytes : Result (Option Frame) Memory → List ℕ
answer_bytes (Ok None) = []
answer_bytes (Ok (Some frame)) = frame_bytes frame
answer_bytes (Err e) = []

abbrev pub answers_of : List Taken → List ℕ
answers_of ts = flat_map (λ t. answer_bytes t.answer.value) ts

-- memory sufficed for it
abbrev pub IsAnswered : Taken → Type 0
IsAnswered t = (answer : Option Frame) × (t.answer.value ≡ Ok answer)

-- the server that a connection speaks to, how its link was at first, and what its pass knew then
pub record Connection (D : Type 0) : Type 0 where
  pub peers : Peers
  pub first : LinkState
  pub begun : Knowledge (Item Running D)

-- it is the same link, and none of its counts fell
pub record IsLater (first now : LinkState) : Type 0 where
  pub number : now.number ≡ first.number
  pub ends : first.ends ≤ now.ends
  pub read_faults : first.read_faults ≤ now.read_faults
  pub write_faults : first.write_faults ≤ now.write_faults

module _ {D : Type 0} (c : Connection D) where
  -- What came and went since the connection began: bytes that were read and bytes that were written, where the link
  -- tells them, and frames that were handed in. Those are all frames of the journal whose numbers the pass has opened
  -- since, in their order there; each number stands once in the journal.
  pub record Passed (link : LinkState) (known : Knowledge (Item Running D)) (ts : List Taken) (read written : List ℕ) : Type 0 where
    pub heard : link.heard ≡ append_known c.first.heard read
    pub said : link.said ≡ append_known c.first.said written
    pub later : IsLater c.first link
    pub grown : IsFront c.begun.seen known.seen
    pub own : known.mine ≡ c.begun.mine ++ numbers_of ts
    pub taken : taken_by (numbers_of ts) known.seen ≡ ts
    pub once : EachOnce (numbers opens known.seen)
    pub accepted : AllByRecursion (λ t. Accepts c.peers t.frame.value) ts

  -- All frames that were read were handed in and answered, and `rest` is what was read behind them.
  pub record IsWhole (Ends : List Taken → List ℕ → Type 0) (link : LinkState) (known : Knowledge (Item Running D)) (frames : ℕ) : Type 0 where
    pub ts : List Taken
    pub rest : List ℕ
    pub passed : Passed link known ts (stream_of ts ++ rest) (answers_of ts)
    pub answered : AllByRecursion IsAnswered ts
    pub count : frames ≡ length ts
    pub ends : Ends ts rest

  -- The connection was cut off: the last frame that was handed in may have no answer, or one of which a part was written.
  pub record IsCut (link : LinkState) (known : Knowledge (Item Running D)) (frames : ℕ) : Type 0 where
    pub ts : List Taken
    pub last : List Taken
    pub few : length last ≤ 1
    pub rest : List ℕ
    pub written : List ℕ
    pub unwritten : List ℕ
    pub due : answers_of last ≡ written ++ unwritten
    pub passed : Passed link known (ts ++ last) (stream_of (ts ++ last) ++ rest) (answers_of ts ++ written)
    pub answered : AllByRecursion IsAnswered ts
    pub count : frames ≡ length ts

  -- How a connection ended, by its cause; `frames` frames were answered whole. It may end within a frame. Of a frame that
  -- is refused nothing was handed in.
  abbrev pub EndsBy : PeerCause → LinkState → Knowledge (Item Running D) → ℕ → Type 0
  EndsBy cause.Closed link known frames = IsWhole (λ ts rest. Part c.peers rest × Rose c.first.ends link.ends) link known frames
  EndsBy (cause.Bad at) link known frames =
      IsWhole (λ ts rest. (good : ℕ) × Stuck c.peers rest good × (at ≡ capped (length (stream_of ts) + good))) link known frames
  EndsBy cause.ReadFault link known frames = IsWhole (λ ts rest. Part c.peers rest × Rose c.first.read_faults link.read_faults) link known frames
  EndsBy cause.WriteFault link known frames = (cut : IsCut link known frames) × Rose c.first.write_faults link.write_faults × AllByRecursion IsAnswered cut.last
  EndsBy cause.Memory link known frames = IsCut link known frames
