-- A connection while it is served.
use Rattle.std.specs.Prelude.{◌≡◌, ℕ, ◌+◌, ◌≤◌, false, List, [], ◌∷◌, ◌++◌, length, Option, Some, None, Result, Ok, Err, OnOk, IfErr}
use Rattle.std.specs.List.{AllByRecursion}
use Rattle.std.specs.Io.KnownBytes.{append_known}
use Rattle.command_codec.specs.Counts.{capped}
use Rattle.outside.specs.Causes.{Rose}
use Rattle.serve_outside.specs.Links.{LinkState}
use Rattle.peer_frames.specs.declared.frame.Frame.{Frame}
use Rattle.peer_frames.specs.declared.reader.GotFrame.{GotFrame}
use Rattle.peer_frames.specs.declared.reader.GotFrame.TheVariants as gots
use Rattle.peer_frames.specs.Spelling.{Accepts, frame_bytes}
use Rattle.peer_frames.specs.Fronts.{Part}
use Rattle.peer_frames.specs.State.{Reader}
use Rattle.node_service.specs.Processes.{Running}
use Rattle.turn_lock.specs.declared.knowledge.Knowledge.{Knowledge}
use Rattle.node_connections.specs.declared.cause.PeerCause.{PeerCause}
use Rattle.node_connections.specs.declared.cause.PeerCause.TheVariants as cause
use Rattle.node_connections.specs.declared.item.Item.{Item}
use Rattle.node_connections.specs.declared.item.Taken.{Taken}
use Rattle.node_connections.specs.Journals.{IsOf}
use Rattle.node_connections.specs.Serving.{Connection, EndsBy, IsAnswered, Passed, answers_of, stream_of}

-- why a write stopped, by the link's count of failed writes before and after it
abbrev pub StopsBy : PeerCause → ℕ → ℕ → Type 0
StopsBy cause.WriteFault before after = Rose before after
StopsBy cause.Memory before after = Unit {0}
StopsBy other before after = ⊥

-- a link after a write: nothing was read, and its failed writes did not grow fewer
pub record IsAfterWrite (old new : LinkState) : Type 0 where
  pub number : new.number ≡ old.number
  pub heard : new.heard ≡ old.heard
  pub ends : new.ends ≡ old.ends
  pub read_faults : new.read_faults ≡ old.read_faults
  pub write_faults : old.write_faults ≤ new.write_faults
  pub shut : new.shut ≡ old.shut

-- A first part of the piece was written, and all of it where nothing stopped the write.
pub record Wrote (old : LinkState) (piece : List ℕ) (result : Result Unit PeerCause) (new : LinkState) : Type 0 where
  pub written : List ℕ
  pub unwritten : List ℕ
  pub piece_is : piece ≡ written ++ unwritten
  pub said : new.said ≡ append_known old.said written
  pub whole : OnOk result (unwritten ≡ [])
  pub stopped : IfErr result (λ why. StopsBy why old.write_faults new.write_faults)
  pub after : IsAfterWrite old new

-- the reader goes on behind what it gave
abbrev pub IsTaking : GotFrame → Type 0
IsTaking gots.More = Unit {0}
IsTaking (gots.Frame frame) = Unit {0}
IsTaking (gots.Bad at) = ⊥
IsTaking gots.Memory = ⊥

-- where a connection stands: its link, its reader, what its pass knows, and how many frames were answered
pub record Stage (D : Type 0) : Type 0 where
  pub link : LinkState
  pub reader : Reader
  pub known : Knowledge (Item Running D)
  pub frames : ℕ

-- the reader behind these frames of a stream, with what it holds of the next one
abbrev pub reader_behind : {D : Type 0} → Connection D → List ℕ → List ℕ → Reader
reader_behind c stream held = record { peers = c.peers; passed = capped (length stream); held = held; stop = None }

module _ {D : Type 0} (c : Connection D) where
  -- The connection goes on: all frames that came were handed in and answered, and `rest` was read and not taken yet.
  pub record Talks (s : Stage D) (rest : List ℕ) : Type 0 where
    pub ts : List Taken
    pub held : List ℕ
    pub passed : Passed c s.link s.known ts (stream_of ts ++ (held ++ rest)) (answers_of ts)
    pub reader : s.reader ≡ reader_behind c (stream_of ts) held
    pub part : Part c.peers held
    pub answered : AllByRecursion IsAnswered ts
    pub count : s.frames ≡ length ts
    pub unshut : s.link.shut ≡ false
    pub of : IsOf c.peers s.known.seen

  -- The next frame was read, and is to be handed in.
  pub record Owes (s : Stage D) (frame : Frame) (rest : List ℕ) : Type 0 where
    pub ts : List Taken
    pub passed : Passed c s.link s.known ts (stream_of ts ++ (frame_bytes frame ++ rest)) (answers_of ts)
    pub accepts : Accepts c.peers frame
    pub reader : s.reader ≡ reader_behind c (stream_of ts ++ frame_bytes frame) []
    pub answered : AllByRecursion IsAnswered ts
    pub count : s.frames ≡ length ts
    pub unshut : s.link.shut ≡ false
    pub of : IsOf c.peers s.known.seen

  -- The next frame was handed in, and this is to be written.
  pub record OwesAnswer (s : Stage D) (answer : Option Frame) (rest : List ℕ) : Type 0 where
    pub ts : List Taken
    pub last : Taken
    pub answer_is : last.answer.value ≡ Ok answer
    pub passed : Passed c s.link s.known (ts ++ last ∷ []) (stream_of (ts ++ last ∷ []) ++ rest) (answers_of ts)
    pub reader : s.reader ≡ reader_behind c (stream_of (ts ++ last ∷ [])) []
    pub answered : AllByRecursion IsAnswered ts
    pub count : s.frames ≡ length ts
    pub unshut : s.link.shut ≡ false
    pub of : IsOf c.peers s.known.seen

  -- what a call of the reader leaves to be done
  abbrev pub Comes : Stage D → List ℕ → GotFrame → Type 0
  Comes s rest gots.More = Talks s rest
  Comes s rest (gots.Frame frame) = Owes s frame rest
  Comes s rest (gots.Bad at) = EndsBy c (cause.Bad at) s.link s.known s.frames
  Comes s rest gots.Memory = EndsBy c cause.Memory s.link s.known s.frames

  -- the connection goes on, or has ended
  abbrev pub GoesOn : {T : Type 0} → Result T PeerCause → Stage D → List ℕ → Type 0
  GoesOn (Ok value) s rest = Talks s rest
  GoesOn (Err why) s rest = EndsBy c why s.link s.known s.frames
