-- An outbox brought to a dialer as frames.
use Rattle.std.specs.Prelude.{◌≡◌, ℕ, zero, suc, ◌-◌, ◌^◌, ◌<◌, nat_le, Bool, true, false, ◌&&◌, ◌⊎◌, if◌then◌else◌, List, [], ◌∷◌, length, slice_get, Option, Some, None, Result, Ok, Err}
use Rattle.std.specs.List.{filter_map, list_any}
use Rattle.std.specs.Option.{option_map}
use Rattle.cat_model.specs.declared.memory.Memory.{Memory}
use Rattle.cat_model.specs.LogLimits.{entries_bytes}
use Rattle.outside.specs.declared.faults.KeepFail.{KeepFail}
use Rattle.outside.specs.declared.faults.KeepFail.TheVariants as keep
use Rattle.raft_model.specs.declared.message.Message.{Message}
use Rattle.raft_model.specs.declared.message.Message.TheVariants.{AskVote, Vote, Append, Yes, No}
use Rattle.raft_model.specs.declared.message.Sent.{Sent}
use Rattle.node_link.specs.Hosts.{Hosted}
use Rattle.peer_frames.specs.declared.frame.Frame.TheVariants.{Peer}
use Rattle.peer_frames.specs.Spelling.{frame_bytes}
use Rattle.node_service.specs.declared.dialer.Piece.{Piece}
use Rattle.node_service.specs.Dialers.{DialerState, append_took, brought}

-- A frame holds at most 64 entries, and of their commands as many bytes as a log may have.
abbrev pub has_frame : Message → Bool
has_frame (Append term prev_index prev_term entries commit round) =
    nat_le (length entries) 64 && nat_le (entries_bytes entries) 67108864
has_frame (AskVote term last_index last_term) = true
has_frame (Vote term granted) = true
has_frame (Yes term matched round) = true
has_frame (No term last) = true

-- the port of a server, from 1, where it has one
abbrev pub port_of : List ℕ → ℕ → Option ℕ
port_of ports zero = None
port_of ports (suc server) = slice_get ports server

-- A message as its frame, for the port of its server. One without a port, or that no frame holds, is lost.
abbrev pub piece_of : ℕ → List ℕ → Sent → Option Piece
piece_of sender ports m =
    if has_frame m.message
    then option_map (λ port. record { port = port; bytes = frame_bytes (Peer sender m.message) }) (port_of ports m.to)
    else None

-- the pieces of what a host has to send, in order
abbrev pub pieces_of : List ℕ → Hosted → List Piece
pieces_of ports h = filter_map (piece_of h.node.id ports) h.outbox.messages

-- each piece brought once, in order, whatever became of those before it
abbrev pub brought_all : List Piece → List (Result Unit KeepFail) → DialerState → DialerState
brought_all [] results dialer = dialer
brought_all (piece ∷ pieces) [] dialer = dialer
brought_all (piece ∷ pieces) (result ∷ results) dialer = brought_all pieces results (brought piece result dialer)

-- there was no memory to bring it
abbrev pub lacks_memory : Result Unit KeepFail → Bool
lacks_memory (Ok done) = false
lacks_memory (Err keep.Failed) = false
lacks_memory (Err keep.Memory) = true

-- A message was brought to the dialer, if it has a piece.
abbrev pub BringsOne : Option Piece → Result Unit KeepFail → DialerState → DialerState → Type 0
BringsOne None result old new = (result ≡ Ok tt) × (new ≡ old)
BringsOne (Some piece) result old new = new ≡ brought piece result old

-- The pieces were brought to the dialer; `short` says whether memory lacked for one of them.
pub record BringsAll (pieces : List Piece) (short : Bool) (old new : DialerState) : Type 0 where
  pub results : List (Result Unit KeepFail)
  pub each : length results ≡ length pieces
  pub dialer : new ≡ brought_all pieces results old
  pub memory : list_any lacks_memory results ≡ short

-- the host with nothing more to send
abbrev pub emptied : Hosted → Hosted
emptied h = record h { outbox = record { messages = []; lost = h.outbox.lost } }

-- What was in the outbox was brought to the dialer. Where memory lacked, all is as before, or the pieces for which it
-- lacked are lost as those are whose calls failed.
abbrev pub SendsAll : List ℕ → Hosted → DialerState → Result Unit Memory → Hosted → DialerState → Type 0
SendsAll ports old before (Ok done) new after = (new ≡ emptied old) × BringsAll (pieces_of ports old) false before after
SendsAll ports old before (Err e) new after =
    ((new ≡ old) × (after ≡ before)) ⊎ ((new ≡ emptied old) × BringsAll (pieces_of ports old) true before after)

-- where no call failed, the dialer took all
abbrev pub TakesAll : List Piece → DialerState → DialerState → Type 0
TakesAll pieces old new = new.faults ≡ old.faults → old.faults < 2 ^ 64 - 1 → new.took ≡ append_took old.took pieces
