-- What a turn adds to the journal.
use Rattle.std.specs.Prelude.{◌≡◌, ℕ, ◌⊎◌, List, [], ◌∷◌, ◌++◌, Option, Some, None, Result, Ok, Err}
use Rattle.cat_model.specs.declared.memory.Memory.{Memory}
use Rattle.peer_frames.specs.declared.frame.Frame.{Frame}
use Rattle.peer_frames.specs.declared.frame.Frame.TheVariants as frames
use Rattle.node_service.specs.Processes.{Running}
use Rattle.turn_lock.specs.Lists.{EachOnce, numbers}
use Rattle.node_connections.specs.declared.item.Item.{Item}
use Rattle.node_connections.specs.declared.item.Taken.{Taken}
use Rattle.node_connections.specs.declared.item.Item.TheVariants as items
use Rattle.node_connections.specs.Journals.{Shared, opens, taken_of}

-- a frame that answers a client
abbrev pub IsReply : Frame → Type 0
IsReply (frames.Placed index term) = Unit {0}
IsReply (frames.Refused why) = Unit {0}
IsReply (frames.State term role commit last) = Unit {0}
IsReply (frames.Peer sender message) = ⊥
IsReply (frames.Propose command) = ⊥
IsReply frames.Status = ⊥

module _ {D : Type 0} where
  -- the journal of a process that has just begun so, over peers with these ports
  abbrev pub IsBeginning : Running → D → List ℕ → List (Item Running D) → Type 0
  IsBeginning running dialer ports [] = ⊥
  IsBeginning running dialer ports (items.Began p d at ∷ []) = (p.value ≡ running) × (d.value ≡ dialer) × (at.value.items ≡ ports)
  IsBeginning running dialer ports (items.Began p d at ∷ item ∷ rest) = ⊥
  IsBeginning running dialer ports (items.Turned now word due taken sent ∷ rest) = ⊥

  -- a process that took no frame yet, and its journal
  pub record Begins (running : Running) (dialer : D) (ports : List ℕ) (s : Shared D) : Type 0 where
    pub running_is : s.running ≡ running
    pub dialer_is : s.dialer ≡ dialer
    pub ports_are : s.ports ≡ ports
    pub journal : IsBeginning running dialer ports s.items

  -- One item was added: that of a turn without a frame.
  pub record AddsTurn (old new : List (Item Running D)) : Type 0 where
    pub item : Item Running D
    pub item_is : taken_of item ≡ None
    pub are : new ≡ old ++ item ∷ []
    pub once : EachOnce (numbers opens new)

  -- One item was added: that of a turn in which the frame was taken and answered so.
  pub record AddsTaken (frame : Frame) (answer : Result (Option Frame) Memory) (old new : List (Item Running D)) : Type 0 where
    pub taken : Taken
    pub frame_is : taken.frame.value ≡ frame
    pub answer_is : taken.answer.value ≡ answer
    pub item : Item Running D
    pub item_is : taken_of item ≡ Some taken
    pub are : new ≡ old ++ item ∷ []
    pub once : EachOnce (numbers opens new)

  -- The frame was taken and answered. Where there was no memory it may have been, and where there is no number for it
  -- it was not.
  abbrev pub AddsFrame : Frame → Result (Option Frame) Memory → List (Item Running D) → List (Item Running D) → Type 0
  AddsFrame frame (Ok answer) old new = AddsTaken frame (Ok answer) old new
  AddsFrame frame (Err e) old new = AddsTaken frame (Err e) old new ⊎ ((new ≡ old) × EachOnce (numbers opens new))
