-- Passes of a board, and what they know.
use Rattle.std.specs.Prelude.{◌≡◌, ℕ, List, [], ◌∷◌, ◌++◌, Option, Some, None, Result, Ok, Err, ◌⊎◌}
use Rattle.cat_model.specs.declared.memory.Memory.{Memory}
use Rattle.peer_frames.specs.declared.frame.Frame.{Frame}
use Rattle.node_service.specs.Processes.{Running}
use Rattle.turn_lock.specs.declared.knowledge.Knowledge.{Knowledge}
use Rattle.turn_lock.specs.declared.history.History.{Ghosts}
use Rattle.turn_lock.specs.declared.lock.Pass.{Pass}
use Rattle.turn_lock.specs.declared.lock.HistoryLock.{HistoryLock}
use Rattle.turn_lock.specs.Lists.{EachOnce, Untouched, numbers}
use Rattle.turn_lock.specs.Passes.{IsFree}
use Rattle.node_connections.specs.declared.item.Item.{Item}
use Rattle.node_connections.specs.declared.item.Taken.{Taken}
use Rattle.node_connections.specs.Journals.{opens, taken_of, takes}

module _ {S I : Type 0} {G : Ghosts S I} where
  -- the pass is one of the board's, and has no turn
  abbrev pub IsOurs : HistoryLock S I → Pass S I G → Type 0
  IsOurs board pass = (pass.seat.table_id ≡ board.table.shared.table_id) × IsFree pass.seat

  -- what the pass has seen and opened
  abbrev pub known : Pass S I G → Knowledge I
  known pass = pass.seat.me.0

module _ {D : Type 0} where
  -- The pass has seen more of the journal, and has opened nothing. Each number of the journal is a frame's alone.
  pub record Sees (old new : Knowledge (Item Running D)) : Type 0 where
    pub more : List (Item Running D)
    pub seen : new.seen ≡ old.seen ++ more
    pub others : Untouched opens takes old.mine more
    pub mine : new.mine ≡ old.mine
    pub once : EachOnce (numbers opens new.seen)

  -- The frame was handed in by a turn of the pass, once, and was answered so.
  pub record HandsIn (frame : Frame) (answer : Result (Option Frame) Memory) (old new : Knowledge (Item Running D)) : Type 0 where
    pub taken : Taken
    pub frame_is : taken.frame.value ≡ frame
    pub answer_is : taken.answer.value ≡ answer
    pub before : List (Item Running D)
    pub item : Item Running D
    pub item_is : taken_of item ≡ Some taken
    pub seen : new.seen ≡ old.seen ++ (before ++ item ∷ [])
    pub others : Untouched opens takes old.mine before
    pub mine : new.mine ≡ old.mine ++ taken.number ∷ []
    pub once : EachOnce (numbers opens new.seen)

  -- A frame was handed in and answered. Where there was no memory, or no number for one more frame, nothing was
  -- answered, and the frame may have been handed in.
  abbrev pub MayHandIn : Frame → Result (Option Frame) Memory → Knowledge (Item Running D) → Knowledge (Item Running D) → Type 0
  MayHandIn frame (Ok answer) old new = HandsIn frame (Ok answer) old new
  MayHandIn frame (Err e) old new = HandsIn frame (Err e) old new ⊎ Sees old new
