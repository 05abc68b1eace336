-- Passes of a board of turns.
use Rattle.std.specs.Prelude.{◌≡◌}
use Rattle.cat_model.specs.declared.reply.Mark.{Mark}
use Rattle.turn_lock.specs.declared.knowledge.Knowledge.{Knowledge}
use Rattle.turn_lock.specs.declared.history.History.{Ghosts}
use Rattle.turn_lock.specs.declared.lock.Pass.{Pass}
use Rattle.turn_lock.specs.declared.lock.HistoryLock.{HistoryLock}
use Rattle.turn_lock.specs.Passes.{IsFree}
use Rattle.crossbeam_utils.specs.declared.cache_padded.CachePadded.{CachePadded}
use Rattle.crossbeam_utils.specs.Padded.{padded_value}

module _ {S : Type 0} {G : Ghosts S Mark} where
  -- the pass is one of the board's, and has no turn
  abbrev pub IsOurs : CachePadded (HistoryLock S Mark) → Pass S Mark G → Type 0
  IsOurs board pass = (pass.seat.table_id ≡ (padded_value board).table.shared.table_id) × IsFree pass.seat

  -- what the pass has seen and opened
  abbrev pub known : Pass S Mark G → Knowledge Mark
  known pass = pass.seat.me.0
