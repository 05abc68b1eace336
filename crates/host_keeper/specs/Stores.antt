-- What contracts see of a durable store in memory or in a file.
use Rattle.std.specs.Prelude.{ℕ, ◌+◌, Bool, false, List, Option, None, Some}
use Rattle.cat_model.specs.declared.kept.Kept.{Kept}
use Rattle.outside.specs.KeepersInMemory.{is_sure}
use Rattle.file_keeper.specs.Journal.{held_by}
use Rattle.serve_outside.specs.Stores.{Made}
use Rattle.host_keeper.specs.declared.host_keeper.HostKeeper.{HostKeeper}
use Rattle.host_keeper.specs.declared.host_keeper.HostKeeper.TheVariants.{Memory, File}

-- which stores were made is not told
abbrev pub untold : Option (List Made)
untold = None

module _ {J : Type 0} where
  -- what it holds, where it is told
  abbrev pub held_of : HostKeeper J → Option Kept
  held_of (Memory keeper) = Some keeper.kept
  held_of (File keeper) = held_by keeper.bytes

  -- how often it has failed
  abbrev pub faults_of : HostKeeper J → ℕ
  faults_of (Memory keeper) = keeper.faults
  faults_of (File keeper) = keeper.journal_faults + keeper.own

  -- the number of its call that is to fail
  abbrev pub armed_of : HostKeeper J → ℕ
  armed_of (Memory keeper) = keeper.armed
  armed_of (File keeper) = keeper.armed

  -- whether it fails only there
  abbrev pub sure_of : HostKeeper J → Bool
  sure_of (Memory keeper) = is_sure keeper
  sure_of (File keeper) = false
