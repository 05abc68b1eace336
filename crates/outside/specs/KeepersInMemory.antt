-- What contracts see of the durable stores in memory.
use Rattle.std.specs.Prelude.{ℕ, Bool, List, [], length, ◌==◌, ◌||◌}
use Rattle.outside.specs.Causes.{counted}
use Rattle.outside.specs.InMemory.{is_listed}
use Rattle.cat_model.specs.declared.kept.Kept.{Kept}
use Rattle.cat_model.specs.Keeping.{nothing_kept}

-- a store whose armed call fails and no other: the number of calls up to that one is `armed`, and 0 is none
pub record ArmedKeeper : Type 0 where
  pub kept : Kept
  pub armed : ℕ
  pub faults : ℕ

-- a store of which also the calls with the numbers in `failing` fail: `calls` were made but for those that found no
-- memory
pub record FaultyKeeper : Type 0 where
  pub kept : Kept
  pub armed : ℕ
  pub faults : ℕ
  pub failing : List ℕ
  pub calls : ℕ

-- a store as it is made: nothing is kept, no call was made, and none is to fail
abbrev pub empty_store : FaultyKeeper
empty_store = record { kept = nothing_kept; armed = 0; faults = 0; failing = []; calls = 0 }

-- whether its next call is to fail
unfoldable pub fails_next : FaultyKeeper → Bool
fails_next k = (k.armed == 1) || is_listed k.failing (counted k.calls)

-- whether only its armed call fails
abbrev pub is_sure : FaultyKeeper → Bool
is_sure k = length k.failing == 0
