-- What a durable store of a server holds, and what its calls do to it.
-- The extended Raft paper, figure 2: persistent state, "updated on stable storage before responding to RPCs".
use Rattle.std.specs.Prelude.{◌≡◌, ◌≢◌, ℕ, ◌+◌, ◌-◌, ◌≤◌, ◌⊎◌, ⊤, Bool, true, List, [], ◌++◌, length, take, sum_by, Option, None, Some, Result, OnOk, IsErrOf}
use Rattle.std.specs.Option.{option_map}
use Rattle.cat_model.specs.declared.command.Entry.{Entry}
pub use Rattle.cat_model.specs.declared.kept.Kept.{Kept}
pub use Rattle.cat_model.specs.Keeping.{nothing_kept, with_vote, with_entries}
use Rattle.cat_model.specs.LogLimits.{keeps_limits}
use Rattle.outside.specs.Causes.{Rose}
use Rattle.outside.specs.declared.faults.KeepFail.{KeepFail}
use Rattle.outside.specs.declared.faults.KeepFail.TheVariants.{Failed, Memory}

-- entries may be stored from an index: none is left out before it, and the log then keeps its limits
pub record MayStore (index : ℕ) (entries : List Entry) (kept : Kept) : Type 0 where
  pub from : 1 ≤ index
  pub no_gap : index ≤ length kept.log + 1
  pub limits : keeps_limits (with_entries index entries kept).log ≡ true

-- what was read is what the store holds, where it tells that
abbrev pub Tells : Option Kept → Kept → Type 0
Tells None kept = ⊤
Tells (Some held) kept = kept ≡ held

-- A change of what a store holds, where it tells that: made after Ok, maybe made after Failed, and not made where
-- there was no memory.
pub record Changes {T : Type 0} (change : Kept → Kept) (old new : Option Kept) (result : Result T KeepFail) : Type 0 where
  pub ok : OnOk result (new ≡ option_map change old)
  pub failed : IsErrOf result Failed → (new ≡ old) ⊎ (new ≡ option_map change old)
  pub memory : IsErrOf result Memory → new ≡ old

-- a call that fails is one fault, and no other call is any
pub record KeepHasCause {T : Type 0} (before now : ℕ) (result : Result T KeepFail) : Type 0 where
  pub later : before ≤ now
  pub at_most_one : now ≤ before + 1
  pub failed : IsErrOf result Failed → Rose before now
  pub ok : OnOk result (now ≡ before)
  pub memory : IsErrOf result Memory → now ≡ before

-- A store that is sure fails only where it is armed, and then holds what it held.
pub record FailsWhereArmed {T : Type 0} (sure : Bool) (armed : ℕ) (old new : Option Kept) (result : Result T KeepFail) : Type 0 where
  pub asked : sure ≡ true → IsErrOf result Failed → (armed ≡ 1) × (new ≡ old)

-- The armed number: the call that finds 1 fails and leaves 0, which is none, and each other call that finds memory
-- lowers it.
pub record CountsDown {T : Type 0} (before now : ℕ) (result : Result T KeepFail) : Type 0 where
  pub ok : OnOk result ((before ≢ 1) × (now ≡ before - 1))
  pub failed : IsErrOf result Failed → now ≡ before - 1
  pub memory : IsErrOf result Memory → now ≡ before
