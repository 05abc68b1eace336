-- How an object counts its faults and its ends, and when a call may answer that it failed.
use Rattle.std.specs.Prelude.{◌≡◌, ℕ, ◌+◌, ◌-◌, ◌^◌, ◌<◌, ◌≤◌, min, Result, OnOk, OnErr, IsErrOf, Ok}
use Rattle.outside.specs.declared.faults.KeepFail.{KeepFail}
use Rattle.outside.specs.declared.faults.KeepFail.TheVariants.{Failed, Memory}

-- one more, but for a count that stands at its type's end
abbrev pub counted : ℕ → ℕ
counted before = min (before + 1) (2 ^ 64 - 1)

-- a count rose, or stands at its type's end
abbrev pub Rose : ℕ → ℕ → Type 0
Rose before now = counted before ≤ now

-- a call that fails is one fault, and no other call is any
pub record HasCause {T E : Type 0} (before now : ℕ) (result : Result T E) : Type 0 where
  pub later : before ≤ now
  pub at_most_one : now ≤ before + 1
  pub failed : OnErr result (Rose before now)
  pub ok : OnOk result (now ≡ before)

-- a write that fails, or takes no byte of a piece that isn't empty, is one fault, and no other write is any
pub record WriteHasCause (before now : ℕ) (result : Result ℕ KeepFail) (size : ℕ) : Type 0 where
  pub later : before ≤ now
  pub at_most_one : now ≤ before + 1
  pub failed : IsErrOf result Failed → Rose before now
  pub nothing_taken : result ≡ Ok 0 → 0 < size → Rose before now
  pub memory : IsErrOf result Memory → now ≡ before
  pub taken : (count : ℕ) → result ≡ Ok count → 0 < count → now ≡ before
  pub no_piece : OnOk result (size ≡ 0 → now ≡ before)

-- the count of ends rises by one where nothing was read into a buffer that isn't empty, and nowhere else
pub record CountsEnd {E : Type 0} (before now : ℕ) (result : Result ℕ E) (room : ℕ) : Type 0 where
  pub later : before ≤ now
  pub at_most_one : now ≤ before + 1
  pub at_end : result ≡ Ok 0 → 0 < room → Rose before now
  pub elsewhere : (count : ℕ) → result ≡ Ok count → 0 < count → now ≡ before
  pub no_room : OnOk result (room ≡ 0 → now ≡ before)
  pub failed : OnErr result (now ≡ before)
