-- What the calls of a journal's bytes do to them, where it tells them.
use Rattle.std.specs.Prelude.{◌≡◌, ◌⊎◌, ⊤, ℕ, ◌<◌, ◌≤◌, List, ◌++◌, length, take, drop, Option, None, Some, Result, IfOk, OnOk, OnErr, IsErrOf}
use Rattle.std.specs.List.{All}
use Rattle.std.specs.Option.{option_map}
use Rattle.outside.specs.declared.faults.KeepFail.{KeepFail}
use Rattle.outside.specs.declared.faults.KeepFail.TheVariants.{Failed, Memory}

-- so many bytes of the journal from a place on were put at the front of the buffer, and none only at the journal's end
pub record GivesBytes (at : ℕ) (bytes : List ℕ) (count : ℕ) (into : List ℕ) : Type 0 where
  pub each : All (λ b. b < 256) bytes
  pub there : count ≤ length (drop at bytes)
  pub given : take count into ≡ take count (drop at bytes)
  pub end : count ≡ 0 → 0 < length into → length bytes ≤ at

abbrev pub GivesAt : {E : Type 0} → ℕ → Option (List ℕ) → Result ℕ E → List ℕ → Type 0
GivesAt at None result into = ⊤
GivesAt at (Some bytes) result into = IfOk result (λ count. GivesBytes at bytes count into)

-- The piece stands behind the old bytes after Ok, a first part of it after Failed, and nothing of it where there was no
-- memory.
pub record PutsBehind {T : Type 0} (piece : List ℕ) (old new : Option (List ℕ)) (result : Result T KeepFail) : Type 0 where
  pub ok : OnOk result (new ≡ option_map (λ bytes. bytes ++ piece) old)
  pub failed : IsErrOf result Failed → (kept : ℕ) × (new ≡ option_map (λ bytes. bytes ++ take kept piece) old)
  pub memory : IsErrOf result Memory → new ≡ old

-- the bytes behind the first so many are gone after Ok, and maybe after a failure
pub record CutsTo {T E : Type 0} (size : ℕ) (old new : Option (List ℕ)) (result : Result T E) : Type 0 where
  pub ok : OnOk result (new ≡ option_map (take size) old)
  pub failed : OnErr result ((new ≡ old) ⊎ (new ≡ option_map (take size) old))

-- the piece stands at the end after Ok, and a first part of it after a failure
pub record PutsAtEnd {T E : Type 0} (piece : List ℕ) (old new : Option (List ℕ)) (result : Result T E) : Type 0 where
  pub ok : OnOk result (new ≡ option_map (λ bytes. bytes ++ piece) old)
  pub failed : OnErr result ((kept : ℕ) × (new ≡ option_map (λ bytes. bytes ++ take kept piece) old))

-- Of a journal in a file: the bytes that the file shows, and those that its last sync found, where the disk tells them,
-- and how often a call has failed.
pub record DiskState : Type 0 where
  pub bytes : Option (List ℕ)
  pub synced : Option (List ℕ)
  pub faults : ℕ

-- Of a journal in memory whose calls with the numbers in `failing` fail: its bytes, how many calls were made but for
-- those that found no memory, how many of them failed, and how many bytes of its piece a failed `append` leaves.
pub record FaultyJournal : Type 0 where
  pub bytes : List ℕ
  pub failing : List ℕ
  pub torn : ℕ
  pub calls : ℕ
  pub faults : ℕ
