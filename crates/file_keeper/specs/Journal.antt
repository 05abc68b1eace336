-- What the bytes of a journal stand for: what a store holds after the calls of its records, made one after the other.
use Rattle.std.specs.Prelude.{◌≡◌, ◌⊎◌, ℕ, zero, suc, ◌+◌, ◌≤◌, nat_le, ◌&&◌, Bool, true, false, List, [], ◌++◌, length, drop, Option, None, Some, Ok, Err, if◌then◌else◌}
use Rattle.std.specs.Option.{ForSome}
use Rattle.cat_model.specs.declared.kept.Kept.{Kept}
use Rattle.cat_model.specs.Keeping.{nothing_kept, with_vote, with_entries}
use Rattle.cat_model.specs.LogLimits.{keeps_limits}
use Rattle.outside.specs.Causes.{Rose}
use Rattle.command_codec.specs.declared.fault.Fault.TheVariants.{Cut, Bad}
use Rattle.store_records.specs.declared.records.Record.{Record}
use Rattle.store_records.specs.declared.records.Record.TheVariants.{Vote, Store}
use Rattle.command_codec.specs.Reading.{Read}
use Rattle.store_records.specs.Records.{record_bytes, HasSpelling}
use Rattle.store_records.specs.RecordReading.{record_at, AreBytes}

-- a store that holds this may make the call
abbrev pub may_make : Record → Kept → Bool
may_make (Vote term vote) kept = true
may_make (Store index entries) kept =
    nat_le 1 index && (nat_le index (length kept.log + 1) && keeps_limits (with_entries index entries kept).log)

-- what it holds after the call
abbrev pub made : Record → Kept → Kept
made (Vote term vote) kept = with_vote term vote kept
made (Store index entries) kept = with_entries index entries kept

-- What was read goes on with the call of its record. Where the bytes are cut off in a record, nothing more was kept.
abbrev pub replays : (Kept → List ℕ → Option Kept) → Kept → Read Record → Option Kept
replays next kept (Ok x) = if may_make x.0 kept then next (made x.0 kept) x.1 else None
replays next kept (Err Cut) = Some kept
replays next kept (Err (Bad left)) = None

-- in fewer than so many records
unfoldable pub replay_in : ℕ → Kept → List ℕ → Option Kept
replay_in zero kept bytes = None
replay_in (suc more) kept bytes = replays (replay_in more) kept (record_at bytes)

-- each record has bytes of its own
unfoldable pub replay : Kept → List ℕ → Option Kept
replay kept bytes = replay_in (suc (length bytes)) kept bytes

-- what the bytes stand for, and nothing where they are no journal
abbrev pub kept_of : List ℕ → Option Kept
kept_of bytes = replay nothing_kept bytes

-- the same of bytes that may not be told
abbrev pub held_by : Option (List ℕ) → Option Kept
held_by None = None
held_by (Some bytes) = kept_of bytes

-- whole records that lead from what is kept to what is kept then, whatever follows them
pub record Leads (before : Kept) (front : List ℕ) (after : Kept) : Type 0 where
  pub bytes : AreBytes front
  pub each : (rest : List ℕ) → AreBytes rest → replay before (front ++ rest) ≡ replay after rest

-- a journal without a cut record at its end
pub record IsWhole (bytes : List ℕ) : Type 0 where
  pub kept : Kept
  pub leads : Leads nothing_kept bytes kept

-- the piece spells a record that may be added to a journal of these bytes, where they are told
pub record MayPut (bytes : Option (List ℕ)) (piece : List ℕ) (r : Record) : Type 0 where
  pub spelled : HasSpelling r
  pub is : piece ≡ record_bytes r
  pub may : ForSome (held_by bytes) (λ kept. may_make r kept ≡ true)

-- what was found in a journal: what it stands for, where its whole records end, and whether more follows
pub record IsFound (bytes : List ℕ) (kept : Kept) (end : ℕ) (tail : Bool) : Type 0 where
  pub front : List ℕ
  pub rest : List ℕ
  pub is : bytes ≡ front ++ rest
  pub end_is : end ≡ length front
  pub leads : Leads nothing_kept front kept
  pub all : kept_of bytes ≡ Some kept
  pub no_tail : tail ≡ false → rest ≡ []

-- More bytes of a journal behind those that are still to be used: none only at the journal's end.
pub record IsNext (bytes : List ℕ) (at : ℕ) (rest next : List ℕ) : Type 0 where
  pub got : List ℕ
  pub behind : List ℕ
  pub is : next ≡ rest ++ got
  pub from : drop at bytes ≡ got ++ behind
  pub end : got ≡ [] → length bytes ≤ at
  pub each : AreBytes bytes

-- A durable store over a journal: the journal's bytes where it tells them, how often the journal has failed and how
-- often the store on its own account, the armed number, and whether it was loaded since it was made or failed.
pub record FileStore : Type 0 where
  pub bytes : Option (List ℕ)
  pub journal_faults : ℕ
  pub own : ℕ
  pub armed : ℕ
  pub ready : Bool

-- how often it has failed
abbrev pub faults_of : FileStore → ℕ
faults_of s = s.journal_faults + s.own

-- why a call that writes may fail: the journal's count rose, the call was armed, or there was no load before it
abbrev pub MayFail : FileStore → FileStore → Type 0
MayFail old new = Rose old.journal_faults new.journal_faults ⊎ ((old.armed ≡ 1) ⊎ (old.ready ≡ false))

-- why a load may fail: the journal's count rose, the call was armed, or the bytes are no journal
abbrev pub MayFailToLoad : FileStore → FileStore → Type 0
MayFailToLoad old new = Rose old.journal_faults new.journal_faults ⊎ ((old.armed ≡ 1) ⊎ ForSome old.bytes (λ bytes. kept_of bytes ≡ None))
