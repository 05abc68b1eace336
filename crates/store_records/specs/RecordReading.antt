-- Reading a record of a journal from the left, and what bytes are to records.
use Rattle.std.specs.Prelude.{◌≡◌, ℕ, suc, ◌+◌, ◌-◌, ◌≤◌, ◌<◌, nat_le, nat_lt, ◌==◌, ◌&&◌, ◌⊎◌, List, [], ◌∷◌, ◌++◌, length, take, drop, Result, Ok, Err, if◌then◌else◌}
use Rattle.std.specs.List.{AllByRecursion}
use Rattle.cat_model.specs.declared.command.Entry.{Entry}
use Rattle.cat_model.specs.Spelling.{number_bytes}
use Rattle.command_codec.specs.declared.fault.Fault.{Fault}
use Rattle.command_codec.specs.declared.fault.Fault.TheVariants.{Cut, Bad}
use Rattle.store_records.specs.declared.fault.RecordFault.{RecordFault}
use Rattle.store_records.specs.declared.fault.RecordFault.TheVariants as answers
use Rattle.store_records.specs.declared.records.Record.{Record}
use Rattle.store_records.specs.declared.records.Record.TheVariants.{Vote, Store}
use Rattle.command_codec.specs.Reading.{Read, ◌>>=◌, number_at, any_number_at, option_at, list_at, command_at}
use Rattle.store_records.specs.Records.{payload, record_bytes, most_payload, IsPayload, HasSpelling}

-- the number of a server
abbrev pub server_at : List ℕ → Read ℕ
server_at = number_at 0 4294967295

unfoldable pub entry_at : List ℕ → Read Entry
entry_at bytes = do
  term ← any_number_at bytes
  number ← any_number_at term.1
  command ← command_at number.1
  Ok (record { term = term.0; number = number.0; command = command.0 }, command.1)

unfoldable pub vote_at : List ℕ → Read Record
vote_at bytes = do
  term ← any_number_at bytes
  vote ← option_at server_at term.1
  Ok (Vote term.0 vote.0, vote.1)

unfoldable pub store_at : List ℕ → Read Record
store_at bytes = do
  index ← any_number_at bytes
  entries ← list_at 1048576 entry_at index.1
  Ok (Store index.0 entries.0, entries.1)

abbrev pub payload_at : List ℕ → Read Record
payload_at [] = Err Cut
payload_at (kind ∷ rest) =
    if kind == 1 then vote_at rest
    else (if kind == 2 then store_at rest else Err (Bad (suc (length rest))))

-- What was read of the front of so many bytes says of all: a payload ends where its length says, and not before.
abbrev pub framed_by : ℕ → List ℕ → Read Record → Read Record
framed_by n rest (Ok x) = if (length x.1 == 0) && nat_le n (length rest) then Ok (x.0, drop n rest) else Err (Bad (length x.1 + 1 + (length rest - n)))
framed_by n rest (Err Cut) = if nat_lt (length rest) n then Err Cut else Err (Bad (1 + (length rest - n)))
framed_by n rest (Err (Bad left)) = Err (Bad (left + (length rest - n)))

-- a payload of so many bytes
unfoldable pub framed_at : ℕ → List ℕ → Read Record
framed_at n rest = framed_by n rest (payload_at (take n rest))

-- a record: a payload has at least three bytes
unfoldable pub record_at : List ℕ → Read Record
record_at bytes = number_at 3 most_payload bytes >>= λ n. framed_at n.0 n.1

abbrev pub AreBytes : List ℕ → Type 0
AreBytes bytes = AllByRecursion (λ b. b < 256) bytes

-- the spelling of the record begins the bytes, and has so many of them
pub record Begins (r : Record) (size : ℕ) (bytes : List ℕ) : Type 0 where
  pub bounds : HasSpelling r
  pub rest : List ℕ
  pub is : bytes ≡ record_bytes r ++ rest
  pub sized : size ≡ length (record_bytes r)

-- the bytes are cut off within the length
pub record InLength (bytes : List ℕ) : Type 0 where
  pub length_is : ℕ
  pub from : 3 ≤ length_is
  pub to : length_is ≤ most_payload
  pub next : ℕ
  pub more : List ℕ
  pub is : number_bytes length_is ≡ bytes ++ next ∷ more

-- The bytes are cut off within the payload: fewer of them than the length says stand behind it, and they go on to a
-- payload, of whatever length.
pub record InPayload (bytes : List ℕ) : Type 0 where
  pub length_is : ℕ
  pub from : 3 ≤ length_is
  pub to : length_is ≤ most_payload
  pub front : List ℕ
  pub is : bytes ≡ number_bytes length_is ++ front
  pub short : length front < length_is
  pub of : Record
  pub bounds : IsPayload of
  pub next : ℕ
  pub more : List ℕ
  pub goes_on : payload of ≡ front ++ next ∷ more

abbrev pub IsCut : List ℕ → Type 0
IsCut bytes = InLength bytes ⊎ InPayload bytes

-- no record begins the bytes, and they are not cut off in one
pub record IsWrong (bytes : List ℕ) : Type 0 where
  pub none : (r : Record) (size : ℕ) → Begins r size bytes → ⊥
  pub not_cut : IsCut bytes → ⊥

-- the answer, or lack of memory
abbrev pub UnlessMemory : Result (Record × ℕ) RecordFault → Result (Record × ℕ) RecordFault → Type 0
UnlessMemory result answer = (result ≡ answer) ⊎ (result ≡ Err answers.Memory)

-- what was read, as an answer on so many bytes
abbrev pub answer_of : ℕ → Read Record → Result (Record × ℕ) RecordFault
answer_of size (Ok x) = Ok (x.0, size - length x.1)
answer_of size (Err Cut) = Err answers.Cut
answer_of size (Err (Bad left)) = Err (answers.Bad (size - left))
