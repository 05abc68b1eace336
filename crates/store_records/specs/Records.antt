-- The records of a server's journal as bytes: the length of the payload, and the payload.
use Rattle.std.specs.Prelude.{ℕ, ◌^◌, ◌<◌, ◌≤◌, List, [], ◌∷◌, length, IfSome}
use Rattle.std.specs.List.{concat}
use Rattle.cat_model.specs.declared.command.Entry.{Entry}
use Rattle.cat_model.specs.Spelling.{number_bytes, text_bytes, list_bytes, option_bytes, spelling}
use Rattle.cat_model.specs.Bounds.{IsNumber, IsListOf, InBounds}
use Rattle.store_records.specs.declared.records.Record.{Record}
use Rattle.store_records.specs.declared.records.Record.TheVariants.{Vote, Store}

-- an entry of a log: term, number and command
unfoldable pub entry_bytes : Entry → List ℕ
entry_bytes e = concat (number_bytes e.term ∷ number_bytes e.number ∷ spelling e.command ∷ [])

-- a first byte that tells the two apart, and the fields
abbrev pub payload : Record → List ℕ
payload (Vote term vote) = 1 ∷ concat (number_bytes term ∷ option_bytes number_bytes vote ∷ [])
payload (Store index entries) = 2 ∷ concat (number_bytes index ∷ list_bytes entry_bytes entries ∷ [])

-- a payload has at most so many bytes
abbrev pub most_payload : ℕ
most_payload = 100000000

-- the length of the payload, and the payload
abbrev pub record_bytes : Record → List ℕ
record_bytes r = text_bytes (payload r)

-- the number of a server
abbrev pub IsServer : ℕ → Type 0
IsServer server = server < 2 ^ 32

pub record IsEntry (e : Entry) : Type 0 where
  pub term : IsNumber e.term
  pub number : IsNumber e.number
  pub command : InBounds e.command

-- the fields are in bounds
abbrev pub IsPayload : Record → Type 0
IsPayload (Vote term vote) = IsNumber term × IfSome vote IsServer
IsPayload (Store index entries) = IsNumber index × IsListOf 1048576 IsEntry entries

-- the record has a spelling
pub record HasSpelling (r : Record) : Type 0 where
  pub fields : IsPayload r
  pub short : length (payload r) ≤ most_payload
