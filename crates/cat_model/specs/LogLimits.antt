-- The limits of a server's log, in entries and in the bytes of their commands' spellings.
use Rattle.std.specs.Prelude.{ℕ, ◌+◌, nat_le, ◌&&◌, Bool, true, false, if◌then◌else◌, List, [], ◌∷◌, length}
use Rattle.cat_model.specs.declared.command.Command.{Command}
use Rattle.cat_model.specs.declared.command.Command.TheVariants.{Noop}
use Rattle.cat_model.specs.declared.command.Entry.{Entry}
use Rattle.cat_model.specs.Spelling.{spelling}

-- how many entries a log may have
abbrev pub most_entries : ℕ
most_entries = 262144

-- how many bytes the commands of a log may have, those of Noops not counted
abbrev pub most_bytes : ℕ
most_bytes = 67108864

abbrev pub command_bytes : Command → ℕ
command_bytes command = length (spelling command)

abbrev pub is_noop : Command → Bool
is_noop Noop = true
is_noop command = false

-- the bytes of a log's commands, those of Noops not counted
abbrev pub log_bytes : List Entry → ℕ
log_bytes [] = 0
log_bytes (e ∷ es) = (if is_noop e.command then 0 else command_bytes e.command) + log_bytes es

-- the bytes of all the entries' commands
abbrev pub entries_bytes : List Entry → ℕ
entries_bytes [] = 0
entries_bytes (e ∷ es) = command_bytes e.command + entries_bytes es

-- a log that is full in entries
abbrev pub is_full : List Entry → Bool
is_full log = nat_le most_entries (length log)

abbrev pub keeps_limits : List Entry → Bool
keeps_limits log = nat_le (length log) most_entries && nat_le (log_bytes log) most_bytes
