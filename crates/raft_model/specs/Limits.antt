-- The limits of an Append, in entries and in the bytes of their commands' spellings, beside those of a log.
use Rattle.std.specs.Prelude.{ℕ, zero, suc, ◌+◌, nat_le, ◌&&◌, Bool, true, false, if◌then◌else◌, [], ◌∷◌, length}
pub use Rattle.cat_model.specs.LogLimits.{most_entries, most_bytes, command_bytes, is_noop, log_bytes, entries_bytes, is_full, keeps_limits}
use Rattle.raft_model.specs.Log.{Log}

-- how many bytes the commands of an Append may have that carries more than one entry
abbrev pub most_sent_bytes : ℕ
most_sent_bytes = 1310720

-- at most so many of the entries, while their command bytes and those before them stay within the limit
abbrev pub joining : ℕ → ℕ → Log → Log
joining zero before es = []
joining (suc room) before [] = []
joining (suc room) before (e ∷ es) =
    if nat_le (before + command_bytes e.command) most_sent_bytes then e ∷ joining room (before + command_bytes e.command) es else []

-- The entries that one Append carries of these: the first, and after it at most 63 more while the command bytes
-- of all stay within the limit.
abbrev pub batch : Log → Log
batch [] = []
batch (e ∷ es) = e ∷ joining 63 (command_bytes e.command) es
