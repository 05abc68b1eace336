-- The bytes of a log's commands, up to each of its entries.
use Rattle.std.specs.Prelude.{ℕ, ◌+◌, List, [], ◌∷◌, cond}
use Rattle.cat_model.specs.declared.command.Entry.{Entry}
use Rattle.cat_model.specs.LogLimits.{command_bytes, is_noop}
use Rattle.command_codec.specs.Counts.{capped}

-- how many bytes an entry adds to those of a log
abbrev pub cost : Entry → ℕ
cost e = cond (is_noop e.command) 0 (command_bytes e.command)

-- the bytes up to each of these entries, behind so many
abbrev pub totals_from : ℕ → List Entry → List ℕ
totals_from before [] = []
totals_from before (e ∷ es) = capped (before + cost e) ∷ totals_from (capped (before + cost e)) es

-- the last of these totals, behind so many bytes
abbrev pub last_or : ℕ → List ℕ → ℕ
last_or before [] = before
last_or before (total ∷ totals) = last_or total totals
