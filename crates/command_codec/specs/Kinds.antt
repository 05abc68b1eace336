-- The kinds of commands that have fields, by their tags.
use Rattle.std.specs.Prelude.{ℕ, ◌≤◌}
use Rattle.cat_model.specs.declared.command.Command.{Command}
use Rattle.cat_model.specs.Spelling.{tag_of}

abbrev pub IsTagged : ℕ → ℕ → Command → Type 0
IsTagged least most command = (least ≤ tag_of command) × (tag_of command ≤ most)

-- on the rows of nodes, services and checks
abbrev pub IsOnCatalog : Command → Type 0
IsOnCatalog = IsTagged 1 2

-- on one key, or on those with a prefix
abbrev pub IsOnKeys : Command → Type 0
IsOnKeys = IsTagged 3 9

abbrev pub IsOnSessions : Command → Type 0
IsOnSessions = IsTagged 11 12

abbrev pub IsOnQueries : Command → Type 0
IsOnQueries = IsTagged 13 14
