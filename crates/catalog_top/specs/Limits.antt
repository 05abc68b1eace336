-- The limits of a script.
use Rattle.std.specs.Prelude.{ℕ, nat_lt, Bool, ◌||◌, List, length}
use Rattle.script_player.specs.Line.{lines_of}

-- more than 16,777,216 bytes, or more than 1,048,576 lines
unfoldable pub is_too_long : List ℕ → Bool
is_too_long bytes = nat_lt 16777216 (length bytes) || nat_lt 1048576 (length (lines_of bytes))
