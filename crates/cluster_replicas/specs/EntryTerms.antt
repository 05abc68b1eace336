-- The term of an entry that may be there.
use Rattle.std.specs.Prelude.{ℕ, Option, Some, None}
use Rattle.cat_model.specs.declared.command.Entry.{Entry}

-- 0 where there is none
abbrev pub term_of : Option Entry → ℕ
term_of None = 0
term_of (Some e) = e.term
