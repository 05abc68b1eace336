-- What a server keeps over restarts, and what its durable store makes of it.
-- The extended Raft paper, figure 2: persistent state, "updated on stable storage before responding to RPCs".
use Rattle.std.specs.Prelude.{ℕ, ◌-◌, List, [], ◌++◌, take, Option, None}
use Rattle.cat_model.specs.declared.command.Entry.{Entry}
use Rattle.cat_model.specs.declared.kept.Kept.{Kept}

-- a store that was never written to
abbrev pub nothing_kept : Kept
nothing_kept = record { term = 0; vote = None; log = [] }

-- with this term and vote
abbrev pub with_vote : ℕ → Option ℕ → Kept → Kept
with_vote term vote kept = record kept { term = term; vote = vote }

-- with these entries in place of those from the index on
abbrev pub with_entries : ℕ → List Entry → Kept → Kept
with_entries index entries kept = record kept { log = take (index - 1) kept.log ++ entries }
