-- The log: entries in the order in which leaders entered them. Positions count from 1.
-- The extended Raft paper, figure 2 (State: log[]), and section 8 for the Noop that opens a leader's term.
use Rattle.std.specs.Prelude.{◌≡◌, ◌≢◌, ◌≤◌, List, [], ◌∷◌, map}
use Rattle.std.specs.List.{AllByRecursion}
use Rattle.cat_model.specs.declared.command.Command.{Command}
use Rattle.cat_model.specs.declared.command.Command.TheVariants.{Noop}
use Rattle.cat_model.specs.declared.command.Entry.{Entry}

-- what the catalog machine takes of a log
abbrev pub commands_of : List Entry → List Command
commands_of log = map (λ e. e.command) log

-- R holds of each entry and each later one
abbrev pub InPairs : (Entry → Entry → Type 0) → List Entry → Type 0
InPairs R [] = Unit {0}
InPairs R (e ∷ log) = AllByRecursion (R e) log × InPairs R log

-- the first entry is a Noop that no request asked for
abbrev pub Opens : List Entry → Type 0
Opens [] = Unit {0}
Opens (e ∷ log) = (e.command ≡ Noop) × (e.number ≡ 0)

-- terms never fall
abbrev pub IsNoLaterTerm : Entry → Entry → Type 0
IsNoLaterTerm e later = e.term ≤ later.term

-- a request is entered at most once in a term
abbrev pub IsOtherInTerm : Entry → Entry → Type 0
IsOtherInTerm e later = later.term ≡ e.term → e.number ≢ 0 → later.number ≢ e.number

-- and at most once in the log of a cluster whose durable stores began empty
abbrev pub IsOther : Entry → Entry → Type 0
IsOther e later = e.number ≢ 0 → later.number ≢ e.number

pub record IsWellFormed (log : List Entry) : Type 0 where
  pub opens : Opens log
  pub terms : InPairs IsNoLaterTerm log
  pub numbers : InPairs IsOtherInTerm log

-- each request stands at most once in the log
pub record IsEnteredOnce (log : List Entry) : Type 0 where
  pub numbers : InPairs IsOther log
