-- Logs. Indexes start at 1, and index 0 has term 0.
use Rattle.std.specs.Prelude.{◌≡◌, ℕ, zero, suc, ◌<◌, ◌≤◌, ◌==◌, List, [], ◌∷◌, ◌++◌, length, take, drop, if◌then◌else◌, Option, Some, None}
use Rattle.cat_model.specs.declared.command.Command.TheVariants.{Noop}
use Rattle.cat_model.specs.declared.command.Entry.{Entry}

abbrev pub Log : Type 0
Log = List Entry

-- the entry at index n
abbrev pub entry_at : ℕ → Log → Option Entry
entry_at zero log = None
entry_at (suc n) [] = None
entry_at (suc zero) (e ∷ es) = Some e
entry_at (suc (suc n)) (e ∷ es) = entry_at (suc n) es

-- the term at index n, and 0 at index 0 and past the end
abbrev pub term_at : ℕ → Log → ℕ
term_at zero log = 0
term_at (suc n) [] = 0
term_at (suc zero) (e ∷ es) = e.term
term_at (suc (suc n)) (e ∷ es) = term_at (suc n) es

-- the number at index n, and 0 at index 0 and past the end
abbrev pub number_at : ℕ → Log → ℕ
number_at zero log = 0
number_at (suc n) [] = 0
number_at (suc zero) (e ∷ es) = e.number
number_at (suc (suc n)) (e ∷ es) = number_at (suc n) es

abbrev pub last_term : Log → ℕ
last_term log = term_at (length log) log

-- Entries that stand already with the same term are kept. From the first that differs or is missing
-- the log is cut, and the rest appended.
abbrev pub merged : Log → Log → Log
merged have [] = have
merged [] (e ∷ es) = e ∷ es
merged (h ∷ hs) (e ∷ es) = if h.term == e.term then h ∷ merged hs es else e ∷ es

-- a log after entries that come behind index prev
abbrev pub accepted : Log → ℕ → Log → Log
accepted log prev entries = take prev log ++ merged (drop prev log) entries

-- a log whose last entry has term t and index n is not smaller than this one
abbrev pub IsUpToDate : ℕ → ℕ → Log → Type 0
IsUpToDate t n log = (last_term log ≤ t) × (last_term log ≡ t → length log ≤ n)
