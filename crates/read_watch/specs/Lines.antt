-- Requests that wait in line at servers, each for a place.
use Rattle.std.specs.Prelude.{◌≡◌, ℕ, zero, suc, ◌<◌, ◌≤◌, ◌⊎◌, List, [], Contains, slice_index_or}

-- one that waits in line: the term and the number of the place for which it waits, and its own number
abbrev pub Waiter : Type 0
Waiter = ℕ × ℕ × ℕ

abbrev pub Line : Type 0
Line = List Waiter

-- server i's line
abbrev pub line_of : List Line → ℕ → Line
line_of lines zero = []
line_of lines (suc i) = slice_index_or lines i []

-- at server i request n waits for the place of this term and number
abbrev pub WaitsIn : (i n term number : ℕ) → List Line → Type 0
WaitsIn i n term number lines = Contains (line_of lines i) (term, number, n)

-- it waits for this place or a later one, where terms go before numbers
abbrev pub IsFrom : ℕ × ℕ → Waiter → Type 0
IsFrom place e = (place.0 < e.0) ⊎ ((place.0 ≡ e.0) × (place.1 ≤ e.1))
