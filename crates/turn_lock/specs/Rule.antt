-- The rule of the lock's table, and what each step on it tells the pass that makes it.
-- Word 0 counts the tickets that were drawn, and word 1 those that were served, both modulo 2^64. The slot has the state while nobody has the turn.
use Rattle.std.specs.Prelude.{◌≡◌, ℕ, ◌+◌, ◌%◌, ◌^◌, ◌<◌, ◌≤◌, ◌⊎◌, List, [], ◌∷◌, ◌++◌, length, drop, min, nat_lt, if◌then◌else◌, ◌-◌, ◌/◌, true, false, Option, Some}
use mathlib.Core.Option.{some, none}
use lib.ListN.{get_elem?}
use Rattle.atomic_table.specs.Table.{State, Me, Step, rest}
use Rattle.turn_lock.specs.declared.knowledge.Knowledge.{Knowledge}
use Rattle.turn_lock.specs.Lists.{Among, AreFronts, numbers, total, Extends, OpensAll, OpensOnly}

-- the shares of all passes together
abbrev pub all_shares : ℕ
all_shares = 2 ^ 63

-- what a pass with n shares gives to a new one
abbrev pub given : ℕ → ℕ
given n = min (n / 2) (2 ^ 32)

-- the shares of two passes, as a 64-bit number tells them
abbrev pub pooled : ℕ → ℕ → ℕ
pooled n m = min (n + m) (2 ^ 64 - 1)

module _ {I : Type 0} where
  -- has n shares, and knows nothing
  abbrev pub newcomer : ℕ → Knowledge I
  newcomer n = record { shares = n; waits = 0; ticket = 0; turn = false; seen = []; mine = []; told = [] }

  -- has all shares, has seen the list xs, and has each number that it opens
  abbrev pub founder : (I → Option ℕ) → List I → Knowledge I
  founder opens xs = record { shares = all_shares; waits = 0; ticket = 0; turn = false; seen = xs; mine = numbers opens xs; told = [] }

  abbrev pub waiting : Knowledge I → ℕ → Knowledge I
  waiting v t = record v { waits = 1; ticket = t }

  abbrev pub having : Knowledge I → List I → Knowledge I
  having v xs = record v { turn = true; seen = xs }

  abbrev pub left : Knowledge I → Knowledge I
  left v = record v { shares = v.shares - given v.shares }

  -- the new pass has seen as much, and opened no number
  abbrev pub right : Knowledge I → Knowledge I
  right v = record { shares = given v.shares; waits = 0; ticket = 0; turn = false; seen = v.seen; mine = []; told = [] }

  abbrev pub longer : List I → List I → List I
  longer xs ys = if nat_lt (length xs) (length ys) then ys else xs

  abbrev pub both : Knowledge I → Knowledge I → Knowledge I
  both v w = record v { shares = v.shares + w.shares; seen = longer v.seen w.seen; mine = v.mine ++ w.mine; told = w.seen ∷ (v.told ++ w.told) }

  abbrev pub passed : Knowledge I → Knowledge I
  passed v = record v { waits = 0; turn = false }

  -- one of these passes has the number
  abbrev pub IsSomeones : List (Knowledge I) → ℕ → Type 0
  IsSomeones vs n = (j : ℕ) × (v : Knowledge I) × (get_elem? vs j ≡ some v) × Among n v.mine

module _ {I : Type 0} (opens takes : I → Option ℕ) where
  -- the list xs was seen, and the numbers that are opened behind what was seen before are this pass's
  abbrev pub noted : Knowledge I → List I → Knowledge I
  noted v xs = record v { seen = xs; mine = v.mine ++ numbers opens (drop (length v.seen) xs) }

  -- What a pass knows is true: its ticket is one of those that are out, with the turn it has seen the whole list, and
  -- what it has not seen of the list neither opens nor takes its numbers. The list begins with all that joined passes had seen.
  -- A pass without shares has no numbers.
  pub record IsTrue (served drawn : ℕ) (log : List I) (v : Knowledge I) : Type 0 where
    pub shared : v.waits ≤ v.shares
    pub queued : 0 < v.waits → (served ≤ v.ticket) × (v.ticket < drawn)
    pub turned : v.turn ≡ true → (v.waits ≡ 1) × (v.ticket ≡ served) × (v.seen ≡ log)
    pub grown : Extends opens takes v.mine v.seen log
    pub own : OpensAll opens v.mine v.seen
    pub bare : (n : ℕ) → Among n v.mine → 0 < v.shares
    pub fronts : AreFronts v.told log

  -- two passes differ in their tickets and in their numbers
  abbrev pub Differ : Knowledge I → Knowledge I → Type 0
  Differ v w = (0 < v.waits → 0 < w.waits → v.ticket ≡ w.ticket → ⊥) × ((n : ℕ) → Among n v.mine → Among n w.mine → ⊥)

module _ {S I : Type 0} (items : S → List I) (opens takes : I → Option ℕ) where
  -- the state lies in the slot, and nobody has the turn
  abbrev pub IsHome : State (Option S) (Knowledge I) → List I → Type 0
  IsHome s log = (x : S) × (s.homes ≡ some (Some x) ∷ []) × (items x ≡ log) × ((j : ℕ) (v : Knowledge I) → get_elem? s.views j ≡ some v → v.turn ≡ false)

  -- somebody has the turn
  abbrev pub IsOut : State (Option S) (Knowledge I) → Type 0
  IsOut s = (j : ℕ) × (v : Knowledge I) × (get_elem? s.views j ≡ some v) × (v.turn ≡ true) × (s.homes ≡ none ∷ [])

  pub record IsKept (s : State (Option S) (Knowledge I)) : Type 0 where
    pub drawn : ℕ
    pub served : ℕ
    pub log : List I
    pub words : s.words ≡ (drawn % 2 ^ 64) ∷ (served % 2 ^ 64) ∷ []
    pub shares : total (λ (v : Knowledge I). v.shares) s.views ≤ all_shares
    pub count : served + total (λ (v : Knowledge I). v.waits) s.views ≡ drawn
    pub each : (j : ℕ) (v : Knowledge I) → get_elem? s.views j ≡ some v → IsTrue opens takes served drawn log v
    pub apart : (i j : ℕ) (v w : Knowledge I) → (i ≡ j → ⊥) → get_elem? s.views i ≡ some v → get_elem? s.views j ≡ some w → Differ opens takes v w
    pub whole : (n : ℕ) → Among n (numbers opens log) → IsSomeones s.views n
    pub slot : IsHome s log ⊎ IsOut s

  -- a pass at the table: what it knows, and what it holds
  abbrev Sat : Type 0
  Sat = Me (Option S) (Knowledge I)

  -- a ticket was drawn
  abbrev pub Draws : Step (Option S) → Sat → ℕ → Sat → Type 0
  Draws s m n m' = (n ≡ m'.0.ticket % 2 ^ 64) × (m' ≡ (waiting m.0 m'.0.ticket, m.1))

  -- The state x came with the turn. A pass with all shares has each number that its list opens.
  abbrev pub Comes : Sat → Sat → Type 0
  Comes m m' = (x : S) × (m' ≡ (having m.0 (items x), (0, Some x) ∷ [])) × Extends opens takes m.0.mine m.0.seen (items x) × AreFronts m.0.told (items x)
      × OpensAll opens m.0.mine (items x) × (all_shares ≤ m.0.shares → OpensOnly opens m.0.mine (items x))

  -- where the ticket is the one that is served, the turn has come
  abbrev pub Awaits : Step (Option S) → Sat → ℕ → Sat → Type 0
  Awaits s m n m' = (n ≡ m.0.ticket % 2 ^ 64 → Comes m m') × ((n ≡ m.0.ticket % 2 ^ 64 → ⊥) → m' ≡ m)

  -- the turn was given back, with the state in hand, whose list the pass has seen
  abbrev pub Leaves : Step (Option S) → Sat → ℕ → Sat → Type 0
  Leaves s m n m' = (x : S) → m.1 ≡ (0, Some x) ∷ [] → m' ≡ (passed (noted opens takes m.0 (items x)), rest m.1)
