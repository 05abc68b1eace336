-- What went over a connection.
use Rattle.std.specs.Prelude.{ℕ, List, [], ◌∷◌, ◌++◌, map, Option, Some}

-- the bytes that were read, those that were written, and for each read what both had been before it, the last read first
pub record Seen : Type 0 where
  pub heard : List ℕ
  pub said : List ℕ
  pub reads : List (List ℕ × List ℕ)

abbrev pub unseen : Seen
unseen = record { heard = []; said = []; reads = [] }

-- a read brought these bytes
abbrev pub after_read : List ℕ → Seen → Seen
after_read bytes s = record { heard = s.heard ++ bytes; said = s.said; reads = (s.heard, s.said) ∷ s.reads }

-- these bytes were written
abbrev pub after_write : List ℕ → Seen → Seen
after_write bytes s = record s { said = s.said ++ bytes }

-- the reads of a connection that tells its bytes
abbrev pub told_reads : Seen → List (Option (List ℕ) × Option (List ℕ))
told_reads s = map (λ r. (Some r.0, Some r.1)) s.reads
