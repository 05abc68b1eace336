-- Durable stores that were made for servers.
use Rattle.std.specs.Prelude.{◌≡◌, ℕ, ◌+◌, Bool, true, List, [], ◌∷◌, ◌++◌, Option, None, Some, ⊤}
use Rattle.std.specs.Option.{option_map}
use Rattle.cat_model.specs.declared.kept.Kept.{Kept}
use Rattle.cat_model.specs.Keeping.{nothing_kept}
use Rattle.cat_model.specs.LogLimits.{keeps_limits}
use Rattle.raft_model.specs.Node.{Store}

-- a store as it was made for a server, in a folder or in none
pub record Made : Type 0 where
  pub folder : Option (List ℕ)
  pub server : ℕ
  pub store : Store

-- the store that it made, by what it holds, its armed number, its count of faults, and whether it is sure
abbrev pub made_for : Option (List ℕ) → ℕ → Option Kept → ℕ → ℕ → Bool → Made
made_for folder server held armed faults sure = record { folder = folder; server = server; store = record { contents = held; armed = armed; faults = faults; sure = sure } }

-- an empty one that is sure
abbrev pub made_empty : Option (List ℕ) → ℕ → Made
made_empty folder server = made_for folder server (Some nothing_kept) 0 0 true

-- what is told of those that were made, with one more
abbrev pub also_made : Option (List Made) → Made → Option (List Made)
also_made told one = option_map (λ all. all ++ one ∷ []) told

-- what is told of those that were made grew by these
abbrev pub AddsMade : Option (List Made) → Option (List Made) → List Made → Type 0
AddsMade None told' added = ⊤
AddsMade (Some told) None added = ⊥
AddsMade (Some told) (Some told') added = told' ≡ told ++ added

-- these stores, for the servers from this number on
abbrev pub made_from : Option (List ℕ) → ℕ → List Store → List Made
made_from folder first [] = []
made_from folder first (s ∷ ss) = record { folder = folder; server = first; store = s } ∷ made_from folder (first + 1) ss

-- contents whose log is within the limits
abbrev pub KeepsLimits : Kept → Type 0
KeepsLimits kept = keeps_limits kept.log ≡ true
