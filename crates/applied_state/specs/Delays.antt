-- The lock delays that a server keeps: the ends of those that began, and the keys that its last position freed, with its
-- clock there.
use Rattle.std.specs.Prelude.{ℕ, List, map}
use Rattle.std.proofs.Common.{max}
use Rattle.cat_model.specs.Delays.{freed_until}
use Rattle.cat_model.specs.declared.fired.Freed.{Freed}
use Rattle.applied_state.specs.Ends.{end_of}
use Rattle.applied_state.specs.declared.delays.Delays.{Delays}

-- a freed key with its lock delay
abbrev pub freed_pair : Freed → List ℕ × ℕ
freed_pair f = (f.key, f.delay_ms)

-- The greatest end of the delays of the key, among those that began and those of these keys, freed at this clock.
abbrev pub end_with : List Freed → ℕ → List (List ℕ × ℕ) → List ℕ → ℕ
end_with freed clock begun key = max (freed_until key clock (map freed_pair freed)) (end_of key begun)

-- the clock at which the key's delay is over
abbrev pub delay_end : Delays → List ℕ → ℕ
delay_end d key = end_with d.freed d.clock d.begun key
