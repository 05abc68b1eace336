use Rattle.std.proofs.Common.{◌≢◌, ℕ, ◌≤◌, ◌<◌, ◌-◌, List, length, get_or}
use Rattle.http_wire.proofs.head.first_space.Given as goal

pub record Passed (buf : List ℕ) (place : ℕ) : Type 0 where
  pub within : place ≤ length buf
  pub none : (k : ℕ) → k < place → get_or buf k 0 ≢ 32

abbrev pub decreases-scan : goal.decreases-scan
decreases-scan l = length l.buf - l.place

abbrev pub invariant-scan : goal.invariant-scan
invariant-scan l = Passed l.buf l.place
