use Rattle.std.proofs.Common.{◌≡◌, ℕ, ◌⊎◌, length}
use Rattle.read_watch.specs.Lines.{line_of}
use Rattle.read_watch.specs.Watch.{AwaitsPosition, IsAwake}
use Rattle.read_watch.proofs.watch.Watch.wake_positions.Given as goal

abbrev pub invariant-loop : goal.invariant-loop
invariant-loop l = record {
  kept : (n : ℕ) → IsAwake n l.fn.self → IsAwake n l.self;
  positions : (i n at : ℕ) → AwaitsPosition i n at l.fn.self → IsAwake n l.self ⊎ AwaitsPosition i n at l.self;
  rounds : l.self.rounds ≡ l.fn.self.rounds;
  servers : l.self.servers ≡ l.fn.self.servers;
}

abbrev pub decreases-loop : goal.decreases-loop
decreases-loop l = length (line_of l.self.positions l.server)
