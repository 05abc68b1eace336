use Rattle.std.proofs.Common.{◌≡◌, ℕ, ◌⊎◌, length}
use Rattle.read_watch.specs.Lines.{line_of}
use Rattle.read_watch.specs.Watch.{AwaitsRound, IsAwake}
use Rattle.read_watch.proofs.watch.Watch.wake_rounds.Given as goal

abbrev pub invariant-loop : goal.invariant-loop
invariant-loop l = record {
  kept : (n : ℕ) → IsAwake n l.fn.self → IsAwake n l.self;
  positions : l.self.positions ≡ l.fn.self.positions;
  rounds : (i n t k : ℕ) → AwaitsRound i n t k l.fn.self → IsAwake n l.self ⊎ AwaitsRound i n t k l.self;
  servers : l.self.servers ≡ l.fn.self.servers;
}

abbrev pub decreases-loop : goal.decreases-loop
decreases-loop l = length (line_of l.self.rounds l.server)
