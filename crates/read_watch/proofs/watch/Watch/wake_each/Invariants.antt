use Rattle.std.proofs.Common.{◌≡◌, ℕ, true, ◌⊎◌, Contains, take}
use Rattle.read_watch.specs.Watch.{IsAwake, SameLines, is_among}
use Rattle.read_watch.proofs.watch.Watch.wake_each.Given as goal

abbrev pub invariant-loop-number : goal.invariant-loop-number
invariant-loop-number l = record {
  awake : (n : ℕ) → is_among n (take l.number-index l.numbers) ≡ true → IsAwake n l.self;
  alone : (n : ℕ) → Contains l.self.awake n → Contains l.fn.self.awake n ⊎ Contains l.numbers n;
  kept : (n : ℕ) → IsAwake n l.fn.self → IsAwake n l.self;
  servers : l.self.servers ≡ l.fn.self.servers;
  lines : SameLines l.fn.self l.self;
}
