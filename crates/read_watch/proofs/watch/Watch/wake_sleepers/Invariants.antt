use Rattle.std.proofs.Common.{◌≡◌, ℕ, ◌⊎◌, List, length}
use Rattle.cat_model.specs.declared.query.Chan.{Chan}
use Rattle.read_watch.specs.Watch.{IsAwake, SameLines, Sleeps, sleepers_of}
use Rattle.read_watch.proofs.watch.Watch.wake_sleepers.Given as goal

abbrev pub invariant-loop : goal.invariant-loop
invariant-loop l = record {
  kept : (n : ℕ) → IsAwake n l.fn.self → IsAwake n l.self;
  sleepers : (i n : ℕ) (chans : List Chan) (deadline : ℕ) → Sleeps i n chans deadline l.fn.self → IsAwake n l.self ⊎ Sleeps i n chans deadline l.self;
  servers : length l.self.servers ≡ length l.fn.self.servers;
  lines : SameLines l.fn.self l.self;
}

abbrev pub decreases-loop : goal.decreases-loop
decreases-loop l = length (sleepers_of l.self.servers l.server).asleep
