use Rattle.std.proofs.Common.{◌≢◌, ℕ, ◌⊎◌, inl, inr, ◌∙◌, sym, subst, Contains}
use Rattle.read_watch.specs.Watch.{AwaitsPosition, IsAwake}
use Rattle.read_watch.proofs.Waiting.{nobody_there}
use Rattle.read_watch.proofs.watch.Watch.wake_positions.Goals as goal

pub loop-preserved : goal.loop-preserved
loop-preserved c = record {
  kept = λ n h. c.wake_first_position.ensures.kept n (c.loop.invariant.kept n h);
  positions = λ i n at h. go i n at (c.loop.invariant.positions i n at h);
  rounds = c.wake_first_position.ensures.rounds ∙ c.loop.invariant.rounds;
  servers = c.wake_first_position.ensures.servers ∙ c.loop.invariant.servers;
}
  where
    go : (i n at : ℕ) → IsAwake n c.loop.self ⊎ AwaitsPosition i n at c.loop.self → IsAwake n c.wake_first_position.new.self ⊎ AwaitsPosition i n at c.wake_first_position.new.self
    go i n at (inl p) = inl (c.wake_first_position.ensures.kept n p)
    go i n at (inr q) = c.wake_first_position.ensures.positions i n at q

pub returns-clause-positions : goal.returns-clause-positions
returns-clause-positions c = λ i n at h. end i n at (c.loop.invariant.positions i n at h)
  where
    end : (i n at : ℕ) → IsAwake n c.loop.self ⊎ AwaitsPosition i n at c.loop.self → IsAwake n c.wake_first_position.new.self ⊎ (AwaitsPosition i n at c.wake_first_position.new.self × (i ≢ c.args.server))
    end i n at (inl p) = inl (c.wake_first_position.ensures.kept n p)
    end i n at (inr q) =
        let none = c.wake_first_position.ensures.none c.loop-test.false in
        inr (subst (AwaitsPosition i n at) (sym none.1) q, λ there. nobody_there (0, at, n) (subst (λ l. Contains l (0, at, n)) none.0 (subst (λ j. AwaitsPosition j n at c.loop.self) there q)))

pub returns-clause-kept : goal.returns-clause-kept
returns-clause-kept c = λ n h. c.wake_first_position.ensures.kept n (c.loop.invariant.kept n h)
