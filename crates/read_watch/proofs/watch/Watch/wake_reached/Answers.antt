use Rattle.std.proofs.Common.{◌≡◌, ℕ, ◌<◌, ◌⊎◌, inl, inr, ◌∙◌, subst}
use Rattle.read_watch.specs.Watch.{AwaitsPosition, IsAwake}
use Rattle.read_watch.proofs.watch.Watch.wake_reached.Goals as goal

pub loop-self-preserved : goal.loop-self-preserved
loop-self-preserved c = record {
  kept = λ n h. c.wake_first_position.ensures.kept n (c.loop-self.invariant.kept n h);
  positions = λ i n at h. go i n at (c.loop-self.invariant.positions i n at h);
  rounds = c.wake_first_position.ensures.rounds ∙ c.loop-self.invariant.rounds;
  servers = c.wake_first_position.ensures.servers ∙ c.loop-self.invariant.servers;
}
  where
    go : (i n at : ℕ) → IsAwake n c.loop-self.self ⊎ AwaitsPosition i n at c.loop-self.self → IsAwake n c.wake_first_position.new.self ⊎ AwaitsPosition i n at c.wake_first_position.new.self
    go i n at (inl p) = inl (c.wake_first_position.ensures.kept n p)
    go i n at (inr q) = c.wake_first_position.ensures.positions i n at q

pub returns-clause-positions : goal.returns-clause-positions
returns-clause-positions c = λ i n at h. end i n at (c.loop-self.invariant.positions i n at h)
  where
    end : (i n at : ℕ) → IsAwake n c.loop-self.self ⊎ AwaitsPosition i n at c.loop-self.self → IsAwake n c.loop-self.self ⊎ (AwaitsPosition i n at c.loop-self.self × (i ≡ c.args.server → c.args.position < at))
    end i n at (inl p) = inl p
    end i n at (inr q) = inr (q, λ there. c.is_reached.ensures.later c.loop-self-test.false n at (subst (λ j. AwaitsPosition j n at c.loop-self.self) there q))
