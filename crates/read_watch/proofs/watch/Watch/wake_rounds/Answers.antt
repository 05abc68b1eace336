use Rattle.std.proofs.Common.{◌≢◌, ℕ, ◌⊎◌, inl, inr, ◌∙◌, sym, subst, Contains}
use Rattle.read_watch.specs.Watch.{AwaitsRound, IsAwake}
use Rattle.read_watch.proofs.Waiting.{nobody_there}
use Rattle.read_watch.proofs.watch.Watch.wake_rounds.Goals as goal

pub loop-preserved : goal.loop-preserved
loop-preserved c = record {
  kept = λ n h. c.wake_first_round.ensures.kept n (c.loop.invariant.kept n h);
  rounds = λ i n t k h. go i n t k (c.loop.invariant.rounds i n t k h);
  positions = c.wake_first_round.ensures.positions ∙ c.loop.invariant.positions;
  servers = c.wake_first_round.ensures.servers ∙ c.loop.invariant.servers;
}
  where
    go : (i n t k : ℕ) → IsAwake n c.loop.self ⊎ AwaitsRound i n t k c.loop.self → IsAwake n c.wake_first_round.new.self ⊎ AwaitsRound i n t k c.wake_first_round.new.self
    go i n t k (inl p) = inl (c.wake_first_round.ensures.kept n p)
    go i n t k (inr q) = c.wake_first_round.ensures.rounds i n t k q

pub returns-clause-rounds : goal.returns-clause-rounds
returns-clause-rounds c = λ i n t k h. end i n t k (c.loop.invariant.rounds i n t k h)
  where
    end : (i n t k : ℕ) → IsAwake n c.loop.self ⊎ AwaitsRound i n t k c.loop.self → IsAwake n c.wake_first_round.new.self ⊎ (AwaitsRound i n t k c.wake_first_round.new.self × (i ≢ c.args.server))
    end i n t k (inl p) = inl (c.wake_first_round.ensures.kept n p)
    end i n t k (inr q) =
        let none = c.wake_first_round.ensures.none c.loop-test.false in
        inr (subst (AwaitsRound i n t k) (sym none.1) q, λ there. nobody_there (t, k, n) (subst (λ l. Contains l (t, k, n)) none.0 (subst (λ j. AwaitsRound j n t k c.loop.self) there q)))

pub returns-clause-kept : goal.returns-clause-kept
returns-clause-kept c = λ n h. c.wake_first_round.ensures.kept n (c.loop.invariant.kept n h)
