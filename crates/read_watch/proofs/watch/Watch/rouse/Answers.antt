use Rattle.std.proofs.Common.{◌≢◌, ℕ, ◌⊎◌, inl, inr, ◌∙◌, sym, subst, List}
use Rattle.cat_model.specs.declared.query.Chan.{Chan}
use Rattle.read_watch.specs.Lines.{WaitsIn}
use Rattle.read_watch.specs.Watch.{AwaitsPosition, IsAwake, Sleeps, SleepsAmong, sleepers_of}
use Rattle.read_watch.proofs.watch.Watch.rouse.Goals as goal

pub returns-clause-kept : goal.returns-clause-kept
returns-clause-kept c = λ n h. c.wake_rounds.ensures.kept n (c.wake_positions.ensures.kept n (c.wake_sleepers.ensures.kept n h))

pub returns-clause-sleepers : goal.returns-clause-sleepers
returns-clause-sleepers c = λ i n chans deadline h. end i n chans deadline (c.wake_sleepers.ensures.sleepers i n chans deadline h)
  where
    end : (i n : ℕ) (chans : List Chan) (deadline : ℕ) → IsAwake n c.wake_sleepers.new.self ⊎ (Sleeps i n chans deadline c.wake_sleepers.new.self × (i ≢ c.args.server)) → IsAwake n c.wake_rounds.new.self ⊎ (Sleeps i n chans deadline c.wake_rounds.new.self × (i ≢ c.args.server))
    end i n chans deadline (inl p) = inl (c.wake_rounds.ensures.kept n (c.wake_positions.ensures.kept n p))
    end i n chans deadline (inr q) = inr (subst (λ l. SleepsAmong n chans deadline (sleepers_of l i)) (sym (c.wake_rounds.ensures.servers ∙ c.wake_positions.ensures.servers)) q.0, q.1)

pub returns-clause-positions : goal.returns-clause-positions
returns-clause-positions c = λ i n at h. end i n at (c.wake_positions.ensures.positions i n at (subst (WaitsIn i n 0 at) (sym c.wake_sleepers.ensures.lines.0) h))
  where
    end : (i n at : ℕ) → IsAwake n c.wake_positions.new.self ⊎ (AwaitsPosition i n at c.wake_positions.new.self × (i ≢ c.args.server)) → IsAwake n c.wake_rounds.new.self ⊎ (AwaitsPosition i n at c.wake_rounds.new.self × (i ≢ c.args.server))
    end i n at (inl p) = inl (c.wake_rounds.ensures.kept n p)
    end i n at (inr q) = inr (subst (WaitsIn i n 0 at) (sym c.wake_rounds.ensures.positions) q.0, q.1)

pub returns-clause-rounds : goal.returns-clause-rounds
returns-clause-rounds c = λ i n t k h. c.wake_rounds.ensures.rounds i n t k (subst (WaitsIn i n t k) (sym (c.wake_positions.ensures.rounds ∙ c.wake_sleepers.ensures.lines.1)) h)
