use Rattle.std.proofs.Common.{◌≢◌, ℕ, ◌⊎◌, inl, inr, ◌∙◌, ap, sym, subst, List}
use Rattle.std.specs.Ordering.{nat_cmp}
use Rattle.std.specs.Map.{lookup}
use Rattle.std.specs.BTreeMap.{is_at}
use Rattle.std.proofs.lemmas.Option.{none-some}
use Rattle.cat_model.specs.declared.query.Chan.{Chan}
use Rattle.read_watch.specs.Watch.{IsAwake, Sleeps}
use Rattle.read_watch.proofs.watch.Watch.wake_sleepers.Goals as goal

pub loop-preserved : goal.loop-preserved
loop-preserved c = record {
  kept = λ n h. c.wake_sleeper.ensures.kept n (c.loop.invariant.kept n h);
  sleepers = λ i n chans deadline h. go i n chans deadline (c.loop.invariant.sleepers i n chans deadline h);
  servers = c.wake_sleeper.ensures.servers ∙ c.loop.invariant.servers;
  lines = (c.wake_sleeper.ensures.lines.0 ∙ c.loop.invariant.lines.0, c.wake_sleeper.ensures.lines.1 ∙ c.loop.invariant.lines.1);
}
  where
    go : (i n : ℕ) (chans : List Chan) (deadline : ℕ) → IsAwake n c.loop.self ⊎ Sleeps i n chans deadline c.loop.self → IsAwake n c.wake_sleeper.new.self ⊎ Sleeps i n chans deadline c.wake_sleeper.new.self
    go i n chans deadline (inl p) = inl (c.wake_sleeper.ensures.kept n p)
    go i n chans deadline (inr q) = c.wake_sleeper.ensures.sleepers i n chans deadline q

pub returns-clause-sleepers : goal.returns-clause-sleepers
returns-clause-sleepers c = λ i n chans deadline h. end i n chans deadline (c.loop.invariant.sleepers i n chans deadline h)
  where
    end : (i n : ℕ) (chans : List Chan) (deadline : ℕ) → IsAwake n c.loop.self ⊎ Sleeps i n chans deadline c.loop.self → IsAwake n c.wake_sleeper.new.self ⊎ (Sleeps i n chans deadline c.wake_sleeper.new.self × (i ≢ c.args.server))
    end i n chans deadline (inl p) = inl (c.wake_sleeper.ensures.kept n p)
    end i n chans deadline (inr q) =
        let none = c.wake_sleeper.ensures.none c.loop-test.false in
        inr (subst (Sleeps i n chans deadline) (sym none.1) q, λ there. none-some chans (sym (ap (lookup (is_at (nat_cmp n))) none.0) ∙ (subst (λ j. Sleeps j n chans deadline c.loop.self) there q).hangs))

pub returns-clause-kept : goal.returns-clause-kept
returns-clause-kept c = λ n h. c.wake_sleeper.ensures.kept n (c.loop.invariant.kept n h)
