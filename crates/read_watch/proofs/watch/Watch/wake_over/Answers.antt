use Rattle.std.proofs.Common.{◌≡◌, ℕ, ◌<◌, ◌⊎◌, inl, inr, List, Contains, sym, ap, subst, slice_set}
use Rattle.cat_model.specs.declared.query.Chan.{Chan}
use Rattle.read_watch.specs.Watch.{SleepsAmong, IsAwake, IsOver, Sleeps, sleepers_of}
use Rattle.read_watch.proofs.Places.{leave_stay, was}
use Rattle.read_watch.proofs.Leavers.{due_over}
use Rattle.read_watch.proofs.watch.Watch.wake_over.Goals as goal

pub returns-in-Ok-clause-kept : goal.returns-in-Ok-clause-kept
returns-in-Ok-clause-kept c = λ n h. c.wake_each.ensures.kept n (subst (IsAwake n) (sym c.self.view_is) h)

pub returns-in-Ok-clause-sleepers : goal.returns-in-Ok-clause-sleepers
returns-in-Ok-clause-sleepers c = λ i n chans deadline h.
    end i n chans deadline (leave_stay c.args.self.now.servers c.self.inside.servers.items c.place.result c.args.server c.index_mut.result.now c.take_over.new.self (ap (λ w. w.servers) c.self.view_is) c.place.ensures c.requires.1 c.index_mut.ensures.value
    (λ _ d. c.args.clock < d) c.in-Ok.over c.in-Ok.ensures.leave i n chans deadline h)
  where
    end : (i n : ℕ) (chans : List Chan) (deadline : ℕ) → Contains c.in-Ok.over n ⊎ (SleepsAmong n chans deadline (sleepers_of (slice_set c.self.inside.servers.items c.place.result c.take_over.new.self) i) × (i ≡ c.args.server → c.args.clock < deadline))
        → IsAwake n c.wake_each.new.self ⊎ (Sleeps i n chans deadline c.wake_each.new.self × (i ≡ c.args.server → c.args.clock < deadline))
    end i n chans deadline (inl p) = inl (c.wake_each.ensures.awake n (subst (λ l. Contains l n) (sym c.as_slice.ensures) p))
    end i n chans deadline (inr p) = inr (subst (λ l. SleepsAmong n chans deadline (sleepers_of l i)) (sym c.wake_each.ensures.servers) p.0, p.1)

pub returns-in-Ok-clause-alone : goal.returns-in-Ok-clause-alone
returns-in-Ok-clause-alone c = λ n h. end n (c.wake_each.ensures.alone n h)
  where
    end : (n : ℕ) → Contains c.self.inside.awake n ⊎ Contains c.as_slice.result.now n → Contains c.args.self.now.awake n ⊎ IsOver n c.args.clock (sleepers_of c.args.self.now.servers c.args.server).timers
    end n (inl p) = inl (subst (λ w. Contains w.awake n) c.self.view_is p)
    end n (inr p) = inr (
        subst (λ s. IsOver n c.args.clock s.timers) (sym (was c.args.self.now.servers c.self.inside.servers.items c.place.result c.args.server c.index_mut.result.now c.take_over.new.self (ap (λ w. w.servers) c.self.view_is) c.place.ensures c.requires.1 c.index_mut.ensures.value))
        (due_over c.index_mut.result.now.timers c.args.clock n c.in-Ok.over c.in-Ok.ensures.due (subst (λ l. Contains l n) c.as_slice.ensures p)))

pub returns-in-Err-clause-alone : goal.returns-in-Err-clause-alone
returns-in-Err-clause-alone c = λ n h. inl (subst (λ w. Contains w.awake n) c.self.view_is h)
