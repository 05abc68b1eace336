use Rattle.std.proofs.Common.{◌≡◌, ◌≢◌, ℕ, ◌⊎◌, inl, inr, sym, subst, not, nat_eq, Contains}
use Rattle.read_watch.proofs.Members.{passing_were}
use Rattle.read_watch.specs.Lines.{WaitsIn}
use Rattle.read_watch.specs.Watch.{AwaitsPosition, IsAwake}
use Rattle.read_watch.proofs.watch.Watch.await_position.Goals as goal

pub returns-then-add-clause-alone : goal.returns-then-add-clause-alone
returns-then-add-clause-alone c = λ n _ h. subst (λ w. Contains w.awake n) c.self.view_is (passing_were (λ m. not (nat_eq m c.args.number)) n c.self.inside.awake c.take.new.self c.take.ensures.left h)

pub returns-else-add-clause-alone : goal.returns-else-add-clause-alone
returns-else-add-clause-alone c = λ n d h. end n d (c.wake.ensures.alone n h)
  where
    end : (n : ℕ) → n ≢ c.args.number → Contains c.self.inside.awake n ⊎ (n ≡ c.args.number) → Contains c.args.self.now.awake n
    end n d (inl p) = subst (λ w. Contains w.awake n) c.self.view_is p
    end n d (inr q) = absurd (d q)

pub returns-else-add-clause-kept : goal.returns-else-add-clause-kept
returns-else-add-clause-kept c = λ n _ h. c.wake.ensures.kept n (subst (IsAwake n) (sym c.self.view_is) h)

pub returns-else-add-clause-positions : goal.returns-else-add-clause-positions
returns-else-add-clause-positions c = λ i n at h. subst (WaitsIn i n 0 at) (sym c.wake.ensures.lines.0) (c.add.ensures.kept i n 0 at (subst (AwaitsPosition i n at) (sym c.self.view_is) h))
