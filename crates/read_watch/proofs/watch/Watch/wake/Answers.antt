use Rattle.std.proofs.Common.{◌≡◌, ℕ, true, ◌⊎◌, inl, inr, Contains, sym, subst}
use Rattle.read_watch.specs.Watch.{IsAwake}
use Rattle.read_watch.proofs.watch.Watch.wake.Goals as goal

pub returns-then-not-add-clause-alone : goal.returns-then-not-add-clause-alone
returns-then-not-add-clause-alone c = λ n h. subst (λ w. Contains w.awake n ⊎ (n ≡ c.args.number)) c.self.view_is (c.add.ensures.alone n h)

pub returns-else-not-add-clause-awake : goal.returns-else-not-add-clause-awake
returns-else-not-add-clause-awake c = inr (c.add.ensures.there c.if-not-add.false)

pub returns-else-not-add-clause-alone : goal.returns-else-not-add-clause-alone
returns-else-not-add-clause-alone c = λ n h. subst (λ w. Contains w.awake n ⊎ (n ≡ c.args.number)) c.self.view_is (c.add.ensures.alone n h)

pub returns-else-not-add-clause-kept : goal.returns-else-not-add-clause-kept
returns-else-not-add-clause-kept c = λ n h. go n (subst (IsAwake n) (sym c.self.view_is) h)
  where
    go : (n : ℕ) → (c.self.inside.all ≡ true) ⊎ Contains c.self.inside.awake n → (c.self.inside.all ≡ true) ⊎ Contains c.add.new.self n
    go n (inl p) = inl p
    go n (inr p) = inr (c.add.ensures.kept n p)
