use Rattle.std.proofs.Common.{◌≡◌, ◌≢◌, ℕ, ◌⊎◌, inl, inr, ◌∙◌, ap, sym, subst, not, nat_eq, Contains}
use Rattle.read_watch.proofs.Members.{passing_were}
use Rattle.read_watch.specs.Watch.{SleepsAmong, IsAwake, sleepers_of, without}
use Rattle.read_watch.proofs.Places.{is, others_stay}
use Rattle.read_watch.proofs.Leavers.{as_said, not_asleep}
use Rattle.read_watch.proofs.watch.Watch.sleep.Goals as goal

pub returns-then-sleeps-clause-sleepers : goal.returns-then-sleeps-clause-sleepers
returns-then-sleeps-clause-sleepers c =
    others_stay c.args.self.now.servers c.self.inside.servers.items c.place.result c.args.server c.index_mut.result.now c.rest-sleeps.new.self (ap (λ w. w.servers) c.self.view_is) c.place.ensures c.requires.server.1 c.index_mut.ensures.value c.args.number c.rest-sleeps.ensures.others

pub returns-else-sleeps-clause-kept : goal.returns-else-sleeps-clause-kept
returns-else-sleeps-clause-kept c = λ n _ h. c.wake.ensures.kept n (subst (IsAwake n) (sym c.self.view_is) h)

pub returns-else-sleeps-clause-sleepers : goal.returns-else-sleeps-clause-sleepers
returns-else-sleeps-clause-sleepers c = λ i n chans deadline d h.
    subst (λ l. SleepsAmong n chans deadline (sleepers_of l i)) (sym c.wake.ensures.servers)
    (others_stay c.args.self.now.servers c.self.inside.servers.items c.place.result c.args.server c.index_mut.result.now c.rest-sleeps.new.self (ap (λ w. w.servers) c.self.view_is) c.place.ensures c.requires.server.1 c.index_mut.ensures.value c.args.number c.rest-sleeps.ensures.others i n chans deadline d h)

pub returns-then-sleeps-clause-alone : goal.returns-then-sleeps-clause-alone
returns-then-sleeps-clause-alone c = λ n _ h. subst (λ w. Contains w.awake n) c.self.view_is (passing_were (λ m. not (nat_eq m c.args.number)) n c.self.inside.awake c.take.new.self c.take.ensures.left h)

pub returns-else-sleeps-clause-alone : goal.returns-else-sleeps-clause-alone
returns-else-sleeps-clause-alone c = λ n d h. end n d (c.wake.ensures.alone n h)
  where
    end : (n : ℕ) → n ≢ c.args.number → Contains c.self.inside.awake n ⊎ (n ≡ c.args.number) → Contains c.args.self.now.awake n
    end n d (inl p) = subst (λ w. Contains w.awake n) c.self.view_is p
    end n d (inr q) = absurd (d q)

pub returns-then-sleeps-clause-only : goal.returns-then-sleeps-clause-only
returns-then-sleeps-clause-only c = λ cs d h.
    let same = as_said c.args.number cs c.args.chans.now d c.args.deadline c.rest-sleeps.new.self (c.rest-sleeps.ensures.sleeps c.if-sleeps.true) (subst (SleepsAmong c.args.number cs d) (is c.args.self.now.servers c.self.inside.servers.items c.place.result c.args.server c.index_mut.result.now c.rest-sleeps.new.self (ap (λ w. w.servers) c.self.view_is) c.place.ensures c.requires.server.1 c.index_mut.ensures.value) h) in
    (same.0, same.1, c.take.ensures.left ∙ ap (λ w. without c.args.number w.awake) c.self.view_is)

pub returns-else-sleeps-clause-only : goal.returns-else-sleeps-clause-only
returns-else-sleeps-clause-only c = λ cs d h.
    let e = ap (λ l. sleepers_of l c.args.server) c.wake.ensures.servers ∙ is c.args.self.now.servers c.self.inside.servers.items c.place.result c.args.server c.index_mut.result.now c.rest-sleeps.new.self (ap (λ w. w.servers) c.self.view_is) c.place.ensures c.requires.server.1 c.index_mut.ensures.value in
    absurd (not_asleep c.args.number cs d c.rest-sleeps.new.self (c.rest-sleeps.ensures.gone c.if-sleeps.false) (subst (SleepsAmong c.args.number cs d) e h))
