use Rattle.std.proofs.Common.{◌+◌, ◌∙◌, subst, arith}
use Rattle.cluster_works.specs.Watching.{SameLines, StayAwake, Watching}
use Rattle.cluster_works.proofs.Awake.{take_next, then_stay}
use Rattle.cluster_works.proofs.watch.Watching.take_in.Goals as goal

pub loop-self-preserved : goal.loop-self-preserved
loop-self-preserved c =
    let before : Watching = record { watch = c.self.inside.watch; seen = c.self.inside.seen } in
    let mid : Watching = record { watch = c.loop-self.self-inside.watch; seen = c.loop-self.self-inside.seen } in
    let after : Watching = record { watch = c.wake.new.self; seen = c.loop-self.self-inside.seen + 1 } in (
      then_stay before mid after c.loop-self.invariant.0 (take_next mid c.wake.new.self c.wake.ensures.awake c.wake.ensures.kept),
      (c.wake.ensures.lines.0 ∙ c.loop-self.invariant.1.0, c.wake.ensures.lines.1 ∙ c.loop-self.invariant.1.1),
      c.wake.ensures.servers ∙ c.loop-self.invariant.2,
      omega (arith, c.loop-self-test.true),
    )

pub returns-clause-kept : goal.returns-clause-kept
returns-clause-kept c =
    let after : Watching = record { watch = c.loop-self.self-inside.watch; seen = c.loop-self.self-inside.seen } in
    subst (λ (w : Watching). StayAwake w after) c.self.view_is c.loop-self.invariant.0

pub returns-clause-lines : goal.returns-clause-lines
returns-clause-lines c =
    let after : Watching = record { watch = c.loop-self.self-inside.watch; seen = c.loop-self.self-inside.seen } in
    subst (λ (w : Watching). SameLines w after) c.self.view_is c.loop-self.invariant.1
