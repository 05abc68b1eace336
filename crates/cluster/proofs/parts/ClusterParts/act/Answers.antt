use Rattle.std.proofs.Common.{OnOk, ap, refl, subst, sym}
use Rattle.cluster_order.specs.declared.impulse.Impulse.TheVariants as impulse
use Rattle.cluster_order.specs.Turns.{ActsWhole, event_of}
use Rattle.cluster.proofs.Impulses.{as_named}
use Rattle.cluster.proofs.parts.ClusterParts.act.Goals as goal

pub returns-in-Timeout-clause-whole : goal.returns-in-Timeout-clause-whole
returns-in-Timeout-clause-whole g c =
    subst (λ z. OnOk c.time_out.result (ActsWhole c.args.server z c.args.self.now c.time_out.new.self)) (as_named c.args.self.now impulse.Timeout (λ _. refl) c.args.impulse c.in-Timeout.field-0 c.args.server c.in-Timeout.is c.requires.goes) c.time_out.ensures.whole

pub returns-in-Beat-clause-whole : goal.returns-in-Beat-clause-whole
returns-in-Beat-clause-whole g c =
    subst (λ z. OnOk c.beat.result (ActsWhole c.args.server z c.args.self.now c.beat.new.self)) (as_named c.args.self.now impulse.Beat (λ _. refl) c.args.impulse c.in-Beat.field-0 c.args.server c.in-Beat.is c.requires.goes) c.beat.ensures.whole

pub returns-in-Deliver-clause-whole : goal.returns-in-Deliver-clause-whole
returns-in-Deliver-clause-whole g c =
    subst (λ z. OnOk c.deliver.result (ActsWhole c.args.server z c.args.self.now c.deliver.new.self)) (sym (ap event_of c.in-Deliver.is)) c.deliver.ensures.whole

pub returns-in-Restart-clause-whole : goal.returns-in-Restart-clause-whole
returns-in-Restart-clause-whole g c =
    subst (λ z. OnOk c.restart.result (ActsWhole c.args.server z c.args.self.now c.restart.new.self)) (as_named c.args.self.now impulse.Restart (λ _. refl) c.args.impulse c.in-Restart.field-0 c.args.server c.in-Restart.is c.requires.goes) c.restart.ensures.whole

pub returns-in-FailKeep-clause-whole : goal.returns-in-FailKeep-clause-whole
returns-in-FailKeep-clause-whole g c =
    subst (λ z. ActsWhole c.args.server z c.args.self.now c.fail_keep.new.self) (as_named c.args.self.now (λ n. impulse.FailKeep n c.in-FailKeep.nth) (λ _. refl) c.args.impulse c.in-FailKeep.field-0 c.args.server c.in-FailKeep.is c.requires.goes) c.fail_keep.ensures
