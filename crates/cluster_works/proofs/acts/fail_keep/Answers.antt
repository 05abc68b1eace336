use Rattle.cluster_works.proofs.Acting.{arming_acts}
use Rattle.cluster_works.proofs.acts.fail_keep.Goals as goal

pub returns : goal.returns
returns g c = λ gs wt s.
    arming_acts gs wt c.args.server c.args.nth c.args.servers.now.world c.fail_keep.new.self.world c.args.servers.now.servers c.fail_keep.new.self.servers c.args.requests.now c.mark_step.new.requests c.see-before.result c.see-now.result c.agreed.result.now s
    c.fail_keep.ensures.servers c.fail_keep.ensures.step c.see-before.ensures.seen c.see-now.ensures.seen c.agreed.ensures c.mark_step.ensures
