use Rattle.std.proofs.Common.{refl}
use Rattle.cluster_works.proofs.Awake.{stay_by}
use Rattle.cluster_works.proofs.watch.Watching.wake_over.Goals as goal

pub returns-clause-kept : goal.returns-clause-kept
returns-clause-kept c = stay_by c.args.self.now (record { watch = c.self.inside.watch; seen = c.self.inside.seen }) (record { watch = c.wake_over.new.self; seen = c.self.inside.seen }) c.self.view_is refl c.wake_over.ensures.kept
