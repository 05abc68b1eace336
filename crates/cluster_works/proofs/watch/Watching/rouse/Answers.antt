use Rattle.std.proofs.Common.{◌≢◌, refl}
use Rattle.cluster_works.proofs.Awake.{stay_by}
use Rattle.cluster_works.proofs.InLine.{lines_left}
use Rattle.cluster_works.proofs.watch.Watching.rouse.Goals as goal

pub returns-clause-kept : goal.returns-clause-kept
returns-clause-kept c = stay_by c.args.self.now (record { watch = c.self.inside.watch; seen = c.self.inside.seen }) (record { watch = c.rouse.new.self; seen = c.self.inside.seen }) c.self.view_is refl c.rouse.ensures.kept

pub returns-clause-lines : goal.returns-clause-lines
returns-clause-lines c =
    lines_left c.args.self.now (record { watch = c.self.inside.watch; seen = c.self.inside.seen }) (record { watch = c.rouse.new.self; seen = c.self.inside.seen }) (λ i. i ≢ c.args.server) c.self.view_is c.rouse.ensures.positions c.rouse.ensures.rounds
