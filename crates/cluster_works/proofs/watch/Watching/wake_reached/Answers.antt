use Rattle.std.proofs.Common.{◌≡◌, ◌<◌, refl}
use Rattle.cluster_works.proofs.Awake.{stay_by}
use Rattle.cluster_works.proofs.InLine.{positions_later, positions_leave}
use Rattle.cluster_works.proofs.watch.Watching.wake_reached.Goals as goal

pub returns-clause-kept : goal.returns-clause-kept
returns-clause-kept c = stay_by c.args.self.now (record { watch = c.self.inside.watch; seen = c.self.inside.seen }) (record { watch = c.wake_reached.new.self; seen = c.self.inside.seen }) c.self.view_is refl c.wake_reached.ensures.kept

pub returns-clause-lines : goal.returns-clause-lines
returns-clause-lines c =
    positions_leave c.args.self.now (record { watch = c.self.inside.watch; seen = c.self.inside.seen }) (record { watch = c.wake_reached.new.self; seen = c.self.inside.seen }) (λ i at. i ≡ c.args.server → c.args.position < at) c.self.view_is
    c.wake_reached.ensures.positions c.wake_reached.ensures.rounds

pub returns-clause-later : goal.returns-clause-later
returns-clause-later c =
    positions_later c.args.self.now (record { watch = c.self.inside.watch; seen = c.self.inside.seen }) (record { watch = c.wake_reached.new.self; seen = c.self.inside.seen }) c.args.server c.args.position c.self.view_is c.wake_reached.ensures.positions
