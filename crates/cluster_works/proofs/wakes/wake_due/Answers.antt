use Rattle.cluster_works.proofs.Woken.{all_awake_due, is_server}
use Rattle.cluster_works.proofs.wakes.wake_due.Goals as goal

pub wake_held-requires-clause-server : goal.wake_held-requires-clause-server
wake_held-requires-clause-server g c = is_server c.args.watch.now c.args.servers.now.world c.args.servers.now.servers c.args.requests.now c.args.server c.requires.stands c.requires.server

pub wake_ready-requires-clause-stands : goal.wake_ready-requires-clause-stands
wake_ready-requires-clause-stands g c = c.take_in.ensures.stands c.args.servers.now.world c.args.servers.now.servers c.requires.stands

pub returns-then-is_halted-clause-awake : goal.returns-then-is_halted-clause-awake
returns-then-is_halted-clause-awake g c =
    all_awake_due c.args.servers.now c.args.server c.wake_held.new.watch c.args.requests.now.held
    (c.wake_held.ensures.awake c.args.servers.now.world c.args.servers.now.servers c.requires.stands)
