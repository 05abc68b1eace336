use Rattle.std.proofs.Common.{◌≡◌, flat_map, length}
use Rattle.run_rules.specs.Plays.{emptied}
use Rattle.script_player.specs.Filters.{Filters}
use Rattle.script_player.specs.Stage.{AreFor, KeepsWaiting, kept_in, through}
use Rattle.script_player.proofs.Written.{Written}
use Rattle.script_player.proofs.stage.take_outs.Given as goal

abbrev pub invariant-loop-out : goal.invariant-loop-out
invariant-loop-out g l = record {
  state : emptied (g.S.ClusterInterface.state l.servers) ≡ emptied (g.S.ClusterInterface.state l.fn.servers);
  faults : g.T.Taker.faults l.taker ≡ g.T.Taker.faults l.fn.taker;
  written : (f : Filters) → AreFor f (kept_in l.fn.filters) (g.S.ClusterInterface.state l.fn.servers).tray →
      AreFor f (kept_in l.filters) (g.S.ClusterInterface.state l.servers).tray
      × Written (g.T.Taker.held l.fn.taker) (g.T.Taker.held l.taker) (flat_map (through g.T.Taker.adds f) (g.S.ClusterInterface.state l.fn.servers).tray) (flat_map (through g.T.Taker.adds f) (g.S.ClusterInterface.state l.servers).tray);
  kept : KeepsWaiting (kept_in l.fn.filters) (kept_in l.filters) (emptied (g.S.ClusterInterface.state l.fn.servers)).past;
}

abbrev pub decreases-loop-out : goal.decreases-loop-out
decreases-loop-out g l = length (g.S.ClusterInterface.state l.servers).tray
