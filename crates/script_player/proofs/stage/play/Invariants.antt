use Rattle.std.proofs.Common.{◌≡◌, ◌+◌, ◌*◌, ◌≤◌, length}
use Rattle.script_player.specs.Filters.{filter_in}
use Rattle.script_player.specs.Line.{lines_of}
use Rattle.script_player.specs.Script.{said}
use Rattle.script_player.specs.Stage.{kept_in, through}
use Rattle.script_player.proofs.Progress.{SoFar}
use Rattle.script_player.proofs.Filtering.{Agrees}
use Rattle.script_player.proofs.stage.play.Given as goal

abbrev pub invariant-loop-rest : goal.invariant-loop-rest
invariant-loop-rest g l = record {
  few : l.number + length l.rest ≤ l.fn.first + length l.fn.lines;
  made : l.events ≤ 8589934592 * l.number;
  faults : g.T.Taker.faults l.taker ≡ g.T.Taker.faults l.fn.taker;
  so_far : SoFar (through g.T.Taker.adds (filter_in (said l.fn.seed) 1 (lines_of l.fn.lines))) (said l.fn.seed) l.fn.first (lines_of l.fn.lines) (g.S.ClusterInterface.state l.fn.servers) (g.T.Taker.held l.fn.taker) (g.T.Taker.held l.taker) l.events l.number (lines_of l.rest) (g.S.ClusterInterface.state l.servers);
  agrees : Agrees (filter_in (said l.fn.seed) 1 (lines_of l.fn.lines)) (kept_in l.filters) (said l.fn.seed) (lines_of l.rest) (g.S.ClusterInterface.state l.servers);
}

abbrev pub decreases-loop-rest : goal.decreases-loop-rest
decreases-loop-rest g l = length l.rest
