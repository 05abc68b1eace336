use Rattle.std.proofs.Common.{◌≡◌, ◌-◌, ◌≤◌, length, map, take}
use Rattle.script_player.proofs.player.applied_by_all.Given as goal

abbrev pub invariant-loop-done : goal.invariant-loop-done
invariant-loop-done g l =
    (l.done ≤ length (g.S.ClusterInterface.state l.servers).servers)
    × (l.lengths ≡ map (λ s. length s.applied) (take l.done (g.S.ClusterInterface.state l.servers).servers))

abbrev pub decreases-loop-done : goal.decreases-loop-done
decreases-loop-done g l = length (g.S.ClusterInterface.state l.servers).servers - l.done
