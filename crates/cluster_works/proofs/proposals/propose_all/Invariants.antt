use Rattle.std.proofs.Common.{◌≡◌, true, take}
use Rattle.cluster_rules.specs.Cluster.{runs_leading}
use Rattle.cluster_works.proofs.ProposedAll.{AllGone}
use Rattle.cluster_works.proofs.proposals.propose_all.Given as goal

abbrev pub invariant-loop-command : goal.invariant-loop-command
invariant-loop-command g l =
    (l.entered ≡ l.command-index) × (runs_leading l.servers.world l.fn.server ≡ true) × (l.servers.servers ≡ l.fn.servers.servers) × (l.server ≡ l.fn.server) × AllGone l.fn.server (take l.command-index l.commands) l.fn.servers l.fn.requests l.servers l.requests
