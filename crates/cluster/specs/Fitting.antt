-- Whether a clock can go on.
use Rattle.std.specs.Prelude.{ℕ, Option}
use Rattle.run_rules.specs.declared.misfit.Misfit.{Misfit}
use Rattle.cluster_rules.specs.Cluster.{Cluster}
use Rattle.run_rules.specs.Lines.{clock_misfit, server_misfit}

-- the server is not there, or its clock would pass its end
abbrev pub time_misfit : Cluster → ℕ → ℕ → Option Misfit
time_misfit c server ms = clock_misfit c server ms (server_misfit c server)
