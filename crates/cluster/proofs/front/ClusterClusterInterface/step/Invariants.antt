use Rattle.cluster.proofs.front.ClusterClusterInterface.step.Given as goal

abbrev pub ghosts-step : goal.ghosts-step
ghosts-step g a = record { name = a.blank.name; parts = a.blank.parts }
