use Rattle.raft_world.proofs.Fronting.{step_kept}
use Rattle.raft_world.proofs.laws.committed_entries_stay.Goals as goal

pub returns : goal.returns
returns c = step_kept
