use Rattle.raft_world.proofs.Fronting.{step_kept}
use Rattle.raft_world.proofs.Sharing.{stays}
use Rattle.raft_world.proofs.laws.agreed_list_stays.Goals as goal

pub returns : goal.returns
returns c = λ agreed nodes at outcome old input new sent l here step s.
    let kept = stays nodes at old new l here (λ x. step_kept x outcome old input new sent step) agreed s in
    (kept.list, kept.stands)
