use Rattle.std.proofs.Common.{refl, min, length}
use Rattle.raft_world.proofs.Sharing.{grown_list, grown_stands}
use Rattle.raft_world.proofs.laws.agreed_list_grows.Goals as goal

pub returns : goal.returns
returns c = λ agreed nodes at n l here s.
    let c = min n.commit (length n.log) in
    (grown_list nodes at n l here agreed c refl s, grown_stands nodes at n l here agreed c refl s)
