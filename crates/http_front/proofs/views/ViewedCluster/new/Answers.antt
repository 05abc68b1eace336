use Rattle.http_front.proofs.Agreeing.{nothing_begins}
use Rattle.http_front.proofs.views.ViewedCluster.new.Goals as goal

pub publish-requires : goal.publish-requires
publish-requires g c = record { begins = nothing_begins _ _ _ c.requires }
