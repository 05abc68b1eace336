use Rattle.node_link.proofs.Staying.{keeps_place}
use Rattle.node_link.proofs.laws.a_host_keeps_its_place.Goals as goal

pub returns : goal.returns
returns c host is = keeps_place host is
