use Rattle.http_front.proofs.Complete.{complete}
use Rattle.http_front.proofs.laws.nothing_is_left_out.Goals as goal

pub returns : goal.returns
returns x = complete
