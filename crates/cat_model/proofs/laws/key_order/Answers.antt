use Rattle.cat_model.proofs.Order as order
use Rattle.cat_model.proofs.laws.key_order.Goals as goal

pub returns : goal.returns
returns c = order.key_order
