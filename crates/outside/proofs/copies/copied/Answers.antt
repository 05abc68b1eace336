use Rattle.cat_model.proofs.Clones.{entry_same}
use Rattle.outside.proofs.copies.copied.Goals as goal

pub returns : goal.returns
returns c = c.in_ok-copy.ensures.items_if_clones_equal entry_same
