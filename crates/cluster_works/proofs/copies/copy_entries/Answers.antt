use Rattle.std.proofs.Common.{◌∙◌}
use Rattle.cat_model.proofs.Clones.{entry_same}
use Rattle.cluster_works.proofs.copies.copy_entries.Goals as goal

pub returns : goal.returns
returns c = c.from.ensures ∙ c.in_ok-copy.ensures.items_if_clones_equal entry_same
