use Rattle.catalog_table.proofs.OtherLists.{other_lists}
use Rattle.catalog_table.proofs.laws.other_lists_law.Goals as goal

pub returns : goal.returns
returns c = other_lists
