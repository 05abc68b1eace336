use Rattle.catalog_table.proofs.Deregistering.{check_taken}
use Rattle.catalog_table.proofs.table.CatalogTable.take_check.Goals as goal

pub returns-clause-now : goal.returns-clause-now
returns-clause-now c = rw (← c.self.view_is) (check_taken c.args.node.now _ c.args.id.now c.remove.new.self.now c.remove.ensures.now)
