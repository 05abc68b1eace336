use Rattle.std.proofs.Common.{◌∙◌, sym, ap}
use Rattle.cat_model.specs.Machine.{act}
use Rattle.cat_model.specs.declared.applied.Applied.TheVariants.{Yes}
use Rattle.catalog_table.specs.Rows.{catalog_of}
use Rattle.catalog_table.proofs.Keeping.{deregister_whole}
use Rattle.catalog_table.proofs.table.CatalogTable.deregister.Goals as goal

pub returns-in-Ok-clause-ok : goal.returns-in-Ok-clause-ok
unfolding act
returns-in-Ok-clause-ok c = ap (λ k. (k, Yes)) (deregister_whole c.args.node.now c.args.service.now c.args.check.now c.args.self.now.now ∙ ap catalog_of (sym c.in-Ok.ensures.ok))
