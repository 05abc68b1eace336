use Rattle.std.proofs.lemmas.Cmp.{nat_list_cmp_total}
use Rattle.std.proofs.lemmas.Map.Lookups.{exact_bytes}
use Rattle.cat_model.specs.Catalog.{service_key}
use Rattle.cat_model.specs.Keys.{text_cmp}
use Rattle.catalog_table.proofs.Indexes.{gone}
use Rattle.catalog_table.proofs.Labels.{label_name}
use Rattle.catalog_table.proofs.services.remove.Goals as goal

pub returns-clause-files : goal.returns-clause-files
returns-clause-files c =
    gone text_cmp nat_list_cmp_total exact_bytes service_key label_name c.args.rows.now.now c.remove.new.self.now c.args.names.now.now c.take_name.new.names.now (c.args.node.now, c.args.id.now) c.requires.files c.remove.ensures.rows c.take_name.ensures.now
