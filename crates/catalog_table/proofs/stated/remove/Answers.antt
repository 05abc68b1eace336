use Rattle.std.specs.Ordering.{nat_cmp}
use Rattle.std.proofs.lemmas.Cmp.{nat_cmp_total}
use Rattle.std.proofs.lemmas.Map.Lookups.{exact_unsigned}
use Rattle.cat_model.specs.Catalog.{check_key}
use Rattle.catalog_table.proofs.Indexes.{gone}
use Rattle.catalog_table.proofs.Labels.{label_rank}
use Rattle.catalog_table.proofs.stated.remove.Goals as goal

pub returns-clause-files : goal.returns-clause-files
returns-clause-files c =
    gone nat_cmp nat_cmp_total exact_unsigned check_key label_rank c.args.rows.now.now c.remove.new.self.now c.args.statuses.now.now c.take_status.new.statuses.now (c.args.node.now, c.args.id.now) c.requires.files c.remove.ensures.rows c.take_status.ensures.now
