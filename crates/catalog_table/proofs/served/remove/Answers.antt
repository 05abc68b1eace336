use Rattle.std.proofs.Common.{◌∙◌, ap}
use Rattle.cat_model.specs.Catalog.{check_key}
use Rattle.cat_model.specs.Keys.{pair_cmp}
use Rattle.cat_model.proofs.Pairs.{pair_cmp_total, exact_pair}
use Rattle.row_table.specs.Filing.{unfiled}
use Rattle.catalog_table.specs.Filings.{home, Pair}
use Rattle.catalog_table.proofs.Indexes.{gone}
use Rattle.catalog_table.proofs.Labels.{home_is}
use Rattle.catalog_table.proofs.served.remove.Goals as goal

pub returns-clause-services : goal.returns-clause-services
returns-clause-services c =
    let key : Pair = (c.args.node.now, c.args.id.now) in let rows = c.args.rows.now.now in let services = c.args.services.now.now in
    gone pair_cmp pair_cmp_total exact_pair check_key home rows c.remove.new.rows.now services c.take_service.new.services.now key c.requires.services c.remove.ensures.rows
    (c.take_service.ensures.now ∙ ap (λ o. unfiled pair_cmp pair_cmp o key services) (home_is key rows))
