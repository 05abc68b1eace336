use Rattle.std.proofs.Common.{◌∙◌, sym, subst}
use Rattle.cat_model.specs.Catalog.{check_key}
use Rattle.cat_model.specs.Keys.{pair_cmp}
use Rattle.cat_model.proofs.Pairs.{pair_cmp_total, exact_pair}
use Rattle.catalog_table.specs.Filings.{home, FilesServices}
use Rattle.catalog_table.proofs.Indexes.{either, kept}
use Rattle.catalog_table.proofs.Labels.{service_place}
use Rattle.catalog_table.proofs.served.set.Goals as goal

pub returns-then-keeps_service-clause-services : goal.returns-then-keeps_service-clause-services
returns-then-keeps_service-clause-services c =
    let rows = c.args.rows.now.now in let services = c.args.services.now.now in
    let same = sym (service_place c.args.row rows) ∙ sym c.keeps_service.ensures ∙ c.if-keeps_service.true in
    either c.set.result _ _ _ c.set.ensures.ok c.set.ensures.err
    (λ made. kept pair_cmp pair_cmp_total exact_pair check_key home rows c.set.new.rows.now services c.args.row c.requires.services same made)
    (λ stays. subst (λ l. FilesServices l services) (sym stays) c.requires.services)
