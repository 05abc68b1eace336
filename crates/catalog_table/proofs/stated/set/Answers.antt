use Rattle.std.proofs.Common.{◌∙◌, sym, subst}
use Rattle.std.specs.Ordering.{nat_cmp}
use Rattle.std.proofs.lemmas.Cmp.{nat_cmp_total}
use Rattle.std.proofs.lemmas.Map.Lookups.{exact_unsigned}
use Rattle.cat_model.specs.Catalog.{check_key}
use Rattle.catalog_table.specs.Filings.{FilesStatuses}
use Rattle.catalog_table.proofs.Indexes.{either, kept}
use Rattle.catalog_table.proofs.Labels.{label_rank}
use Rattle.catalog_table.proofs.stated.set.Goals as goal

pub returns-then-keeps_status-clause-files : goal.returns-then-keeps_status-clause-files
returns-then-keeps_status-clause-files c =
    let rows = c.args.rows.now.now in let statuses = c.args.statuses.now.now in
    let same = sym c.keeps_status.ensures ∙ c.if-keeps_status.true in
    either c.replace.result _ _ _ c.replace.ensures.ok c.replace.ensures.err
    (λ made. kept nat_cmp nat_cmp_total exact_unsigned check_key label_rank rows c.replace.new.rows.now statuses c.args.row c.requires.files same made)
    (λ stays. subst (λ l. FilesStatuses l statuses) (sym stays) c.requires.files)
