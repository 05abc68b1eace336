use Rattle.std.proofs.Common.{◌∙◌, sym, subst}
use Rattle.std.proofs.lemmas.Cmp.{nat_list_cmp_total}
use Rattle.std.proofs.lemmas.Map.Lookups.{exact_bytes}
use Rattle.cat_model.specs.Catalog.{service_key}
use Rattle.cat_model.specs.Keys.{text_cmp}
use Rattle.catalog_table.specs.Filings.{FilesNames}
use Rattle.catalog_table.proofs.Indexes.{either, kept}
use Rattle.catalog_table.proofs.Labels.{label_name}
use Rattle.catalog_table.proofs.services.set.Goals as goal

pub returns-then-keeps_name-clause-files : goal.returns-then-keeps_name-clause-files
returns-then-keeps_name-clause-files c =
    let rows = c.args.rows.now.now in let names = c.args.names.now.now in
    let same = sym c.keeps_name.ensures ∙ c.if-keeps_name.true in
    either c.replace.result _ _ _ c.replace.ensures.ok c.replace.ensures.err
    (λ made. kept text_cmp nat_list_cmp_total exact_bytes service_key label_name rows c.replace.new.rows.now names c.args.row c.requires.files same made)
    (λ stays. subst (λ l. FilesNames l names) (sym stays) c.requires.files)
