use Rattle.std.proofs.Common.{◌≡◌, ◌∙◌, ap, Some}
use Rattle.std.proofs.lemmas.Cmp.{nat_list_cmp_total}
use Rattle.std.proofs.lemmas.Map.Lookups.{exact_bytes}
use Rattle.cat_model.specs.Catalog.{service_key}
use Rattle.cat_model.specs.Keys.{pair_cmp, text_cmp}
use Rattle.row_table.specs.Filing.{unfiled}
use Rattle.catalog_table.proofs.Indexes.{back, moved}
use Rattle.catalog_table.proofs.Labels.{label_name}
use Rattle.catalog_table.proofs.services.rename.Goals as goal

pub returns-in-Err-clause-files : goal.returns-in-Err-clause-files
returns-in-Err-clause-files c =
    let row = c.args.row in let filed_names = c.file.new.names.now in
    let name : c.as_str.result.now ≡ row.name = c.as_str.ensures ∙ ap (λ r. r.name) c.in-Err.ensures.err in
    let node : c.as_str-in-Err.result.now ≡ row.node = c.as_str-in-Err.ensures ∙ c.in_ok-node.ensures in
    let id : c.as_str-in-Err-2.result.now ≡ row.id = c.as_str-in-Err-2.ensures ∙ c.in_ok-id.ensures in
    back text_cmp nat_list_cmp_total exact_bytes service_key label_name c.args.rows.now.now c.set.new.self.now c.args.names.now.now c.unfile.new.names.now (service_key row) row.name c.requires.files c.requires.other c.in-Err.ensures.same
    (c.unfile.ensures.now ∙ (λ i. unfiled text_cmp pair_cmp (Some (name i)) (node i, id i) filed_names) ∙ ap (unfiled text_cmp pair_cmp (Some row.name) (service_key row)) c.in_ok-file.ensures.ok)

pub returns-clause-files : goal.returns-clause-files
returns-clause-files c =
    let row = c.args.row in let filed_names = c.file.new.names.now in
    moved text_cmp nat_list_cmp_total exact_bytes service_key label_name c.args.rows.now.now c.set.new.self.now c.args.names.now.now c.unfile_old.new.names.now row c.requires.files c.requires.other c.in_default.ensures.ok
    (c.unfile_old.ensures.now ∙ (λ i. unfiled text_cmp pair_cmp (c.in_ok-name.ensures i) (c.in_ok-node.ensures i, c.in_ok-id.ensures i) filed_names) ∙ ap (unfiled text_cmp pair_cmp _ (service_key row)) c.in_ok-file.ensures.ok)
