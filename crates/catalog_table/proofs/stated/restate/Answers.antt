use Rattle.std.proofs.Common.{◌≡◌, ◌∙◌, ap, Some}
use Rattle.std.specs.Ordering.{nat_cmp}
use Rattle.std.proofs.lemmas.Cmp.{nat_cmp_total}
use Rattle.std.proofs.lemmas.Map.Lookups.{exact_unsigned}
use Rattle.cat_model.specs.Catalog.{check_key}
use Rattle.cat_model.specs.Keys.{pair_cmp}
use Rattle.row_table.specs.Filing.{unfiled}
use Rattle.catalog_table.specs.Filings.{rank}
use Rattle.catalog_table.proofs.Indexes.{back, moved}
use Rattle.catalog_table.proofs.Labels.{label_rank}
use Rattle.catalog_table.proofs.stated.restate.Goals as goal

pub returns-in-Err-clause-files : goal.returns-in-Err-clause-files
returns-in-Err-clause-files c =
    let row = c.args.row in let filed_statuses = c.file.new.statuses.now in
    let node : c.as_str.result.now ≡ row.node = c.as_str.ensures ∙ c.in_ok-node.ensures in
    let id : c.as_str-in-Err.result.now ≡ row.id = c.as_str-in-Err.ensures ∙ c.in_ok-id.ensures in
    back nat_cmp nat_cmp_total exact_unsigned check_key label_rank c.args.rows.now.now c.set.new.self.now c.args.statuses.now.now c.unfile.new.statuses.now (check_key row) (rank row.status) c.requires.files c.requires.other c.in-Err.ensures.same
    (c.unfile.ensures.now ∙ (λ i. unfiled nat_cmp pair_cmp (Some (rank row.status)) (node i, id i) filed_statuses) ∙ ap (unfiled nat_cmp pair_cmp (Some (rank row.status)) (check_key row)) c.in_ok-file.ensures.ok)

pub returns-clause-files : goal.returns-clause-files
returns-clause-files c =
    let row = c.args.row in let filed_statuses = c.file.new.statuses.now in
    moved nat_cmp nat_cmp_total exact_unsigned check_key label_rank c.args.rows.now.now c.set.new.self.now c.args.statuses.now.now c.unfile_old.new.statuses.now row c.requires.files c.requires.other c.in_default.ensures.ok
    (c.unfile_old.ensures.now ∙ (λ i. unfiled nat_cmp pair_cmp (c.old_status-old.ensures i) (c.in_ok-node.ensures i, c.in_ok-id.ensures i) filed_statuses) ∙ ap (unfiled nat_cmp pair_cmp _ (check_key row)) c.in_ok-file.ensures.ok)
