use Rattle.std.proofs.Common.{◌≡◌, ◌∙◌, ap, sym, Some}
use Rattle.cat_model.specs.Catalog.{check_key}
use Rattle.cat_model.specs.Keys.{pair_cmp}
use Rattle.cat_model.proofs.Pairs.{pair_cmp_total, exact_pair}
use Rattle.row_table.specs.Filing.{unfiled}
use Rattle.catalog_table.specs.Filings.{home, homed}
use Rattle.catalog_table.proofs.Indexes.{back, moved}
use Rattle.catalog_table.proofs.Labels.{home_is, service_place}
use Rattle.catalog_table.proofs.served.refile.Goals as goal

pub returns-in-Err-clause-services : goal.returns-in-Err-clause-services
returns-in-Err-clause-services c =
    let row = c.args.row in let rows = c.args.rows.now.now in let filed_services = c.file.new.services.now in
    let node : c.as_str.result.now ≡ row.node = c.as_str.ensures ∙ c.in_ok-node.ensures in
    let service : c.as_str-in-Err.result.now ≡ row.service = c.as_str-in-Err.ensures ∙ c.in_ok-service.ensures in
    let id : c.as_str-in-Err-2.result.now ≡ row.id = c.as_str-in-Err-2.ensures ∙ c.in_ok-id.ensures in
    back pair_cmp pair_cmp_total exact_pair check_key home rows c.set.new.rows.now c.args.services.now.now c.unfile.new.services.now (check_key row) (home row) c.requires.services (sym (service_place row rows) ∙ c.requires.other) c.in-Err.ensures.err
    (c.unfile.ensures.now ∙ (λ i. unfiled pair_cmp pair_cmp (Some (node i, service i)) (node i, id i) filed_services) ∙ ap (unfiled pair_cmp pair_cmp (Some (home row)) (check_key row)) c.in_ok-file.ensures.ok)

pub returns-clause-services : goal.returns-clause-services
returns-clause-services c =
    let row = c.args.row in let rows = c.args.rows.now.now in let filed_services = c.file.new.services.now in
    moved pair_cmp pair_cmp_total exact_pair check_key home rows c.set.new.rows.now c.args.services.now.now c.unfile_old.new.services.now row c.requires.services (sym (service_place row rows) ∙ c.requires.other) c.in_default.ensures.ok
    (c.unfile_old.ensures.now ∙ (λ i. unfiled pair_cmp pair_cmp (homed (c.in_ok-node.ensures i) (c.in_ok-old.ensures i)) (c.in_ok-node.ensures i, c.in_ok-id.ensures i) filed_services)
    ∙ ap (λ o. unfiled pair_cmp pair_cmp o (check_key row) filed_services) (home_is (check_key row) rows) ∙ ap (unfiled pair_cmp pair_cmp _ (check_key row)) c.in_ok-file.ensures.ok)
