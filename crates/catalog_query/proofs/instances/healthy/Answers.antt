use Rattle.std.proofs.Common.{◌∙◌, ◌||◌, not, ap, filter}
use Rattle.cat_model.specs.Queries.{has_all_tags, all_pass, instances, service_rows}
use Rattle.catalog_table.specs.Rows.{catalog_of}
use Rattle.catalog_query.proofs.Filtering.{filter_both}
use Rattle.catalog_query.proofs.instances.healthy.Goals as goal

pub returns : goal.returns
returns c =
    c.passing_if.ensures ∙ ap (filter (λ x. not c.args.passing || all_pass x)) c.in_ok-found.ensures
    ∙ filter_both (has_all_tags c.args.tags.now) (λ x. not c.args.passing || all_pass x) (instances (service_rows c.args.name.now (catalog_of c.args.catalog.now.now)))
