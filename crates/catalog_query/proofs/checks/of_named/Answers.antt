use Rattle.std.proofs.Common.{rules, ◌∙◌, ap, filter}
use Rattle.std.proofs.lemmas.Fn.{filter_same}
use Rattle.cat_model.specs.Queries.{service_named}
use Rattle.catalog_table.specs.Rows.{catalog_of}
use Rattle.catalog_query.proofs.checks.of_named.Goals as goal

pub returns : goal.returns
returns c = c.from.ensures ∙ filter_same _ (service_named (catalog_of c.args.catalog.now.now) c.args.name.now) _ (λ x b f' k. search rules) _ _ c.retain.ensures.filtered ∙ ap (filter (service_named (catalog_of c.args.catalog.now.now) c.args.name.now)) c.into_vec-rows.ensures
