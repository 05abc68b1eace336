use Rattle.std.proofs.Common.{◌∙◌, cond, ap, filter}
use Rattle.cat_model.specs.Queries.{all_pass}
use Rattle.cat_model.specs.Executions.{none_critical, meets_all_tags}
use Rattle.catalog_query.proofs.Filtering.{filter_both}
use Rattle.catalog_query.proofs.executions.wanted.Goals as goal

pub returns : goal.returns
returns c =
    c.meeting_tags.ensures ∙ ap (filter (meets_all_tags c.args.row.now.tags)) c.healthy.ensures
    ∙ filter_both (λ x. cond c.args.row.now.only_passing (all_pass x) (none_critical x)) (meets_all_tags c.args.row.now.tags) c.args.found
