use Rattle.std.proofs.Common.{rules, ◌∙◌, [], ◌∷◌}
use Rattle.std.proofs.lemmas.Result.{IfOk-weaker}
use Rattle.cat_model.specs.Queries.{is_of, check_view}
use Rattle.catalog_query.specs.Rows.{view_if}
use Rattle.catalog_query.proofs.Items.{made_where}
use Rattle.catalog_query.proofs.joins.views.Goals as goal

pub returns : goal.returns
returns c = IfOk-weaker c.chosen.result _ _ (λ l h. h (view_if c.args.services.now c.args.s.now) (λ x y k. search rules) ∙ made_where (is_of (c.args.s.now ∷ [])) (check_view c.args.services.now) c.args.checks.now) c.chosen.ensures
