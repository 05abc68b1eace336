use Rattle.std.proofs.Common.{◌∙◌, [], ◌∷◌, sym, ap}
use Rattle.std.specs.List.{cons_option}
use Rattle.cat_model.specs.Queries.{queries_or_absent}
use Rattle.cat_model.specs.declared.query.Answer.TheVariants.{Queries}
use Rattle.catalog_query.proofs.OneKey.{only_query}
use Rattle.catalog_query.proofs.queries.of_id.Goals as goal

pub returns-in-None : goal.returns-in-None
returns-in-None c =
    let rows = c.args.queries.now.now in
    sym (ap queries_or_absent (only_query c.args.id rows c.by_id.ensures.order ∙ ap (λ o. cons_option o []) (sym c.in-None.ensures.row)))

pub returns-in_ok-one-in-Some : goal.returns-in_ok-one-in-Some
returns-in_ok-one-in-Some c =
    let rows = c.args.queries.now.now in
    ap Queries c.in_ok-one-in-Some.ensures ∙ ap (λ r. Queries (r ∷ [])) c.in_ok-copy_of-in-Some.ensures
    ∙ sym (ap queries_or_absent (only_query c.args.id rows c.by_id.ensures.order ∙ ap (λ o. cons_option o []) (sym c.in-Some.ensures.row)))
