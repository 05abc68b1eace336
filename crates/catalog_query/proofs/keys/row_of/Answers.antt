use Rattle.std.proofs.Common.{◌∙◌, [], ◌∷◌, sym, ap}
use Rattle.std.specs.List.{cons_option}
use Rattle.cat_model.specs.Catalog.{kv_at}
use Rattle.cat_model.specs.Queries.{rows_or_absent}
use Rattle.cat_model.specs.declared.query.Answer.TheVariants.{Rows}
use Rattle.catalog_query.proofs.OneKey.{only_row}
use Rattle.catalog_query.proofs.keys.row_of.Goals as goal

pub returns-in-None : goal.returns-in-None
returns-in-None c =
    let rows = c.args.kv.now.now.rows in
    sym (ap rows_or_absent (only_row c.args.key.now rows c.get.ensures.order ∙ ap (λ o. cons_option o []) (ap (λ k. kv_at k rows) (sym c.as_str.ensures) ∙ sym c.in-None.ensures.row)))

pub returns-in_ok-one-in-Some : goal.returns-in_ok-one-in-Some
returns-in_ok-one-in-Some c =
    let rows = c.args.kv.now.now.rows in
    ap Rows c.in_ok-one-in-Some.ensures ∙ ap (λ r. Rows (r ∷ [])) c.in_ok-copy_of-in-Some.ensures
    ∙ sym (ap rows_or_absent (only_row c.args.key.now rows c.get.ensures.order ∙ ap (λ o. cons_option o []) (ap (λ k. kv_at k rows) (sym c.as_str.ensures) ∙ sym c.in-Some.ensures.row)))
