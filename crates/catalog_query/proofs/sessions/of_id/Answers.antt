use Rattle.std.proofs.Common.{◌∙◌, [], sym, ap}
use Rattle.std.specs.List.{cons_option}
use Rattle.cat_model.specs.declared.query.Answer.TheVariants.{Sessions}
use Rattle.catalog_query.proofs.OneKey.{only_session}
use Rattle.catalog_query.proofs.sessions.of_id.Goals as goal

pub returns : goal.returns
returns c =
    let rows = c.args.sessions.now.now in
    ap Sessions (c.in_ok-copy_if_any.ensures ∙ ap (λ o. cons_option o []) c.get.ensures.row ∙ sym (only_session c.args.id rows c.get.ensures.order))
