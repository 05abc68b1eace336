use Rattle.std.proofs.Common.{◌∙◌, ap, filter}
use Rattle.std.proofs.lemmas.Result.{IfOk-weaker}
use Rattle.cat_model.specs.Keys.{same_text}
use Rattle.catalog_table.specs.Rows.{catalog_of}
use Rattle.cat_model.specs.Lists.{flat}
use Rattle.catalog_query.specs.Placing.{placed}
use Rattle.catalog_query.proofs.Gathering.{gathered_instances}
use Rattle.catalog_query.proofs.instances.all_named.Goals as goal

pub returns : goal.returns
returns c =
    let k = catalog_of c.args.catalog.now.now in
    IfOk-weaker c.place_each.result _ _
    (λ l e. e ∙ ap (flat (placed k)) (c.as_slice.ensures ∙ c.in_ok-services.ensures ∙ ap (λ n. filter (λ s. same_text s.name n) k.services) c.as_str.ensures) ∙ gathered_instances k c.args.name.now) c.place_each.ensures
