use Rattle.std.proofs.Common.{rules, ◌∙◌}
use Rattle.std.proofs.lemmas.Result.{IfOk-weaker}
use Rattle.catalog_query.proofs.NameLists.{tags_are}
use Rattle.catalog_query.proofs.names.tags_of.Goals as goal

pub returns : goal.returns
returns c = IfOk-weaker c.gathered.result _ _ (λ l h. h (λ s. s.tags) (λ x y k. search rules) ∙ tags_are c.args.services.now) c.gathered.ensures
