use Rattle.std.proofs.Common.{◌∙◌, sym}
use Rattle.catalog_query.proofs.Filtering.{empty_is}
use Rattle.catalog_query.proofs.Naming.{none_named}
use Rattle.catalog_query.proofs.executions.find_named.Goals as goal

pub returns-then-is_empty : goal.returns-then-is_empty
returns-then-is_empty c = sym (none_named c.args.name.now c.args.queries.now.now (sym (empty_is c.args.name.now) ∙ sym c.is_empty.ensures ∙ c.if-is_empty.true))
