use Rattle.std.proofs.Common.{◌∙◌}
use Rattle.catalog_table.proofs.Parts.{filter_all}
use Rattle.catalog_table.proofs.copies.all.Goals as goal

pub returns : goal.returns
returns g c = c.from.ensures ∙ c.in_ok-each.ensures ∙ filter_all c.args.rows.now.now
